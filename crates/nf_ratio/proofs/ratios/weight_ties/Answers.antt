use Rattle.std.proofs.Common.{◌≡◌, ℕ, ◌<◌, length, Option, Some, sym, ap, ◌∙◌, subst, arith}
use Rattle.nf_num.specs.Rational.{ℚ}
use Rattle.nf_model.specs.Program.{at}
use Rattle.nf_sums.specs.Rows.{quotient_terms}
use Rattle.nf_sums.specs.Terms.{Is}
use Rattle.nf_sums.proofs.Laws.{wider}
use Rattle.nf_sums.proofs.Up.{handed_on}
use Rattle.nf_ratio.specs.Loops.{WeightTerms, weight_ratio_at}
use Rattle.nf_ratio.specs.Ties.{AreLeast, IsOffered, tie}
use Rattle.nf_ratio.proofs.Offers.{offered, stays}
use Rattle.nf_ratio.proofs.Slots.{rising}
use Rattle.nf_ratio.proofs.ratios.weight_ties.Goals as goal

pub returns-in_err-ratio-clause-passed : goal.returns-in_err-ratio-clause-passed
returns-in_err-ratio-clause-passed g c =
    let k = c.loop-k.k in
    let E = c.args.entries.now in
    let W = c.args.weights.now in
    let here : tie c.loop-k.ties k ≡ tie c.args.ties.now k = c.loop-k.invariant.rest k (omega arith) in
    let h = c.in_err-ratio.ensures.passed in
    handed_on c.from_residual.result _ _ c.from_residual.ensures.1
    (wider (Is (quotient_terms (at W k) (at E (tie c.loop-k.ties k)))) (WeightTerms E W c.args.ties.now c.args.count) _
    (λ t z. (k, c.loop-k-test.true, subst (λ i. i < length E) here h.0, z ∙ ap (λ i. quotient_terms (at W k) (at E i)) here)) h.1)

pub weight_ratio-requires-clause-weight : goal.weight_ratio-requires-clause-weight
weight_ratio-requires-clause-weight g c h =
    let k = c.loop-k.k in
    let here : tie c.loop-k.ties k ≡ tie c.args.ties.now k = c.loop-k.invariant.rest k (omega arith) in
    let a = rising c.args.ties.now c.args.count c.requires.in_order k c.loop-k-test.true in
    let b = c.requires.weights in
    omega (arith, here, a, b, h)

pub loop-k-preserved : goal.loop-k-preserved
loop-k-preserved g c =
    let old = c.args.ties.now in
    let k = c.loop-k.k in
    let ratio : ℕ → Option ℚ = λ j. Some (weight_ratio_at c.args.down c.args.entries.now (at c.args.weights.now j) (tie c.args.ties.now j)) in
    let here : tie c.loop-k.ties k ≡ tie old k = c.loop-k.invariant.rest k (omega arith) in
    let o = subst (λ q. IsOffered c.loop-k.found c.loop-k.ties q c.in_ok-ratio.ratio c.offer-found.result c.offer-found.new.ties) here c.offer-found.ensures.offered in
    let few = c.loop-k.invariant.ties.few in
    let long = c.loop-k.auto.ties in
    let most = c.requires.few in
    let test = c.loop-k-test.true in
    record {
      ties = offered (tie old) (λ j. Some (weight_ratio_at c.args.down c.args.entries.now (at c.args.weights.now j) (tie c.args.ties.now j))) k c.loop-k.ties c.loop-k.found c.loop-k.invariant.ties c.in_ok-ratio.ratio
          (ap Some (sym (c.in_ok-ratio.ensures.value ∙ ap (weight_ratio_at c.args.down c.args.entries.now (at c.args.weights.now k)) here))) (λ j h. c.requires.in_order j k h test) (omega (arith, few, long, most, test)) c.offer-found.result c.offer-found.new.ties o;
      rest = λ j h. stays (tie old) (λ j. Some (weight_ratio_at c.args.down c.args.entries.now (at c.args.weights.now j) (tie c.args.ties.now j))) k c.loop-k.ties c.loop-k.found c.in_ok-ratio.ratio (tie old k) c.offer-found.result c.offer-found.new.ties c.loop-k.invariant.ties o j (omega (arith, h))
          ∙ c.loop-k.invariant.rest j (omega (arith, h));
      cost = (let a = c.loop-k.invariant.cost in let b = c.weight_ratio.ensures.cost in omega (arith, a, b));
    }

pub returns-clause-ties : goal.returns-clause-ties
returns-clause-ties g c =
    let e : c.loop-k.k ≡ c.args.count = omega arith in
    subst (λ n. AreLeast (tie c.args.ties.now) (λ j. Some (weight_ratio_at c.args.down c.args.entries.now (at c.args.weights.now j) (tie c.args.ties.now j))) n c.loop-k.ties c.loop-k.found) e c.loop-k.invariant.ties
