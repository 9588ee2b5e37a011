use Rattle.std.proofs.Common.{◌≡◌, ℕ, ◌<◌, ◌*◌, length, ◌∙◌, ap, ap₂, sym, subst, arith}
use native.Mathlib.Nat.{suc-mul}
use Rattle.nf_num.specs.Rational.{◌+ℚ◌, ◌*ℚ◌}
use Rattle.nf_num.specs.Sum.{sum_ℚ}
use Rattle.nf_num.proofs.Sums.{sum-zero, sum_more}
use Rattle.nf_sums.specs.Terms.{Is}
use Rattle.nf_sums.specs.Rows.{inverse_terms}
use Rattle.nf_sums.proofs.Up.{handed_on}
use Rattle.nf_sums.proofs.Laws.{wider, product_added}
use Rattle.nf_inverse.specs.Causes.{DualTerms}
use Rattle.nf_inverse.specs.Weights.{at, weight}
use Rattle.nf_inverse.proofs.inverse.Inverse.duals.Goals as goal

pub loop-s-init : goal.loop-s-init
loop-s-init g c = record { total = λ f h i b. c.set_zero.ensures i ∙ sym (sum-zero _); cost = omega arith }

pub returns-in_err-add_multiple-clause-passed : goal.returns-in_err-add_multiple-clause-passed
returns-in_err-add_multiple-clause-passed g c = λ f h.
    let here : c.loop-s.s < length c.args.self.now = omega (arith, c.size-s-end.ensures.number) in
    let long : length c.loop-s.out ≡ length c.args.self.now = c.loop-s.auto.out ∙ c.set_zero.auto.out ∙ c.requires.places in
    let step = c.in_err-add_multiple.ensures.passed in
    let i = step.0 in
    let within : i < length c.args.self.now = subst (λ n. i < n) long step.1 in
    handed_on c.from_residual.result _ _ c.from_residual.ensures.1
    (wider (Is (inverse_terms (length c.args.self.now) (λ s. weight c.args.self.now s i) f)) (DualTerms c.args.self.now f) _ (λ t e. (i, within, e))
    (product_added (length c.args.self.now) c.loop-s.s (λ s. weight c.args.self.now s i) f _ _ _ _ here (c.loop-s.invariant.total f h i within) (ap (λ l. at l i) c.row.ensures.weights) (h c.loop-s.s c.cost.result here c.cost.ensures) step.2))

pub loop-s-preserved : goal.loop-s-preserved
loop-s-preserved g c =
    let here : c.loop-s.s < length c.args.self.now = omega (arith, c.size-s-end.ensures.number) in
    let long : length c.loop-s.out ≡ length c.args.self.now = c.loop-s.auto.out ∙ c.set_zero.auto.out ∙ c.requires.places in
    record {
      total = λ f h i b.
          c.in_ok-add_multiple.ensures.value i (subst (λ n. i < n) (sym long) b)
          ∙ ap₂ ◌+ℚ◌ (c.loop-s.invariant.total f h i b) (ap₂ ◌*ℚ◌ (ap (λ l. at l i) c.row.ensures.weights) (h c.loop-s.s c.cost.result here c.cost.ensures))
          ∙ sym (sum_more c.loop-s.s (λ k. weight c.args.self.now k i *ℚ f k));
      cost = omega (arith, c.loop-s.invariant.cost, c.add_multiple.ensures.cost, long, suc-mul c.loop-s.s (2 * length c.args.self.now));
    }

pub returns-clause-value : goal.returns-clause-value
returns-clause-value g c = λ f h i b.
    let all : c.loop-s.s ≡ length c.args.self.now = omega (arith, c.size-s-end.ensures.number) in
    c.loop-s.invariant.total f h i b ∙ ap (λ (n : ℕ). sum_ℚ n (λ k. weight c.args.self.now k i *ℚ f k)) all
