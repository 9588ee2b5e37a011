use Rattle.std.proofs.Common.{◌≡◌, ℕ, ◌<◌, ◌+◌, ◌*◌, length, mul-le-mul_right, refl, ◌∙◌, ap, ap₂, sym, subst, arith}
use native.Mathlib.Nat.{suc-mul}
use Rattle.nf_num.specs.Rational.{◌+ℚ◌, ◌*ℚ◌}
use Rattle.nf_num.specs.Sum.{sum_ℚ}
use Rattle.nf_num.proofs.Sums.{sum-zero, sum_more}
use Rattle.nf_sums.specs.Rows.{inverse_terms, product_terms}
use Rattle.nf_sums.proofs.Up.{handed_on}
use Rattle.nf_sums.proofs.Laws.{in_part, product_added}
use Rattle.nf_inverse.specs.Causes.{EntryTerms}
use Rattle.nf_inverse.specs.Weights.{weight}
use Rattle.nf_inverse.proofs.Sums.{entries_part, entries_sum}
use Rattle.nf_inverse.proofs.inverse.Inverse.column.Goals as goal

pub loop-k-init : goal.loop-k-init
loop-k-init g c = record { total = λ a h s b. c.set_zero.ensures s ∙ sym (sum-zero _); cost = omega arith }

pub returns-in_err-add_column-clause-passed : goal.returns-in_err-add_column-clause-passed
returns-in_err-add_column-clause-passed g c = λ a h.
    let here : c.loop-k.k < c.args.count = c.loop-k-test.true in
    let long : length c.loop-k.out ≡ length c.args.self.now = c.loop-k.auto.out ∙ c.set_zero.auto.out ∙ c.requires.places in
    let read = h.entries c.loop-k.k c.entry-row.result here c.entry-row.ensures in
    let step = c.in_err-add_column.ensures.passed in
    let s = step.0 in
    let within : s < length c.args.self.now = subst (λ n. s < n) long step.1 in
    handed_on c.from_residual.result _ _ c.from_residual.ensures.1
    (in_part (product_terms c.args.count (λ k. weight c.args.self.now s (h.row k)) (λ k. a (h.row k))) (inverse_terms (length c.args.self.now) (weight c.args.self.now s) a) (EntryTerms c.args.self.now a) _ (entries_part _ c.args.count (length c.args.self.now) (weight c.args.self.now s) a h) (s, within, refl)
    (product_added c.args.count c.loop-k.k (λ k. weight c.args.self.now s (h.row k)) (λ k. a (h.row k)) _ _ _ _ here (c.loop-k.invariant.total a h s within) (ap (λ (i : ℕ). weight c.args.self.now s i) read.0) read.1 step.2))

pub returns-in_err-add_column-clause-cost : goal.returns-in_err-add_column-clause-cost
returns-in_err-add_column-clause-cost g c =
    let long : length c.loop-k.out ≡ length c.args.self.now = c.loop-k.auto.out ∙ c.set_zero.auto.out ∙ c.requires.places in
    omega (arith, c.loop-k.invariant.cost, c.add_column.ensures.cost, long, c.loop-k-test.true, suc-mul c.loop-k.k (2 * length c.args.self.now), mul-le-mul_right {m = c.loop-k.k + 1} {n = c.args.count} (2 * length c.args.self.now) (omega arith))

pub loop-k-preserved : goal.loop-k-preserved
loop-k-preserved g c =
    let here : c.loop-k.k < c.args.count = c.loop-k-test.true in
    let long : length c.loop-k.out ≡ length c.args.self.now = c.loop-k.auto.out ∙ c.set_zero.auto.out ∙ c.requires.places in
    record {
      total = λ a h s b.
          let read = h.entries c.loop-k.k c.entry-row.result here c.entry-row.ensures in
          c.in_ok-add_column.ensures.value s (subst (λ n. s < n) (sym long) b)
          ∙ ap₂ ◌+ℚ◌ (c.loop-k.invariant.total a h s b) (ap₂ ◌*ℚ◌ (ap (λ (i : ℕ). weight c.args.self.now s i) read.0) read.1)
          ∙ sym (sum_more c.loop-k.k (λ k. weight c.args.self.now s (h.row k) *ℚ a (h.row k)));
      cost = omega (arith, c.loop-k.invariant.cost, c.add_column.ensures.cost, long, suc-mul c.loop-k.k (2 * length c.args.self.now));
    }

pub returns-clause-value : goal.returns-clause-value
returns-clause-value g c = λ a h s b.
    let all : c.loop-k.k ≡ c.args.count = omega arith in
    c.loop-k.invariant.total a h s b
    ∙ ap (λ (n : ℕ). sum_ℚ n (λ k. weight c.args.self.now s (h.row k) *ℚ a (h.row k))) all
    ∙ entries_sum _ c.args.count (length c.args.self.now) (weight c.args.self.now s) a h
