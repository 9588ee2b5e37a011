use Rattle.std.proofs.Common.{sym, ◌∙◌, ap₂, arith}
use Rattle.nf_num.specs.Rational.{◌+ℚ◌}
use Rattle.nf_num.proofs.Sums.{sum-zero, sum_more}
use Rattle.nf_sums.proofs.Laws.{number_added, passes_from}
use Rattle.nf_sums.proofs.Up.{handed_on}
use Rattle.nf_frac.specs.declared.Op.TheVariants.{Add}
use Rattle.nf_sums.proofs.sums.sum_numbers.Goals as goal

pub loop-k-init : goal.loop-k-init
loop-k-init g c = record { total = λ a h. c.zero-total.ensures ∙ sym (sum-zero _); cost = omega arith }

pub returns-in_err-total-clause-passed : goal.returns-in_err-total-clause-passed
returns-in_err-total-clause-passed g c = λ a h.
    let here = h c.loop-k.k c.number-a.result c.loop-k-test.true c.number-a.ensures in
    handed_on c.from_residual.result _ _ c.from_residual.ensures.1
    (number_added c.args.count c.loop-k.k a _ _ _ c.loop-k-test.true (c.loop-k.invariant.total a h) here c.in_err-total.ensures.passed.0 (passes_from Add _ _ _ c.in_err-total.ensures.passed.0 c.in_err-total.ensures.passed.1))

pub loop-k-preserved : goal.loop-k-preserved
loop-k-preserved g c = record {
  total = λ a h.
      let here = h c.loop-k.k c.number-a.result c.loop-k-test.true c.number-a.ensures in
      c.in_ok-total.ensures.value ∙ ap₂ ◌+ℚ◌ (c.loop-k.invariant.total a h) here ∙ sym (sum_more _ _);
  cost = omega (arith, c.loop-k.invariant.cost, c.sum.ensures.cost);
}
