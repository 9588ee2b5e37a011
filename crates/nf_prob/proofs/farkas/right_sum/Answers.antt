use Rattle.std.proofs.Common.{◌∙◌, ap}
use Rattle.nf_num.specs.Rational.{◌*ℚ◌}
use Rattle.nf_num.specs.Sum.{sum_ℚ}
use Rattle.nf_model.specs.Program.{at, row}
use Rattle.nf_prob.proofs.Arises.{right_passed}
use Rattle.nf_sums.proofs.Up.{handed_on}
use Rattle.nf_prob.proofs.farkas.right_sum.Goals as goal

pub returns-in_err-total-clause-passed : goal.returns-in_err-total-clause-passed
returns-in_err-total-clause-passed g c = handed_on c.from_residual.result _ _ c.from_residual.ensures.1 (right_passed c.args.p.now c.args.y.now _ _ c.rows.ensures.number (c.in_err-total.ensures.passed (at c.args.y.now) (λ k. (row c.args.p.now k).right) (λ k t h p. p)))

pub returns-clause-value : goal.returns-clause-value
returns-clause-value g c = c.in_ok-total.ensures.value (at c.args.y.now) (λ k. (row c.args.p.now k).right) (λ k t h p. p) ∙ ap (λ n. sum_ℚ n (λ k. at c.args.y.now k *ℚ (row c.args.p.now k).right)) c.rows.ensures.number
