use Rattle.std.proofs.Common.{◌∙◌, ap}
use Rattle.nf_num.specs.Rational.{◌*ℚ◌}
use Rattle.nf_num.specs.Sum.{sum_ℚ}
use Rattle.nf_model.specs.Program.{at, column}
use Rattle.nf_prob.proofs.Arises.{total_passed}
use Rattle.nf_sums.proofs.Up.{handed_on}
use Rattle.nf_prob.proofs.check.total_cost.Goals as goal

pub returns-in_err-total-clause-passed : goal.returns-in_err-total-clause-passed
returns-in_err-total-clause-passed g c = handed_on c.from_residual.result _ _ c.from_residual.ensures.1 (total_passed c.args.p.now c.args.x.now _ _ c.columns.ensures.number (c.in_err-total.ensures.passed (λ k. (column c.args.p.now k).cost) (at c.args.x.now) (λ k t h p. p)))

pub returns-clause-value : goal.returns-clause-value
returns-clause-value g c = c.in_ok-total.ensures.value (λ k. (column c.args.p.now k).cost) (at c.args.x.now) (λ k t h p. p) ∙ ap (λ n. sum_ℚ n (λ k. (column c.args.p.now k).cost *ℚ at c.args.x.now k)) c.columns.ensures.number
