use Rattle.std.proofs.Common.{◌∙◌}
use Rattle.nf_num.specs.Rational.{neg_ℚ}
use Rattle.nf_sums.proofs.Up.{handed_on}
use Rattle.nf_work.specs.Causes.{numbers}
use Rattle.nf_work.proofs.work.change_by_row.Goals as goal

pub returns-in_err-duals-clause-passed : goal.returns-in_err-duals-clause-passed
returns-in_err-duals-clause-passed g c =
    let xs = c.args.row.now in
    handed_on c.from_residual.result _ _ c.from_residual.ensures.1 (c.in_err-duals.ensures.passed (λ b. neg_ℚ (numbers xs b)) (λ k t h q. q))

pub returns-clause-value : goal.returns-clause-value
returns-clause-value g c =
    let xs = c.args.row.now in
    record {
      size = c.put_weights.ensures.size;
      there = λ r h. c.put_weights.ensures.there r h ∙ c.in_ok-duals.ensures.value (λ b. neg_ℚ (numbers xs b)) (λ k t h q. q) r h;
      others = c.put_weights.ensures.others;
    }
