use Rattle.std.proofs.Common.{◌-◌, ◌∙◌, arith}
use Rattle.nf_prob.proofs.Arises.{row_passed}
use Rattle.nf_prob.proofs.RowSums.{row_sum_taken, coefficient_taken, number_taken}
use Rattle.nf_sums.proofs.Up.{handed_on}
use Rattle.nf_stage_two.proofs.dense.sum_of_row.Goals as goal

pub returns-in_err-sum-clause-passed : goal.returns-in_err-sum-clause-passed
returns-in_err-sum-clause-passed g c =
    let e = c.row_entries-entries in
    let p = c.args.p.now in
    handed_on c.from_residual.result _ _ c.from_residual.ensures.1
    (row_passed p c.args.weights.now (c.args.i - 1) e.result.now _ e.ensures.problem (omega (arith, c.requires.row.0, c.requires.row.1)) e.ensures.entries (c.in_err-sum.ensures.passed (coefficient_taken e.result.now) (number_taken c.args.weights.now e.result.now) (λ k t h p. p)))

pub returns-clause-value : goal.returns-clause-value
returns-clause-value g c =
    let e = c.row_entries-entries in
    c.in_ok-sum.ensures.value (coefficient_taken e.result.now) (number_taken c.args.weights.now e.result.now) (λ k t h p. p) ∙ row_sum_taken c.args.p.now c.args.weights.now (c.args.i - 1) e.result.now e.ensures.problem e.ensures.entries
