use Rattle.std.proofs.Common.{◌∙◌, ◌-◌, ◌<◌, length, arith}
use Rattle.nf_prob.proofs.Arises.{row_passed}
use Rattle.nf_prob.proofs.RowSums.{row_numbers_within, row_sum_taken, coefficient_taken, number_taken}
use Rattle.nf_sums.proofs.Up.{handed_on}
use Rattle.nf_figures.proofs.Arising.{sum-passed}
use Rattle.nf_figures.proofs.rows.sum_of_row.Goals as goal

pub sum_products-requires : goal.sum_products-requires
sum_products-requires g c =
    let e = c.row_entries-entries in
    record { given = λ k h. (h, row_numbers_within c.args.p.now c.args.flows.now (c.args.i - 1) e.result.now e.ensures.problem c.requires.values e.ensures.entries k h) }

pub returns-in_err-total-clause-passed : goal.returns-in_err-total-clause-passed
returns-in_err-total-clause-passed g c s given =
    let e = c.row_entries-entries in
    let within : c.args.i - 1 < length c.args.p.now.rows = omega (arith, c.requires.number.0, c.requires.number.1) in
    handed_on c.from_residual.result _ _ c.from_residual.ensures.1 (sum-passed c.args.p.now s c.args.flows.now given _ (row_passed c.args.p.now c.args.flows.now (c.args.i - 1) e.result.now _ e.ensures.problem within e.ensures.entries (c.in_err-total.ensures.passed (coefficient_taken e.result.now) (number_taken c.args.flows.now e.result.now) (λ k t h p. p))))

pub returns-clause-value : goal.returns-clause-value
returns-clause-value g c =
    let e = c.row_entries-entries in
    c.in_ok-total.ensures.value (coefficient_taken e.result.now) (number_taken c.args.flows.now e.result.now) (λ k t h p. p) ∙ row_sum_taken c.args.p.now c.args.flows.now (c.args.i - 1) e.result.now e.ensures.problem e.ensures.entries
