use Rattle.std.proofs.Common.{◌∙◌}
use Rattle.nf_prob.proofs.Arises.{column_passed}
use Rattle.nf_prob.proofs.ColumnSums.{numbers_within, combined_taken, weight_taken, value_taken}
use Rattle.nf_sums.proofs.Up.{handed_on}
use Rattle.nf_prob.proofs.check.combined_at.Goals as goal

pub sum_products-requires : goal.sum_products-requires
sum_products-requires g c =
    let e = c.entries_at-entries in
    record { given = λ k h. (h, numbers_within c.args.p.now c.args.y.now c.args.j e.result.now e.ensures.problem c.requires.duals c.requires.within e.ensures.entries e.ensures.numbered k h) }

pub returns-in_err-total-clause-passed : goal.returns-in_err-total-clause-passed
returns-in_err-total-clause-passed g c =
    let e = c.entries_at-entries in
    handed_on c.from_residual.result _ _ c.from_residual.ensures.1 (column_passed c.args.p.now c.args.y.now c.args.j e.result.now _ e.ensures.problem c.requires.within e.ensures.entries e.ensures.numbered (c.in_err-total.ensures.passed (weight_taken c.args.y.now e.result.now) (value_taken e.result.now) (λ k t h p. p)))

pub returns-clause-value : goal.returns-clause-value
returns-clause-value g c =
    let e = c.entries_at-entries in
    c.in_ok-total.ensures.value (weight_taken c.args.y.now e.result.now) (value_taken e.result.now) (λ k t h p. p) ∙ combined_taken c.args.p.now c.args.y.now c.args.j e.result.now e.ensures.problem c.requires.within e.ensures.entries
