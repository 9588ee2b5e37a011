use Rattle.std.proofs.Common.{◌∙◌, ap, arith, sym, Some}
use Rattle.nf_cells.specs.Cells.{value_of}
use Rattle.nf_warm.proofs.CellFacts.{due-value}
use Rattle.nf_warm.proofs.rows.value_at.Goals as goal

pub returns-then-not-is_due : goal.returns-then-not-is_due
returns-then-not-is_due c =
    let d = due-value c.args.table.now c.args.at.now c.args.k c.args.number c.args.key.now _ _ c.is_due.result (omega (arith, c.rows.ensures, c.if-rows-k.false)) (c.trimmed-found.ensures.value ∙ ap value_of c.cell.ensures) (c.trimmed-numbered.ensures.value ∙ ap value_of c.cell-2.ensures) c.is_due.ensures in
    sym (rw c.if-not-is_due.true at d)

pub returns : goal.returns
returns c =
    let d = due-value c.args.table.now c.args.at.now c.args.k c.args.number c.args.key.now _ _ c.is_due.result (omega (arith, c.rows.ensures, c.if-rows-k.false)) (c.trimmed-found.ensures.value ∙ ap value_of c.cell.ensures) (c.trimmed-numbered.ensures.value ∙ ap value_of c.cell-2.ensures) c.is_due.ensures in
    ap (λ v. Some v) (c.trimmed.ensures.value ∙ ap value_of c.cell-3.ensures) ∙ sym (rw c.if-not-is_due.false at d)
