use Rattle.std.proofs.Common.{◌∙◌, sym, ap, append_assoc}
use Rattle.nf_table.proofs.CellFacts.{take-all, take-cell}
use Rattle.nf_table.proofs.reading.push_cells.Goals as goal

pub loop-cell-preserved : goal.loop-cell-preserved
loop-cell-preserved c =
    let inv = c.loop-cell.invariant in
    let cell = rw (inv.0, c.in-Some.is) at (sym c.next.ensures.steps.1) in
    let at = rw c.in-Some.is at c.next.ensures.steps.2 in
    let row = ap (λ r. r.now) c.next.ensures.steps.0 ∙ inv.0 in
    let fields = rw (inv.2, inv.1) at c.in_ok-push_field.ensures.fields in
    (row, rw (at, take-cell _ _ _ cell) (rw append_assoc at fields), c.in_ok-push_field.ensures.partial)

pub returns-clause-cells : goal.returns-clause-cells
returns-clause-cells c =
    let inv = c.loop-cell.invariant in
    let none = rw (inv.0, c.in-None.is) at (sym c.next.ensures.steps.1) in
    rw (take-all _ _ none) at inv.1
