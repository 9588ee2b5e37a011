use Rattle.std.proofs.Common.{◌≡◌, ◌∙◌, true, false, sym, ap, rules}
use Rattle.std.specs.Str.{is_utf8}
use Rattle.nf_table.proofs.CellFacts.{all-fails, all-more, take-all}
use Rattle.nf_table.proofs.reading.has_text_cells.Goals as goal

pub returns-then-not-is_text_cell : goal.returns-then-not-is_text_cell
returns-then-not-is_text_cell c =
    let cell = rw (c.loop-cell.invariant.2, c.in-Some.is) at (sym c.next.ensures.steps.1) in
    let bad : is_utf8 c.in-Some.cell.now ≡ false = search rules in
    sym (all-fails is_utf8 _ _ _ cell bad)

pub loop-cell-preserved : goal.loop-cell-preserved
loop-cell-preserved c =
    let cell = rw (c.loop-cell.invariant.2, c.in-Some.is) at (sym c.next.ensures.steps.1) in
    let at = rw c.in-Some.is at c.next.ensures.steps.2 in
    let row = ap (λ r. r.now) c.next.ensures.steps.0 ∙ c.loop-cell.invariant.2 in
    let good : is_utf8 c.in-Some.cell.now ≡ true = search rules in
    (tt, tt, row, rw at (all-more is_utf8 _ _ _ cell c.loop-cell.invariant.3 good))

pub returns : goal.returns
returns c =
    let none = rw (c.loop-cell.invariant.2, c.in-None.is) at (sym c.next.ensures.steps.1) in
    sym (rw (take-all _ _ none) at c.loop-cell.invariant.3)
