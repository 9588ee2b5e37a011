use Rattle.std.proofs.Common.{◌≡◌, true, false, inr, sym}
use Rattle.std.specs.List.{list_all}
use Rattle.std.specs.Str.{is_utf8}
use Rattle.nf_table.proofs.RecordFacts.{next-shorter}
use Rattle.nf_table.proofs.RowFacts.{rows-end, rows-more, rows-none, rows-not-text, rows-other}
use Rattle.nf_table.proofs.reading.read_rows.Goals as goal

pub rows-init : goal.rows-init
rows-init c = rows-none c.args.records.now c.args.cells.now c.requires.going c.requires.rests c.requires.few c.requires.expected c.requires.partial c.requires.text

pub returns-in-OtherLength : goal.returns-in-OtherLength
returns-in-OtherLength c = inr (rows-other _ _ _ _ _ c.rows.invariant (rw c.in-OtherLength.is at c.in_ok-advance.ensures))

pub returns-in-End : goal.returns-in-End
returns-in-End c = rows-end _ _ _ _ _ c.rows.invariant (rw c.in-End.is at c.in_ok-advance.ensures)

pub returns-then-not-is_text : goal.returns-then-not-is_text
returns-then-not-is_text c =
    let read = rw c.in-Row.is at c.in_ok-advance.ensures in
    let bad : list_all is_utf8 c.advance.new.self.cells ≡ false = rw c.cells.ensures at (sym c.if-not-is_text.ensures) in
    inr (rows-not-text _ _ _ _ _ _ c.rows.invariant read bad)

pub rows-smaller : goal.rows-smaller
rows-smaller c =
    let read = rw c.in-Row.is at c.in_ok-advance.ensures in
    (next-shorter _ _ _ c.rows.invariant.rests read.next).1

pub rows-preserved : goal.rows-preserved
rows-preserved c =
    let read = rw c.in-Row.is at c.in_ok-advance.ensures in
    let good : list_all is_utf8 c.advance.new.self.cells ≡ true = rw c.cells.ensures at (sym c.if-not-is_text.ensures) in
    rows-more _ _ _ _ _ _ _ c.rows.invariant read good (rw c.cells-in-rows.ensures at c.in_ok-push_cells.ensures.cells) c.in_ok-push_cells.ensures.partial
