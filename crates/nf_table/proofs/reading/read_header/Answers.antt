use Rattle.std.proofs.Common.{inr, sym, arith}
use Rattle.nf_table.proofs.HeaderFacts.{header-bad, header-fits, header-none, header-read, header-repeats}
use Rattle.nf_table.proofs.reading.read_header.Goals as goal

pub returns-in-End : goal.returns-in-End
returns-in-End c = inr (header-none c.args.records.now (rw c.in-End.is at c.in_ok-advance.ensures))

pub returns-then-not-is_text : goal.returns-then-not-is_text
returns-then-not-is_text c =
    let read = rw c.in-Row.is at c.in_ok-advance.ensures in
    inr (header-bad _ _ c.requires.rests read (rw c.cells.ensures at (sym c.if-not-is_text.ensures)))

pub returns-in-Some : goal.returns-in-Some
returns-in-Some c =
    let read = rw c.in-Row.is at c.in_ok-advance.ensures in
    let good = rw c.cells.ensures at (sym c.if-not-is_text.ensures) in
    let found = rw (c.in-Some.is, c.cells-2.ensures) at c.in_ok-name.ensures in
    inr (header-repeats _ _ _ c.requires.rests read good (rw c.in_ok-from_slice.ensures (sym found)))

pub overflow_cast-result : goal.overflow_cast-result
overflow_cast-result c =
    let read = rw c.in-Row.is at c.in_ok-advance.ensures in
    let fits = header-fits _ _ c.requires.few read in
    let long = rw c.cells-4.ensures at c.len.ensures in
    omega (arith, fits, long)

pub returns : goal.returns
returns c =
    let read = rw c.in-Row.is at c.in_ok-advance.ensures in
    let good = rw c.cells.ensures at (sym c.if-not-is_text.ensures) in
    let long = rw c.cells-4.ensures at c.len.ensures in
    let cells = rw (c.requires.empty, c.cells-3.ensures) at c.in_ok-push_cells.ensures.cells in
    let none = rw (c.in_default.is, c.cells-2.ensures) at c.in_ok-name.ensures in
    header-read _ _ _ _ c.requires.rests c.requires.few read cells c.in_ok-push_cells.ensures.partial long good (sym none)
