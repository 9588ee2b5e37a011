use Rattle.std.proofs.Common.{sym, arith}
use Rattle.csv.specs.Records.{fields_of}
use Rattle.nf_table.proofs.CutFacts.{cell-found, cell-there}
use Rattle.nf_table.proofs.table.Table.cell.Goals as goal

pub returns-in-Some : goal.returns-in-Some
returns-in-Some c =
    let row = rw (← c.self.view_is) at c.requires.row in
    let column = rw (← c.self.view_is) at c.requires.column in
    rw (← c.self.view_is) (cell-found c.self.inside.rows c.self.inside.width _ _ (fields_of c.self.inside.cells) _ (omega (arith, c.self.invariant.whole)) row column (sym (rw c.in-Some.is at c.get.ensures.value)))

pub returns-in-None : goal.returns-in-None
returns-in-None c =
    let row = rw (← c.self.view_is) at c.requires.row in
    let column = rw (← c.self.view_is) at c.requires.column in
    absurd (cell-there c.self.inside.rows c.self.inside.width _ _ (fields_of c.self.inside.cells) (omega (arith, c.self.invariant.whole)) row column (sym (rw c.in-None.is at c.get.ensures.value)))
