use Rattle.std.proofs.Common.{◌<◌, [], get_or, length, take, sym, arith}
use Rattle.std.proofs.lemmas.List.{length-take-le, take_all, take_more}
use Rattle.nf_roles.proofs.LookupFacts.{columns-next}
use Rattle.nf_roles.proofs.found.FoundColumns.of.Goals as goal

pub loop-column-preserved : goal.loop-column-preserved
loop-column-preserved c =
    let inv = c.loop-column.invariant in
    let header = c.args.table.now.header in
    let below : c.loop-column.column < length c.args.table.now.header = omega (arith, inv.0, c.loop-column-test.true) in
    let size = sym (length-take-le c.loop-column.column header (omega (arith, below))) in (
      inv.0,
      omega (arith, c.loop-column-test.true),
      rw (take_more header c.loop-column.column [] below)
          (columns-next c.args.uses.now c.loop-column.found _ (take c.loop-column.column header) (get_or header c.loop-column.column []) c.loop-column.column size inv.2 (rw c.cell.ensures at c.in_ok-add.ensures)),
    )

pub returns : goal.returns
returns c =
    let inv = c.loop-column.invariant in
    let all = take_all c.loop-column.column c.args.table.now.header (omega (arith, inv.0, c.loop-column-test.false)) in
    rw all at inv.2
