use Rattle.std.proofs.Common.{◌∷◌, ◌+◌, arith}
use Rattle.nf_table.proofs.WriteFacts.{none-written, row-written}
use Rattle.nf_table.proofs.writing.write_rows.Goals as goal

pub loop-row-init : goal.loop-row-init
loop-row-init c =
    let table = c.args.table.now in
    record { start = c.in_ok-write_row.ensures.start; text = row-written _ _ (table.header ∷ table.rows) 0 (omega arith) (none-written _ (table.header ∷ table.rows) c.requires.empty) c.in_ok-write_row.ensures.text }

pub loop-row-preserved : goal.loop-row-preserved
loop-row-preserved c =
    let table = c.args.table.now in
    record { start = c.in_ok-write_row-2.ensures.start; text = row-written _ _ (table.header ∷ table.rows) (c.loop-row.row + 1) (omega (arith, c.loop-row-test.true, c.rows-row-end.ensures)) c.loop-row.invariant.text c.in_ok-write_row-2.ensures.text }
