use Rattle.nf_sample.proofs.Ends.{cell_more}
use Rattle.nf_sample.proofs.rows.push_cells.Goals as goal

pub loop-cell-preserved : goal.loop-cell-preserved
loop-cell-preserved c = cell_more c.args.table.now c.loop-cell.table c.push_cell.new.self c.args.cells.now c.loop-cell.cell-index c.as_bytes.result.now _ c.loop-cell-test.true c.loop-cell.invariant c.as_bytes.ensures.value c.in_ok-push_cell.ensures.added
