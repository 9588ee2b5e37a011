use Rattle.std.proofs.Common.{length}
use Rattle.csv.specs.Records.{fields_of}
use Rattle.nf_table.specs.Cursor.{records_at}
use Rattle.nf_table.specs.Progress.{RowsOn}
use Rattle.nf_table.proofs.reading.read_rows.Given as goal

abbrev pub invariant-rows : goal.invariant-rows
invariant-rows l = RowsOn (fields_of l.initial.cells) (records_at l.initial.records) l.rows l.records l.cells

abbrev pub decreases-rows : goal.decreases-rows
decreases-rows l = length l.records.left
