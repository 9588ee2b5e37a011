use Rattle.std.proofs.Common.{◌≡◌, [], take}
use Rattle.csv.specs.Records.{fields_of, partial_of}
use Rattle.nf_table.specs.Writing.{row_at}
use Rattle.nf_table.proofs.writing.copy_row.Given as goal

abbrev pub invariant-loop-column : goal.invariant-loop-column
invariant-loop-column l = record { copied : fields_of l.copy ≡ take l.column (row_at l.table l.row); partial : partial_of l.copy ≡ [] }
