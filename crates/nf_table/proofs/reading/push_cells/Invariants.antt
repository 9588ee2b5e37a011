use Rattle.std.proofs.Common.{◌≡◌, ◌++◌, [], take}
use Rattle.csv.specs.Records.{fields_of, partial_of}
use Rattle.nf_table.proofs.reading.push_cells.Given as goal

abbrev pub invariant-loop-cell : goal.invariant-loop-cell
invariant-loop-cell l =
    (l.cell-iterator.row.now ≡ l.row) ×
    (fields_of l.cells ≡ fields_of l.initial.cells ++ take l.cell-iterator.at (fields_of l.row)) ×
    (partial_of l.cells ≡ [])
