use Rattle.std.proofs.Common.{◌≡◌, take, true}
use Rattle.std.specs.List.{list_all}
use Rattle.std.specs.Str.{is_utf8}
use Rattle.csv.specs.Records.{fields_of}
use Rattle.nf_table.proofs.reading.has_text_cells.Given as goal

abbrev pub invariant-loop-cell : goal.invariant-loop-cell
invariant-loop-cell l =
    (goal.iterator-loop-cell).can_next l.cell-iterator ×
    (goal.iterator-loop-cell).is_finite l.cell-iterator ×
    (l.cell-iterator.row.now ≡ l.row) ×
    (list_all is_utf8 (take l.cell-iterator.at (fields_of l.row)) ≡ true)
