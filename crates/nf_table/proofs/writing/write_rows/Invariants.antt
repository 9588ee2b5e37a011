use Rattle.std.proofs.Common.{◌≡◌, ◌+◌, ◌∷◌, Some, take}
use Rattle.csv.proofs.RoundTrip.{rows_text}
use Rattle.nf_table.specs.Writing.{IsAtStart, written}
use Rattle.nf_table.proofs.writing.write_rows.Given as goal

abbrev pub invariant-loop-row : goal.invariant-loop-row
invariant-loop-row l = record { start : IsAtStart l.writer; text : written l.writer ≡ Some (rows_text (take (l.row + 1) (l.table.header ∷ l.table.rows))) }
