use Rattle.std.proofs.Common.{◌≡◌, ◌≤◌, ◌<◌, [], ℕ, false, get_or, length}
use Rattle.nf_table.specs.Grid.{same_name}
use Rattle.nf_table.proofs.table.Table.column.Given as goal

abbrev pub invariant-loop-column : goal.invariant-loop-column
invariant-loop-column l =
    (l.column-end ≡ length l.self.header) ×
    (l.column ≤ l.column-end) ×
    ((k : ℕ) → k < l.column → same_name l.name (get_or l.self.header k []) ≡ false)
