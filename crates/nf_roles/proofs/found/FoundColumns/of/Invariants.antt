use Rattle.std.proofs.Common.{◌≡◌, ◌≤◌, length, take}
use Rattle.nf_roles.specs.Lookups.{AreColumnsOf}
use Rattle.nf_roles.proofs.found.FoundColumns.of.Given as goal

abbrev pub invariant-loop-column : goal.invariant-loop-column
invariant-loop-column l = (l.column-end ≡ length l.table.header) × (l.column ≤ l.column-end) × AreColumnsOf l.uses l.found (take l.column l.table.header)
