use Rattle.std.proofs.Common.{◌≡◌, ◌≤◌, None, length}
use Rattle.nf_roles.specs.First.{first_with}
use Rattle.nf_roles.specs.Assigned.{has_two}
use Rattle.nf_roles.proofs.assigned.first_with_two.Given as goal

abbrev pub invariant-loop-column : goal.invariant-loop-column
invariant-loop-column l = (l.column-end ≡ length l.table.header) × (l.column ≤ l.column-end) × (first_with l.column (has_two l.set l.table.header l.names) ≡ None)
