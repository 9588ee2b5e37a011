use Rattle.std.proofs.Common.{◌≡◌, ◌≤◌, [], None, get_or, length}
use Rattle.nf_roles.specs.First.{first_with}
use Rattle.nf_roles.specs.Sets.{is_reserved_for}
use Rattle.nf_roles.proofs.assigned.reserved_column.Given as goal

abbrev pub invariant-loop-column : goal.invariant-loop-column
invariant-loop-column l = (l.column-end ≡ length l.table.header) × (l.column ≤ l.column-end) × (first_with l.column (λ c. is_reserved_for l.role (get_or l.table.header c [])) ≡ None)
