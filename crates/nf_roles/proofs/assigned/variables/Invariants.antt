use Rattle.std.proofs.Common.{◌≡◌, ◌≤◌, [], get_or, length}
use Rattle.nf_roles.specs.First.{all_with}
use Rattle.nf_roles.specs.Assigned.{is_variable}
use Rattle.nf_roles.proofs.assigned.variables.Given as goal

abbrev pub invariant-loop-column : goal.invariant-loop-column
invariant-loop-column l = (l.column-end ≡ length l.table.header) × (l.column ≤ l.column-end) × (l.variables.items ≡ all_with l.column (λ c. is_variable l.set l.names (get_or l.table.header c [])))
