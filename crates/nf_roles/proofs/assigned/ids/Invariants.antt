use Rattle.std.proofs.Common.{◌≡◌, ◌≤◌, [], get_or, length}
use Rattle.nf_roles.specs.First.{all_with}
use Rattle.nf_program.specs.declared.program.Role.TheVariants as role
use Rattle.nf_roles.specs.Assigned.{is_listed}
use Rattle.nf_roles.proofs.assigned.ids.Given as goal

abbrev pub invariant-loop-column : goal.invariant-loop-column
invariant-loop-column l = (l.column-end ≡ length l.table.header) × (l.column ≤ l.column-end) × (l.ids.items ≡ all_with l.column (λ c. is_listed l.names role.Id (get_or l.table.header c [])))
