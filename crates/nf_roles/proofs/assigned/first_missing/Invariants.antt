use Rattle.std.proofs.Common.{◌≡◌, None, take}
use Rattle.std.specs.List.{find}
use Rattle.nf_roles.specs.Assigned.{is_missing}
use Rattle.nf_roles.specs.Sets.{needed}
use Rattle.nf_roles.proofs.assigned.first_missing.Given as goal

abbrev pub invariant-loop-role : goal.invariant-loop-role
invariant-loop-role l = find (is_missing l.set l.table.header l.names) (take l.role-index (needed l.set)) ≡ None
