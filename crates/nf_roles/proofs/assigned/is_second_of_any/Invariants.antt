use Rattle.std.proofs.Common.{◌≡◌, false, take}
use Rattle.std.specs.List.{list_any}
use Rattle.nf_roles.specs.Assigned.{is_second}
use Rattle.nf_roles.proofs.assigned.is_second_of_any.Given as goal

abbrev pub invariant-loop-role : goal.invariant-loop-role
invariant-loop-role l = list_any (is_second l.table.header l.names l.column) (take l.role-index l.roles) ≡ false
