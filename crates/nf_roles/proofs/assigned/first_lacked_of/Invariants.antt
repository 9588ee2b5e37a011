use Rattle.std.proofs.Common.{◌≡◌, None, take}
use Rattle.std.specs.List.{find}
use Rattle.nf_roles.specs.Assigned.{is_lacked}
use Rattle.nf_roles.specs.Lookups.{cells_or_none}
use Rattle.nf_roles.proofs.assigned.first_lacked_of.Given as goal

abbrev pub invariant-loop-named : goal.invariant-loop-named
invariant-loop-named l = find (is_lacked l.set l.table (cells_or_none l.cons)) (take l.named-index l.names) ≡ None
