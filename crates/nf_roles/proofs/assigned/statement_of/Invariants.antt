use Rattle.std.proofs.Common.{◌≡◌, None, take}
use Rattle.std.specs.List.{find}
use Rattle.nf_roles.specs.Sets.{same_role}
use Rattle.nf_roles.proofs.assigned.statement_of.Given as goal

abbrev pub invariant-loop-named : goal.invariant-loop-named
invariant-loop-named l = find (λ n. same_role l.role n.role) (take l.named-index l.names) ≡ None
