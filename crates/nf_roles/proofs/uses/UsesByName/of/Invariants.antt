use Rattle.std.proofs.Common.{take}
use Rattle.nf_roles.specs.Lookups.{AreUsesOf}
use Rattle.nf_roles.proofs.uses.UsesByName.of.Given as goal

abbrev pub invariant-loop-named : goal.invariant-loop-named
invariant-loop-named l = AreUsesOf l.uses (take l.named-index l.names)
