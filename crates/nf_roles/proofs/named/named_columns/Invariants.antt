use Rattle.std.proofs.Common.{◌≡◌, take}
use Rattle.nf_roles.specs.Assigned.{named}
use Rattle.nf_roles.proofs.named.named_columns.Given as goal

abbrev pub invariant-loop-statement : goal.invariant-loop-statement
invariant-loop-statement l = l.names.items ≡ named l.set (take l.statement-index l.statement-items)
