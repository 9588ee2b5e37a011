use Rattle.std.proofs.Common.{◌≡◌, ◌++◌, take}
use Rattle.nf_roles.specs.Named.{columns_named}
use Rattle.nf_roles.proofs.named.add_names.Given as goal

abbrev pub invariant-loop-name : goal.invariant-loop-name
invariant-loop-name l = l.names.items ≡ l.initial.names.items ++ columns_named l.role (take l.name-index l.columns)
