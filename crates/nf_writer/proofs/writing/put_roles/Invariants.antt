use Rattle.std.proofs.Common.{◌≡◌, ◌++◌, take}
use Rattle.std.specs.List.{flat_map}
use Rattle.nf_writer.specs.Canonical.{text_of, role_pieces}
use Rattle.nf_writer.proofs.writing.put_roles.Given as goal

abbrev pub invariant-loop-entry : goal.invariant-loop-entry
invariant-loop-entry l = l.out ≡ l.fn.out ++ text_of (flat_map role_pieces (take l.entry-index l.roles))
