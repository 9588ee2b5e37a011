use Rattle.std.proofs.Common.{◌≡◌, ◌++◌, take}
use Rattle.std.specs.List.{flat_map}
use Rattle.nf_writer.specs.Canonical.{text_of, column_pieces}
use Rattle.nf_writer.proofs.writing.put_columns.Given as goal

abbrev pub invariant-loop-name : goal.invariant-loop-name
invariant-loop-name l = l.out ≡ l.fn.out ++ text_of (flat_map column_pieces (take l.name-index l.names))
