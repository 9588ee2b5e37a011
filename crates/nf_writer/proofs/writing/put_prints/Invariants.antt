use Rattle.std.proofs.Common.{◌≡◌, ◌++◌, take}
use Rattle.std.specs.List.{flat_map}
use Rattle.nf_writer.specs.Canonical.{text_of, print_pieces}
use Rattle.nf_writer.proofs.writing.put_prints.Given as goal

abbrev pub invariant-loop-item : goal.invariant-loop-item
invariant-loop-item l = l.out ≡ l.fn.out ++ text_of (flat_map print_pieces (take l.item-index l.items))
