use Rattle.std.proofs.Common.{◌≡◌, ◌++◌, take}
use Rattle.std.specs.List.{flat_map}
use Rattle.nf_writer.specs.Canonical.{text_of, act_pieces}
use Rattle.nf_writer.proofs.writing.put_acts.Given as goal

abbrev pub invariant-loop-act : goal.invariant-loop-act
invariant-loop-act l = l.out ≡ l.fn.out ++ text_of (flat_map act_pieces (take l.act-index l.acts))
