use Rattle.std.proofs.Common.{◌≡◌, ◌++◌, take}
use Rattle.nf_program.specs.Values.{lowered}
use Rattle.nf_writer.proofs.writing.put_lower.Given as goal

abbrev pub invariant-loop-b : goal.invariant-loop-b
invariant-loop-b l = l.out ≡ l.fn.out ++ lowered (take l.b-index l.word)
