use Rattle.std.proofs.Common.{length, map}
use Rattle.nf_dimacs.specs.Progress.{ReadOn}
use Rattle.nf_dimacs.specs.Says.{said, said_by}
use Rattle.nf_dimacs.proofs.reading.read_lines.Given as goal

abbrev pub invariant-loop-line : goal.invariant-loop-line
invariant-loop-line l = ReadOn (said_by l.text) (map said l.lines) l.reading

abbrev pub decreases-loop-line : goal.decreases-loop-line
decreases-loop-line l = length l.lines
