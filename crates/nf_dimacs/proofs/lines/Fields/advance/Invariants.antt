use Rattle.std.proofs.Common.{◌≡◌, length}
use Rattle.nf_dimacs.specs.Lines.{fields_of}
use Rattle.nf_dimacs.proofs.lines.Fields.advance.Given as goal

abbrev pub invariant-loop-self : goal.invariant-loop-self
invariant-loop-self l = fields_of l.initial.self-inside.rest.now ≡ fields_of l.self-inside.rest.now

abbrev pub decreases-loop-self : goal.decreases-loop-self
decreases-loop-self l = length l.self-inside.rest.now
