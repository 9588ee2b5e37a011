use Rattle.std.proofs.Common.{◌-◌, length}
use Rattle.nf_io.specs.Progress.{WritesOn}
use Rattle.nf_io.proofs.whole.write_all.Given as goal

abbrev pub invariant-loop-at : goal.invariant-loop-at
invariant-loop-at g l = WritesOn (g.K.Sink.quiet l.initial.sink) (g.K.Sink.quiet l.sink) (g.K.Sink.faults l.initial.sink) (g.K.Sink.faults l.sink) (g.K.Sink.written l.initial.sink) (g.K.Sink.written l.sink) l.at l.piece

abbrev pub decreases-loop-at : goal.decreases-loop-at
decreases-loop-at g l = length l.piece - l.at
