use Rattle.nf_warm.specs.Standing.{HasSigns}
use Rattle.nf_warm.proofs.state.put_signs.Given as goal

abbrev pub invariant-loop-r : goal.invariant-loop-r
invariant-loop-r l = HasSigns l.p l.initial.state l.state l.r l.artificials
