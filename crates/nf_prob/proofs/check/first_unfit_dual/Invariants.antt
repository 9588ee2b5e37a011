use Rattle.nf_model.specs.Certificate.{DualFits}
use Rattle.nf_model.specs.Program.{HoldsBelow}
use Rattle.nf_prob.proofs.check.first_unfit_dual.Given as goal

abbrev pub invariant-loop-i : goal.invariant-loop-i
invariant-loop-i g l = HoldsBelow l.i (DualFits l.p l.x l.y)
