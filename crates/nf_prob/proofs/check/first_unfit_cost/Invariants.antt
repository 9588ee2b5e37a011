use Rattle.nf_model.specs.Certificate.{CostFits}
use Rattle.nf_model.specs.Program.{HoldsBelow}
use Rattle.nf_prob.proofs.check.first_unfit_cost.Given as goal

abbrev pub invariant-loop-j : goal.invariant-loop-j
invariant-loop-j g l = HoldsBelow l.j (CostFits l.p l.x l.y)
