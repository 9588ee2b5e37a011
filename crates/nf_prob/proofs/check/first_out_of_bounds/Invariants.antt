use Rattle.nf_model.specs.Program.{HoldsBelow, IsInBounds}
use Rattle.nf_prob.proofs.check.first_out_of_bounds.Given as goal

abbrev pub invariant-loop-j : goal.invariant-loop-j
invariant-loop-j l = HoldsBelow l.j (IsInBounds l.p l.x)
