use Rattle.nf_model.specs.Program.{HoldsBelow}
use Rattle.nf_model.specs.Ray.{IsFree}
use Rattle.nf_prob.proofs.ray.first_stopped.Given as goal

abbrev pub invariant-loop-j : goal.invariant-loop-j
invariant-loop-j l = HoldsBelow l.j (IsFree l.p l.r)
