use Rattle.nf_model.specs.Program.{HoldsBelow}
use Rattle.nf_model.specs.Ray.{RowKeeps}
use Rattle.nf_prob.proofs.ray.first_left_row.Given as goal

abbrev pub invariant-loop-i : goal.invariant-loop-i
invariant-loop-i g l = HoldsBelow l.i (RowKeeps l.p l.r)
