use Rattle.nf_model.specs.Program.{HoldsBelow, RowHolds}
use Rattle.nf_prob.proofs.check.first_broken_row.Given as goal

abbrev pub invariant-loop-i : goal.invariant-loop-i
invariant-loop-i g l = HoldsBelow l.i (RowHolds l.p l.x)
