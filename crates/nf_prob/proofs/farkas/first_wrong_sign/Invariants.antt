use Rattle.nf_model.specs.Farkas.{DualIsSigned}
use Rattle.nf_model.specs.Program.{HoldsBelow}
use Rattle.nf_prob.proofs.farkas.first_wrong_sign.Given as goal

abbrev pub invariant-loop-i : goal.invariant-loop-i
invariant-loop-i l = HoldsBelow l.i (DualIsSigned l.p l.y)
