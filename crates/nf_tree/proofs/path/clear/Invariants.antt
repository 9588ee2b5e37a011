use Rattle.std.proofs.Common.{◌≡◌, ℕ, ◌<◌}
use Rattle.nf_num.specs.Rational.{zero_ℚ}
use Rattle.nf_model.specs.Program.{at}
use Rattle.nf_tree.proofs.path.clear.Given as goal

abbrev pub invariant-loop-k : goal.invariant-loop-k
invariant-loop-k l = (i : ℕ) → i < l.k → at l.out i ≡ zero_ℚ
