use Rattle.std.proofs.Common.{◌≡◌, ℕ, ◌<◌}
use Rattle.nf_num.specs.Rational.{zero_ℚ}
use Rattle.nf_inverse.specs.Weights.{at}
use Rattle.nf_inverse.proofs.inverse.set_zero.Given as goal

abbrev pub invariant-loop-k : goal.invariant-loop-k
invariant-loop-k l = (j : ℕ) → j < l.k → at l.out j ≡ zero_ℚ
