use Rattle.std.proofs.Common.{◌≡◌, ℕ, ◌<◌, ◌≤◌, ◌+◌}
use Rattle.nf_num.specs.Rational.{◌*ℚ◌, inv_ℚ}
use Rattle.nf_inverse.specs.Weights.{at}
use Rattle.nf_inverse.proofs.rows.scale_row.Given as goal

abbrev pub invariant-loop-i : goal.invariant-loop-i
invariant-loop-i g l = record { done : (k : ℕ) → k < l.i → at l.scaled k ≡ at l.row k *ℚ inv_ℚ l.entry; cost : l.steps ≤ l.fn.steps + l.i }
