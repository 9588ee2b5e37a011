use Rattle.std.proofs.Common.{◌≡◌, ℕ, ◌<◌, ◌≤◌, ◌+◌, ◌*◌}
use Rattle.nf_num.specs.Rational.{◌-ℚ◌, ◌*ℚ◌}
use Rattle.nf_inverse.specs.Weights.{at}
use Rattle.nf_inverse.proofs.rows.sub_multiple.Given as goal

abbrev pub invariant-loop-k : goal.invariant-loop-k
invariant-loop-k g l = record { done : (j : ℕ) → j < l.k → at l.total j ≡ at l.fn.total j -ℚ at l.a j *ℚ l.factor; left : (j : ℕ) → l.k ≤ j → at l.total j ≡ at l.fn.total j; cost : l.steps ≤ l.fn.steps + 2 * l.k }
