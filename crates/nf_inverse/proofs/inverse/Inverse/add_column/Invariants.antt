use Rattle.std.proofs.Common.{◌≡◌, ℕ, ◌<◌, ◌≤◌, ◌+◌, ◌*◌}
use Rattle.nf_num.specs.Rational.{◌+ℚ◌, ◌*ℚ◌}
use Rattle.nf_inverse.specs.Weights.{at, weight}
use Rattle.nf_inverse.proofs.inverse.Inverse.add_column.Given as goal

abbrev pub invariant-loop-s : goal.invariant-loop-s
invariant-loop-s g l = record { done : (j : ℕ) → j < l.s → at l.total j ≡ at l.fn.total j +ℚ weight l.self j l.row *ℚ l.factor; left : (j : ℕ) → l.s ≤ j → at l.total j ≡ at l.fn.total j; cost : l.steps ≤ l.fn.steps + 2 * l.s }
