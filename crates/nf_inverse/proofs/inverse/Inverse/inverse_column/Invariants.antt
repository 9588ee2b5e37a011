use Rattle.std.proofs.Common.{◌≡◌, ℕ, ◌<◌}
use Rattle.nf_inverse.specs.Weights.{at, weight}
use Rattle.nf_inverse.proofs.inverse.Inverse.inverse_column.Given as goal

abbrev pub invariant-loop-s : goal.invariant-loop-s
invariant-loop-s l = (j : ℕ) → j < l.s → at l.out j ≡ weight l.self j l.row
