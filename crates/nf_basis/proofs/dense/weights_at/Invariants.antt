use Rattle.std.proofs.Common.{◌≡◌, ℕ, ◌<◌}
use Rattle.std.specs.Prelude.{slice_index_or}
use Rattle.nf_model.specs.Program.{at}
use Rattle.nf_inverse.specs.Weights.{weight}
use Rattle.nf_basis.proofs.dense.weights_at.Given as goal

abbrev pub invariant-loop-k : goal.invariant-loop-k
invariant-loop-k l = (j : ℕ) → j < l.k → at l.out j ≡ weight l.inverse (slice_index_or l.chosen j 0) l.row
