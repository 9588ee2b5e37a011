use Rattle.std.proofs.Common.{◌≡◌, ℕ, ◌<◌}
use Rattle.std.specs.Prelude.{slice_index_or}
use Rattle.nf_model.specs.Program.{at}
use Rattle.nf_tree.proofs.tree.pick.Given as goal

abbrev pub invariant-loop-k : goal.invariant-loop-k
invariant-loop-k l = (j : ℕ) → j < l.k → at l.out j ≡ at l.numbers (slice_index_or l.chosen j 0)
