use Rattle.std.proofs.Common.{◌≡◌, ◌≤◌}
use Rattle.nf_simplex.specs.Place.{count_basic}
use Rattle.nf_simplex.specs.Standing.{place_at}
use Rattle.nf_test_simplex.proofs.restored.basic_count.Given as goal

abbrev pub invariant-loop-at : goal.invariant-loop-at
invariant-loop-at l = (l.basic ≡ count_basic l.at (place_at l.state.standing)) × (l.basic ≤ l.at)
