use Rattle.std.proofs.Common.{◌≡◌, ◌≤◌, [], false}
use Rattle.nf_simplex.specs.Place.{count_basic}
use Rattle.nf_simplex.specs.Standing.{place_at}
use Rattle.nf_warm.specs.Standing.{standing_of}
use Rattle.nf_warm.proofs.standing.count_basic.Given as goal

abbrev pub invariant-loop-place : goal.invariant-loop-place
invariant-loop-place l = (l.count ≡ count_basic l.place-index (place_at (standing_of false l.places []))) × (l.count ≤ l.place-index)
