use Rattle.std.proofs.Common.{◌≡◌, ℕ, ◌<◌, length, slice_index_or}
use Rattle.nf_basis.specs.declared.col.Place.TheVariants.{Absent}
use Rattle.nf_basis.specs.Resting.{IsRestingAt}
use Rattle.nf_basis.proofs.state.resting_places.Given as goal

abbrev pub invariant-loop-at : goal.invariant-loop-at
invariant-loop-at l = (length l.places.items ≡ l.at) × ((j : ℕ) → j < l.at → IsRestingAt l.p l.two (slice_index_or l.places.items j Absent) j)
