use Rattle.nf_warm.specs.Standing.{HasPlaces}
use Rattle.nf_warm.proofs.state.put_places.Given as goal

abbrev pub invariant-loop-at : goal.invariant-loop-at
invariant-loop-at l = HasPlaces l.p l.initial.state l.state l.at l.places
