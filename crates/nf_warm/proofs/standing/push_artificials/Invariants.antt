use Rattle.std.proofs.Common.{◌≡◌, ◌++◌, map, take}
use Rattle.nf_saved.specs.Reading.{artificial_place}
use Rattle.nf_warm.proofs.standing.push_artificials.Given as goal

abbrev pub invariant-loop-artificial : goal.invariant-loop-artificial
invariant-loop-artificial l = l.places.items ≡ l.initial.places.items ++ map artificial_place (take l.artificial-index l.artificials)
