use Rattle.std.proofs.Common.{◌≡◌, ◌++◌, replicate}
use Rattle.nf_basis.specs.declared.col.Place.TheVariants.{Absent}
use Rattle.nf_warm.proofs.standing.push_absent.Given as goal

abbrev pub invariant-loop : goal.invariant-loop
invariant-loop l = l.places.items ≡ l.initial.places.items ++ replicate l.counter Absent
