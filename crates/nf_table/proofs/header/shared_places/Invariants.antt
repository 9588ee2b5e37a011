use Rattle.std.proofs.Common.{◌≡◌, ◌/◌, ◌<◌, length, take}
use Rattle.csv.specs.Records.{fields_of}
use Rattle.nf_table.specs.Shared.{AreMet, AreShared}
use Rattle.nf_table.proofs.header.shared_places.Given as goal

abbrev pub invariant-loop-name : goal.invariant-loop-name
invariant-loop-name l =
    (goal.iterator-loop-name).can_next l.name-iterator ×
    (goal.iterator-loop-name).is_finite l.name-iterator ×
    (l.name-iterator.row.now ≡ l.header) ×
    (l.places / 64 < length l.met) × (l.places / 64 < length l.shared) ×
    AreMet l.met l.places (take l.name-iterator.at (fields_of l.header)) ×
    AreShared l.shared l.places (take l.name-iterator.at (fields_of l.header))
