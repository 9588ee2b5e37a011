use Rattle.std.proofs.Common.{◌≡◌, take, drop}
use Rattle.csv.specs.Records.{fields_of}
use Rattle.nf_table.specs.Reading.{repeated_after, repeated_column}
use Rattle.nf_table.proofs.SharedFacts.{TellsOf}
use Rattle.nf_table.proofs.header.repeated_among.Given as goal

abbrev pub invariant-loop-name : goal.invariant-loop-name
invariant-loop-name l =
    (goal.iterator-loop-name).can_next l.name-iterator ×
    (goal.iterator-loop-name).is_finite l.name-iterator ×
    (l.name-iterator.row.now ≡ l.header) ×
    TellsOf l.shared l.places l.before (take l.name-iterator.at (fields_of l.header)) ×
    (repeated_column (fields_of l.header) ≡ repeated_after (take l.name-iterator.at (fields_of l.header)) (drop l.name-iterator.at (fields_of l.header)))
