-- The words of the kinds of faults of data, as they are printed.
-- What `Display` gives rests on it.
use Rattle.std.specs.Prelude.{ℕ, List, codes}
use Rattle.nf_roles.specs.declared.fault.DataKind.{DataKind}
use Rattle.nf_roles.specs.declared.fault.DataKind.TheVariants as kind

-- The word of a kind.
abbrev pub data_word : DataKind → List ℕ
data_word kind.LimitPassed = codes "LimitPassed"
data_word kind.BadName = codes "BadName"
data_word kind.ReservedName = codes "ReservedName"
data_word kind.RepeatedArc = codes "RepeatedArc"
data_word kind.Amount = codes "Amount"
data_word kind.CrossedBounds = codes "CrossedBounds"
data_word kind.TwoSupplies = codes "TwoSupplies"
data_word kind.RepeatedNode = codes "RepeatedNode"
data_word kind.UnknownSource = codes "UnknownSource"
data_word kind.AmbiguousName = codes "AmbiguousName"
data_word kind.RepeatedRow = codes "RepeatedRow"
data_word kind.UnknownKind = codes "UnknownKind"
data_word kind.ArcHere = codes "ArcHere"
data_word kind.RepeatedCoefficient = codes "RepeatedCoefficient"
data_word kind.TwoKinds = codes "TwoKinds"
data_word kind.TwoRightSides = codes "TwoRightSides"
data_word kind.NoMemory = codes "NoMemory"
