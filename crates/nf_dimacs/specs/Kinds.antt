-- How the kinds of faults are spelled, and the fault that says that memory ran out.
-- The printed line of a refused text rests on it.
use Rattle.std.specs.Prelude.{ℕ, List, codes}
use Rattle.nf_dimacs.specs.declared.fault.DimacsFault.{DimacsFault}
use Rattle.nf_dimacs.specs.declared.fault.DimacsKind.{DimacsKind}
use Rattle.nf_dimacs.specs.declared.fault.DimacsKind.TheVariants as kind

-- The word of a kind.
abbrev pub kind_word : DimacsKind → List ℕ
kind_word kind.TooLong = codes "TooLong"
kind_word kind.BadLine = codes "BadLine"
kind_word kind.Number = codes "Number"
kind_word kind.LimitPassed = codes "LimitPassed"
kind_word kind.Node = codes "Node"
kind_word kind.RepeatedNode = codes "RepeatedNode"
kind_word kind.Negative = codes "Negative"
kind_word kind.Crossed = codes "Crossed"
kind_word kind.NoProblem = codes "NoProblem"
kind_word kind.WrongCount = codes "WrongCount"
kind_word kind.Unbalanced = codes "Unbalanced"
kind_word kind.NoMemory = codes "NoMemory"

-- Out of memory, which has no line.
abbrev pub no_memory : DimacsFault
no_memory = record { line = 0; kind = kind.NoMemory }
