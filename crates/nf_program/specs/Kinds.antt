-- The words of the kinds of faults, as they are printed. What `Display` gives rests on it.
use Rattle.std.specs.Prelude.{ℕ, List, codes}
use Rattle.nf_program.specs.declared.program.StmtKind.{StmtKind}
use Rattle.nf_program.specs.declared.program.StmtKind.TheVariants as kind

-- The word of a kind.
abbrev pub kind_word : StmtKind → List ℕ
kind_word kind.BadByte = codes "BadByte"
kind_word kind.OpenComment = codes "OpenComment"
kind_word kind.OpenQuote = codes "OpenQuote"
kind_word kind.TooLong = codes "TooLong"
kind_word kind.NoProc = codes "NoProc"
kind_word kind.MissingSemicolon = codes "MissingSemicolon"
kind_word kind.UnknownWord = codes "UnknownWord"
kind_word kind.OptionNotHere = codes "OptionNotHere"
kind_word kind.RepeatedOption = codes "RepeatedOption"
kind_word kind.WrongValue = codes "WrongValue"
kind_word kind.MissingOption = codes "MissingOption"
kind_word kind.WrongTogether = codes "WrongTogether"
kind_word kind.StatementOrder = codes "StatementOrder"
kind_word kind.NoMemory = codes "NoMemory"
