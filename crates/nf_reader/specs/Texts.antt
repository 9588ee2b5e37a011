-- What reading a whole text gives, by the reader's own steps.
use Rattle.std.specs.Prelude.{◌≡◌, ℕ, ◌<◌, ◌≤◌, ◌⊎◌, List, length, Result, Ok, Err}
use Rattle.nf_text.specs.declared.token.Token.{Token}
use Rattle.nf_text.specs.declared.token.TextFault.{TextFault}
use Rattle.nf_text.specs.declared.token.TextFault.TheVariants as fault
use Rattle.nf_text.specs.Tokens.{lexemes, AreTokens, HasFault}
use Rattle.nf_program.specs.declared.program.Command.{Command}
use Rattle.nf_program.specs.declared.program.Program.{Program}
use Rattle.nf_program.specs.declared.program.StmtFault.{StmtFault}
use Rattle.nf_program.specs.declared.program.StmtKind.TheVariants.{TooLong, BadByte, OpenComment, OpenQuote, NoMemory}
use Rattle.nf_reader.specs.Turns.{fault_at, read, start}

-- a fault of tokens as one of programs
abbrev pub fault_of : TextFault → StmtFault
fault_of (fault.BadByte n) = fault_at n BadByte
fault_of (fault.OpenComment n) = fault_at n OpenComment
fault_of (fault.OpenQuote n) = fault_at n OpenQuote
fault_of fault.NoMemory = fault_at 0 NoMemory

-- What reading a text gives: its program, or its first fault.
abbrev pub Answers : Command → List ℕ → Result Program StmtFault → Type 0
Answers c text r =
    ((1048576 < length text) × (r ≡ Err (fault_at 1048576 TooLong)))
    ⊎ ((length text ≤ 1048576) × (f : TextFault) × HasFault text f × (r ≡ Err (fault_of f)))
    ⊎ ((length text ≤ 1048576) × (ts : List Token) × AreTokens text ts × (r ≡ read c (length text) start (lexemes text ts)))

-- This is what it gives, unless memory ran out.
abbrev pub Told : Command → List ℕ → Result Program StmtFault → Type 0
Told c text (Ok p) = Answers c text (Ok p)
Told c text (Err f) = (f ≡ fault_at 0 NoMemory) ⊎ Answers c text (Err f)
