-- What a function returns is what reading gives, unless memory ran out.
use Rattle.std.specs.Prelude.{Bool, true, false, ◌≡◌, Result, Ok, Err}
use Rattle.nf_program.specs.declared.program.StmtKind.{StmtKind}
use Rattle.nf_program.specs.declared.program.StmtKind.TheVariants.{NoMemory}
use Rattle.nf_program.specs.declared.program.StmtFault.{StmtFault}

-- Reading fails so, unless memory ran out.
abbrev pub Fails : {Y : Type 0} → StmtKind → Result Y StmtKind → Type 0
Fails NoMemory read = Unit {0}
Fails k read = read ≡ Err k

-- This is what reading gives, unless memory ran out.
abbrev pub Gives : {X : Type 0} → Result X StmtKind → Result X StmtKind → Type 0
Gives (Ok x) read = read ≡ Ok x
Gives (Err e) read = Fails e read

-- The kind says that memory ran out.
abbrev pub is_memory : StmtKind → Bool
is_memory NoMemory = true
is_memory _ = false

-- the same, with the place of the fault, which is 0 if memory ran out
abbrev pub FailsBy : {Y : Type 0} → Bool → StmtFault → Result Y StmtFault → Type 0
FailsBy true f read = f.at ≡ 0
FailsBy false f read = read ≡ Err f

-- The same for reading that gives places.
abbrev pub GivesAt : {X : Type 0} → Result X StmtFault → Result X StmtFault → Type 0
GivesAt (Ok x) read = read ≡ Ok x
GivesAt (Err f) read = FailsBy (is_memory f.kind) f read
