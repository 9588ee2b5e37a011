-- What a planner may rely on when `import` or `export` is called: what a finished command means, and when it must finish.
use Rattle.std.specs.Prelude.{◌≡◌, ◌⊎◌, ℕ, List, Some, None}
use Rattle.nf_io.specs.Causes.{Rose}
use Rattle.nf_io.specs.Held.{Held}
use Rattle.nf_model.specs.Program.{LinearProgram}
use Rattle.nf_program.specs.declared.program.Command.TheVariants.{Export}
use Rattle.nf_program.specs.declared.program.Program.{Program}
use Rattle.nf_program.specs.declared.program.StmtFault.{StmtFault}
use Rattle.nf_program.specs.Grammar.{HasProgram}
use Rattle.nf_reader.specs.Faults.{HasFault}
use Rattle.nf_dimacs.specs.Text.{fault_of}
use Rattle.nf_dimacs.specs.declared.fault.DimacsFault.{DimacsFault}
use Rattle.nf_dimacs.specs.declared.tables.DimacsTables.{DimacsTables}
use Rattle.nf_dimacs_writer.specs.Refusal.{refusal_of}
use Rattle.nf_dimacs_writer.specs.declared.fault.ExportFault.{ExportFault}
use Rattle.nf_top.specs.Data.{IsProblemOf, Sets}
use Rattle.nf_top.specs.Headline.{NothingFails}
use Rattle.nf_top.specs.Outcome.{AreHeld, Call, Input, Lists}
use Rattle.nf_top.specs.Standing.{SetNames}
use Rattle.nf_top.specs.declared.status.Status.{Status}
use Rattle.nf_top.specs.declared.status.Status.TheVariants as status
use Rattle.nf_exchange.specs.Export.{IsExportable, IsExported}
use Rattle.nf_exchange.specs.Import.{ReadsTables, StoresBoth, line_of}

-- ---- import
-- `import` ends with one of these.
abbrev pub MayEndImport : Status → Type 0
MayEndImport status.Finished = Unit {0}
MayEndImport status.DataRefused = Unit {0}
MayEndImport status.ReadFault = Unit {0}
MayEndImport status.WriteFault = Unit {0}
MayEndImport status.NoMemory = Unit {0}
MayEndImport _ = ⊥

-- The tables of the whole source are stored, `arcs` and then `nodes`, and the listing counts their nodes and arcs.
pub record HasImported (c : Call) : Type 0 where
  pub tables : DimacsTables
  pub reads : ReadsTables c.input tables
  pub stores : StoresBoth c tables
  pub listed : Lists c (line_of tables)

-- If nothing fails, no store either, a text without fault is imported, unless memory runs out.
abbrev pub ImportsTheText : Call → Status → Type 0
ImportsTheText c s = (text : List ℕ) → NothingFails c → (Rose c.store_faults c.store_faults_after → ⊥) → c.input.left ≡ Some text → fault_of text ≡ None
    → (s ≡ status.Finished) ⊎ (s ≡ status.NoMemory)

-- If nothing fails, a text with a fault is refused, unless memory runs out.
abbrev pub RefusesNoText : Call → Status → Type 0
RefusesNoText c s = (text : List ℕ) (fault : DimacsFault) → NothingFails c → c.input.left ≡ Some text → fault_of text ≡ Some fault
    → (s ≡ status.DataRefused) ⊎ (s ≡ status.NoMemory)

-- ---- export
-- `export` ends with one of these.
abbrev pub MayEndExport : Status → Type 0
MayEndExport status.ProgramRefused = Unit {0}
MayEndExport status.Absent = Unit {0}
MayEndExport s = MayEndImport s

-- The listing has the text of the problem of the data sets.
pub record HasExported (c : Call) : Type 0 where
  pub text : List ℕ
  pub exported : IsExported c.input text
  pub listed : Lists c text

-- The contents of the source and the library are known: the source is a text of a program that `export` accepts, and the
-- library has its data sets, which stand for this problem.
pub record IsAccepted (i : Input) (problem : LinearProgram) : Type 0 where
  pub text : List ℕ
  pub told : i.left ≡ Some text
  pub program : Program
  pub spelled : HasProgram Export text program
  pub names : SetNames
  pub stands : IsExportable program names
  pub library : Held
  pub tells : i.held ≡ Some library
  pub sets : Sets
  pub holds : AreHeld i.held names sets
  pub posed : IsProblemOf program sets problem

-- If nothing fails, a problem that has a text is exported, unless memory runs out.
abbrev pub ExportsTheProblem : Call → Status → Type 0
ExportsTheProblem c s = (problem : LinearProgram) → NothingFails c → IsAccepted c.input problem → refusal_of problem ≡ None
    → (s ≡ status.Finished) ⊎ (s ≡ status.NoMemory)

-- If nothing fails, a problem without a text is refused, unless memory runs out.
abbrev pub RefusesNoProblem : Call → Status → Type 0
RefusesNoProblem c s = (problem : LinearProgram) (fault : ExportFault) → NothingFails c → IsAccepted c.input problem → refusal_of problem ≡ Some fault
    → (s ≡ status.DataRefused) ⊎ (s ≡ status.NoMemory)

-- A text has no program that `export` accepts: it has a fault, or a program that is not accepted yet.
abbrev pub IsNotTaken : List ℕ → Type 0
IsNotTaken text = ((fault : StmtFault) × HasFault Export text fault) ⊎ ((p : Program) × HasProgram Export text p × ((n : SetNames) → IsExportable p n → ⊥))

-- If nothing fails, such a text is refused, unless memory runs out.
abbrev pub RefusesNoProgram : Call → Status → Type 0
RefusesNoProgram c s = (text : List ℕ) → NothingFails c → c.input.left ≡ Some text → IsNotTaken text
    → (s ≡ status.ProgramRefused) ⊎ (s ≡ status.NoMemory)
