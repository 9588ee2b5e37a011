-- The exact text of each line of `import` and `export`, each with its line feed, and the status of each refusal.
-- What both commands list rests on it.
use Rattle.std.specs.Prelude.{◌++◌, ℕ, List, [], codes, decimal}
use Rattle.nf_dimacs.specs.declared.fault.DimacsFault.{DimacsFault}
use Rattle.nf_dimacs.specs.Kinds.{kind_word}
use Rattle.nf_dimacs_writer.specs.declared.fault.ExportFault.{ExportFault}
use Rattle.nf_dimacs_writer.specs.declared.fault.ExportFault.TheVariants as fault
use Rattle.nf_top.specs.Lines.{data_line, program_line, roles_line, table_line, too_long_line}
use Rattle.nf_top.specs.declared.status.Status.{Status}
use Rattle.nf_top.specs.declared.status.Status.TheVariants as status
use Rattle.nf_exchange.specs.declared.refusal.Refusal.{Refusal}
use Rattle.nf_exchange.specs.declared.refusal.Refusal.TheVariants as refusal

-- The tables of a text are stored: so many nodes and arcs.
abbrev pub imported_line : ℕ → ℕ → List ℕ
imported_line nodes arcs = codes "IMPORTED NODES " ++ (decimal nodes ++ (codes " ARCS " ++ (decimal arcs ++ codes "\n")))

-- A text has no problem: the line and the kind of its first fault.
abbrev pub dimacs_line : DimacsFault → List ℕ
dimacs_line f = codes "DIMACS REFUSED LINE " ++ (decimal f.line ++ (codes ": " ++ (kind_word f.kind ++ codes "\n")))

-- A column has no line in a DIMACS text.
abbrev pub column_line : ℕ → List ℕ → List ℕ
column_line j reason = codes "EXPORT REFUSED C" ++ (decimal j ++ (codes ": " ++ (reason ++ codes "\n")))

-- A problem has no DIMACS text. Out of memory has no line.
abbrev pub export_line : ExportFault → List ℕ
export_line fault.Constraints = codes "EXPORT REFUSED: Constraints\n"
export_line (fault.RowNumber i) = codes "EXPORT REFUSED ROW " ++ (decimal i ++ codes ": Number\n")
export_line (fault.ColumnNumber j) = column_line j (codes "Number")
export_line (fault.NoCapacity j) = column_line j (codes "NoCapacity")
export_line (fault.Negative j) = column_line j (codes "Negative")
export_line fault.NoMemory = []

-- The line of each refusal, which is the last line of a listing.
abbrev pub refusal_line : Refusal → List ℕ
refusal_line (refusal.NoProgram fault) = program_line fault
refusal_line refusal.NotStanding = codes "PROGRAM REFUSED AT 0: Form\n"
refusal_line refusal.ReadFault = codes "READ FAULT\n"
refusal_line (refusal.Absent name) = codes "ABSENT " ++ (name ++ codes "\n")
refusal_line (refusal.TooLong set) = too_long_line set
refusal_line (refusal.NoTable set fault) = table_line set fault
refusal_line (refusal.NoRoles set fault) = roles_line set fault
refusal_line (refusal.NoNetwork fault) = data_line fault
refusal_line (refusal.NoText fault) = export_line fault
refusal_line (refusal.NoDimacs fault) = dimacs_line fault

-- A refusal ends the command with this status.
abbrev pub refusal_status : Refusal → Status
refusal_status (refusal.NoProgram fault) = status.ProgramRefused
refusal_status refusal.NotStanding = status.ProgramRefused
refusal_status refusal.ReadFault = status.ReadFault
refusal_status (refusal.Absent name) = status.Absent
refusal_status (refusal.TooLong set) = status.DataRefused
refusal_status (refusal.NoTable set fault) = status.DataRefused
refusal_status (refusal.NoRoles set fault) = status.DataRefused
refusal_status (refusal.NoNetwork fault) = status.DataRefused
refusal_status (refusal.NoText fault) = status.DataRefused
refusal_status (refusal.NoDimacs fault) = status.DataRefused
