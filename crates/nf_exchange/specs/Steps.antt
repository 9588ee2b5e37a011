-- How a step of `export` or `import` ends it: the clauses of the functions that they are made of rest on it.
use Rattle.std.specs.Prelude.{◌≡◌, ◌⊎◌, ℕ, Bool, true, false, List, Option, None, Result, Err, if◌then◌else◌, codes}
use Rattle.nf_io.specs.Causes.{Rose}
use Rattle.nf_io.specs.Held.{Held, OthersStay, Stored}
use Rattle.nf_io.specs.declared.faults.FetchFault.{FetchFault}
use Rattle.nf_io.specs.declared.faults.FetchFault.TheVariants as fetch
use Rattle.nf_io.specs.declared.faults.PutFault.{PutFault}
use Rattle.nf_io.specs.declared.faults.PutFault.TheVariants as put
use Rattle.nf_dimacs.specs.declared.fault.DimacsFault.{DimacsFault}
use Rattle.nf_dimacs.specs.declared.fault.DimacsKind.{DimacsKind}
use Rattle.nf_dimacs.specs.declared.fault.DimacsKind.TheVariants as dimacs
use Rattle.nf_dimacs.specs.declared.tables.DimacsTables.{DimacsTables}
use Rattle.nf_program.specs.declared.program.SetName.{SetName}
use Rattle.nf_program.specs.declared.program.StmtFault.{StmtFault}
use Rattle.nf_reader.specs.Gives.{is_memory}
use Rattle.nf_roles.specs.declared.fault.DataFault.{DataFault}
use Rattle.nf_roles.specs.declared.fault.RoleFault.{RoleFault}
use Rattle.nf_roles.specs.declared.fault.RoleFault.TheVariants as roles
use Rattle.nf_top.specs.ProblemOf.{Refusal as ProblemRefusal, OfData, OfRoles, OfTable}
use Rattle.nf_top.specs.Data.{Grids, Sets}
use Rattle.nf_top.specs.Outcome.{Input}
use Rattle.nf_top.specs.Standing.{SetNames}
use Rattle.nf_top.specs.Steps.{bytes_in, is_no_memory, lent_name}
use Rattle.nf_top.specs.declared.status.Status.{Status}
use Rattle.nf_top.specs.declared.status.Status.TheVariants as status
use Rattle.nf_table.specs.Writing.{table_text}
use Rattle.nf_exchange.specs.declared.program.SetNames.{SetNames as NamesOfCode}
use Rattle.nf_exchange.specs.declared.sets.Sets.{Sets as SetsOfCode}
use Rattle.nf_exchange.specs.declared.sets.Tables.{Tables}
use Rattle.nf_exchange.specs.declared.refusal.Refusal.{Refusal}
use Rattle.nf_exchange.specs.declared.refusal.Refusal.TheVariants as refusal
use Rattle.nf_exchange.specs.declared.refusal.Stop.{Stop}
use Rattle.nf_exchange.specs.declared.refusal.Stop.TheVariants as stop
use Rattle.nf_exchange.specs.declared.from_text.TableTexts.{TableTexts}
use Rattle.nf_exchange.specs.Export.{IsRefused}
use Rattle.nf_exchange.specs.Import as import

-- The names of the code, the bytes that it holds, and its tables. There is no CERTDATA.
abbrev pub names_of : NamesOfCode → SetNames
names_of n = record { arcdata = n.arcdata.now; nodedata = lent_name n.nodedata; condata = lent_name n.condata; certdata = None }

abbrev pub sets_of : SetsOfCode → Sets
sets_of s = record { arcdata = s.arcdata.items; nodedata = bytes_in s.nodedata; condata = bytes_in s.condata; certdata = None }

abbrev pub grids_of : Tables → Grids
grids_of t = record { arcdata = t.arcdata; nodedata = t.nodedata; condata = t.condata; certdata = None }

-- `export` stops: it is refused with its cause, or out of memory.
abbrev pub Stops : Input → Stop → Type 0
Stops i (stop.Refused r) = IsRefused i r
Stops i stop.NoMemory = Unit {0}

-- A refusal of the problem as a refusal of the command.
abbrev pub refusal_of : ProblemRefusal → Refusal
refusal_of (OfTable s f) = refusal.NoTable s f
refusal_of (OfRoles s f) = refusal.NoRoles s f
refusal_of (OfData f) = refusal.NoNetwork f

-- Faults of roles and of data end the command: they are reported, or memory ran out.
abbrev pub stop_of_roles : SetName → RoleFault → Stop
stop_of_roles s roles.NoMemory = stop.NoMemory
stop_of_roles s (roles.NoColumn n) = stop.Refused (refusal.NoRoles s (roles.NoColumn n))
stop_of_roles s (roles.TwoRoles n) = stop.Refused (refusal.NoRoles s (roles.TwoRoles n))
stop_of_roles s (roles.MissingRole r) = stop.Refused (refusal.NoRoles s (roles.MissingRole r))

abbrev pub stop_of_data : DataFault → Stop
stop_of_data f = if is_no_memory f.kind then stop.NoMemory else stop.Refused (refusal.NoNetwork f)

-- The command stops with the refusal that is due, or out of memory.
abbrev pub IsStopOf : {A : Type 0} → Result A ProblemRefusal → Stop → Type 0
IsStopOf due (stop.Refused r) = (f : ProblemRefusal) × (due ≡ Err f) × (r ≡ refusal_of f)
IsStopOf due stop.NoMemory = Unit {0}

-- A fetch that returned no bytes ends the command: its fault is reported, or memory ran out.
abbrev pub IsStopOfFetch : SetName → List ℕ → FetchFault → Stop → Type 0
IsStopOfFetch s name fetch.Failed end = end ≡ stop.Refused refusal.ReadFault
IsStopOfFetch s name fetch.Absent end = (end ≡ stop.Refused (refusal.Absent name)) ⊎ (end ≡ stop.NoMemory)
IsStopOfFetch s name fetch.TooLong end = end ≡ stop.Refused (refusal.TooLong s)
IsStopOfFetch s name fetch.NoMemory end = end ≡ stop.NoMemory

-- A text that is no program ends the command: its fault is reported, or memory ran out.
abbrev pub stop_of : StmtFault → Stop
stop_of f = if is_memory f.kind then stop.NoMemory else stop.Refused (refusal.NoProgram f)

-- ---- import
-- `import` stops before it stores: it is refused with its cause, or out of memory.
abbrev pub StopsImport : Input → Stop → Type 0
StopsImport i (stop.Refused r) = import.IsRefused i r
StopsImport i stop.NoMemory = Unit {0}

-- A text without a problem ends the command: its fault is reported, or memory ran out.
abbrev pub is_out_of_memory : DimacsKind → Bool
is_out_of_memory dimacs.NoMemory = true
is_out_of_memory _ = false

abbrev pub stop_of_dimacs : DimacsFault → Stop
stop_of_dimacs f = if is_out_of_memory f.kind then stop.NoMemory else stop.Refused (refusal.NoDimacs f)

-- The texts of the tables.
pub record AreTexts (t : DimacsTables) (x : TableTexts) : Type 0 where
  pub arcs : x.arcs ≡ table_text t.arcs
  pub nodes : x.nodes ≡ table_text t.nodes

-- A store under this name failed, or there was no memory for it, by the counts of failed stores.
abbrev pub FailsStore : Option Held → Option Held → ℕ → ℕ → List ℕ → PutFault → Type 0
FailsStore held now before after name put.Failed = Rose before after × OthersStay held now name
FailsStore held now before after name put.NoMemory = now ≡ held

-- The first of two stores failed, or the second.
abbrev pub FailsStores : TableTexts → Option Held → Option Held → ℕ → ℕ → PutFault → Type 0
FailsStores x held now before after f =
    FailsStore held now before after (codes "arcs") f
    ⊎ ((mid : Option Held) × Stored held mid (codes "arcs") x.arcs × FailsStore mid now before after (codes "nodes") f)

-- Both texts were stored.
abbrev pub StoresTexts : TableTexts → Option Held → Option Held → Type 0
StoresTexts x held now = (mid : Option Held) × Stored held mid (codes "arcs") x.arcs × Stored mid now (codes "nodes") x.nodes

-- The status of a store that fails.
abbrev pub status_of : PutFault → Status
status_of put.Failed = status.WriteFault
status_of put.NoMemory = status.NoMemory
