-- How a step of a call ends it: the clauses of the functions that `netflow` is made of rest on it.
use Rattle.std.specs.Prelude.{◌≡◌, ◌⊎◌, ℕ, Bool, true, false, List, Option, Some, None, Result, Ok, Err, if◌then◌else◌}
use Rattle.std.specs.Borrow.{Bor}
use Rattle.std.specs.declared.vec.Vec.{Vec}
use Rattle.std.specs.declared.alloc.Global.{Global}
use Rattle.nf_io.specs.Held.{Held}
use Rattle.nf_io.specs.declared.faults.FetchFault.{FetchFault}
use Rattle.nf_io.specs.declared.faults.FetchFault.TheVariants as fetch
use Rattle.nf_program.specs.declared.program.StmtFault.{StmtFault}
use Rattle.nf_reader.specs.Gives.{is_memory}
use Rattle.nf_model.specs.Program.{LinearProgram}
use Rattle.nf_network.specs.Network.{Network}
use Rattle.nf_top.specs.ProblemOf.{Refusal as ProblemRefusal, OfTable, OfRoles, OfData, size_fault}
use Rattle.nf_roles.specs.declared.fault.DataFault.{DataFault}
use Rattle.nf_roles.specs.declared.fault.RoleFault.{RoleFault}
use Rattle.nf_roles.specs.declared.fault.RoleFault.TheVariants as roles
use Rattle.nf_program.specs.declared.program.SetName.{SetName}
use Rattle.nf_roles.specs.declared.fault.DataKind.{DataKind}
use Rattle.nf_roles.specs.declared.fault.DataKind.TheVariants as data_kind
use Rattle.nf_top.specs.declared.program.SetNames.{SetNames as NamesOfCode}
use Rattle.nf_top.specs.declared.refusal.Refusal.{Refusal}
use Rattle.nf_top.specs.declared.refusal.Stop.{Stop}
use Rattle.nf_top.specs.declared.refusal.Stop.TheVariants as stop
use Rattle.nf_top.specs.declared.refusal.Refusal.TheVariants as refusal
use Rattle.nf_top.specs.declared.sets.Sets.{Sets as SetsOfCode}
use Rattle.nf_top.specs.declared.sets.Tables.{Tables}
use Rattle.nf_top.specs.Data.{Grids, Sets}
use Rattle.nf_top.specs.Outcome.{Input, Refuses}
use Rattle.nf_top.specs.Standing.{SetNames}

-- A name that the code may hold, and bytes that it may hold.
abbrev pub lent_name : Option (Bor (List ℕ)) → Option (List ℕ)
lent_name None = None
lent_name (Some name) = Some name.now

abbrev pub bytes_in : Option (Vec ℕ Global) → Option (List ℕ)
bytes_in None = None
bytes_in (Some bytes) = Some bytes.items

-- The names of the code, the bytes that it holds, and its tables.
abbrev pub names_of : NamesOfCode → SetNames
names_of n = record { arcdata = n.arcdata.now; nodedata = lent_name n.nodedata; condata = lent_name n.condata; certdata = lent_name n.certdata }

abbrev pub sets_of : SetsOfCode → Sets
sets_of s = record { arcdata = s.arcdata.items; nodedata = bytes_in s.nodedata; condata = bytes_in s.condata; certdata = bytes_in s.certdata }

abbrev pub grids_of : Tables → Grids
grids_of t = record { arcdata = t.arcdata; nodedata = t.nodedata; condata = t.condata; certdata = t.certdata }

-- A call stops: it is refused with its cause, or wants memory.
abbrev pub Stops : Input → Stop → Type 0
Stops i (stop.Refused r) = Refuses i r
Stops i stop.NoMemory = Unit {0}

-- A problem is the one that is due.
abbrev pub IsPosed : Result Network ProblemRefusal → LinearProgram → Type 0
IsPosed due p = (n : Network) × (due ≡ Ok n) × (p ≡ n.program)

-- A refusal of the problem is told as a refusal of the call.
abbrev pub refusal_of : ProblemRefusal → Refusal
refusal_of (OfTable s f) = refusal.NoTable s f
refusal_of (OfRoles s f) = refusal.NoRoles s f
refusal_of (OfData f) = refusal.NoNetwork f

-- Faults of roles and of data end the call: they are told, or memory ran out.
abbrev pub stop_of_roles : SetName → RoleFault → Stop
stop_of_roles s roles.NoMemory = stop.NoMemory
stop_of_roles s (roles.NoColumn n) = stop.Refused (refusal.NoRoles s (roles.NoColumn n))
stop_of_roles s (roles.TwoRoles n) = stop.Refused (refusal.NoRoles s (roles.TwoRoles n))
stop_of_roles s (roles.MissingRole r) = stop.Refused (refusal.NoRoles s (roles.MissingRole r))

abbrev pub is_no_memory : DataKind → Bool
is_no_memory data_kind.NoMemory = true
is_no_memory _ = false

abbrev pub stop_of_data : DataFault → Stop
stop_of_data f = if is_no_memory f.kind then stop.NoMemory else stop.Refused (refusal.NoNetwork f)

-- The refusal of a problem of too many rows.
abbrev pub too_large : Result Network ProblemRefusal
too_large = Err (OfData size_fault)

-- A call stops with the refusal that is due, or wants memory.
abbrev pub IsStopOf : {A : Type 0} → Result A ProblemRefusal → Stop → Type 0
IsStopOf due (stop.Refused r) = (f : ProblemRefusal) × (due ≡ Err f) × (r ≡ refusal_of f)
IsStopOf due stop.NoMemory = Unit {0}

-- A fetch that returned no bytes ends the call: its fault is told, or memory ran out.
abbrev pub IsStopOfFetch : SetName → List ℕ → FetchFault → Stop → Type 0
IsStopOfFetch s name fetch.Failed end = end ≡ stop.Refused refusal.ReadFault
IsStopOfFetch s name fetch.Absent end = (end ≡ stop.Refused (refusal.Absent name)) ⊎ (end ≡ stop.NoMemory)
IsStopOfFetch s name fetch.TooLong end = end ≡ stop.Refused (refusal.TooLong s)
IsStopOfFetch s name fetch.NoMemory end = end ≡ stop.NoMemory

-- A text that is no program ends the call: its fault is told, or memory ran out.
abbrev pub stop_of : StmtFault → Stop
stop_of f = if is_memory f.kind then stop.NoMemory else stop.Refused (refusal.NoProgram f)

-- All that the library reported of faults and misses in this call, it reported in these fetches.
pub record SawLibrary (i : Input) (holds : Option Held) (before after : ℕ) (missed misses : List ℕ → ℕ) : Type 0 where
  pub held : i.held ≡ holds
  pub since : i.fetch_faults ≡ before
  pub until : i.fetch_faults_after ≡ after
  pub missed_since : (q : List ℕ) → i.misses q ≡ missed q
  pub missed_until : (q : List ℕ) → i.misses_after q ≡ misses q

-- The call saw this source, before and after.
pub record SawSource (i : Input) (old new : Option (List ℕ)) (before after : ℕ) : Type 0 where
  pub left : i.left ≡ old
  pub rest : i.rest ≡ new
  pub faults : i.source_faults ≡ before
  pub faults_after : i.source_faults_after ≡ after
