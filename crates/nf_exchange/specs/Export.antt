-- How `export` ends: what it read and fetched, and what it listed. The contract of `export` rests on it.
use Rattle.std.specs.Prelude.{◌≡◌, ◌<◌, ◌⊎◌, ℕ, List, [], false, None, Some, Err, length}
use Rattle.std.specs.Io.KnownBytes.{Consumes, IsAtEnd}
use Rattle.nf_io.specs.Causes.{Rose}
use Rattle.nf_io.specs.Held.{HasTooMany, LacksName}
use Rattle.nf_model.specs.Program.{LinearProgram}
use Rattle.nf_program.specs.declared.program.Command.TheVariants.{Export}
use Rattle.nf_program.specs.declared.program.Program.{Program}
use Rattle.nf_program.specs.declared.program.SetName.{SetName}
use Rattle.nf_program.specs.Grammar.{HasProgram}
use Rattle.nf_reader.specs.Faults.{HasFault}
use Rattle.nf_table.specs.Reading.{table_read}
use Rattle.nf_dimacs_writer.specs.Refusal as writer
use Rattle.nf_dimacs_writer.specs.Written.{dimacs_text}
use Rattle.nf_top.specs.Data.{AreTables, AreTablesBefore, Grids, IsProblemOf, Sets, bytes_of, data_of}
use Rattle.nf_top.specs.Outcome.{AllFetched, AreHeld, AreHeldBefore, Call, Input, KeepsLibrary, Lists, NoneFails, NoneIsMissed, name_of}
use Rattle.nf_top.specs.ProblemOf.{OfData, OfRoles, problem_of}
use Rattle.nf_top.specs.Standing.{SetNames, asks_path, most_program}
use Rattle.nf_top.specs.declared.status.Status.{Status}
use Rattle.nf_top.specs.declared.status.Status.TheVariants as status
use Rattle.nf_exchange.specs.declared.refusal.Refusal.{Refusal}
use Rattle.nf_exchange.specs.declared.refusal.Refusal.TheVariants as refusal
use Rattle.nf_exchange.specs.Ending.{Concludes}
use Rattle.nf_exchange.specs.Lines.{refusal_line, refusal_status}

-- `export` accepts a program whose PROC names ARCDATA=, without MAXFLOW and SHORTPATH. What else may stand there by the
-- grammar is not looked at, but for what the problem is made of. It fetches no CERTDATA.
pub record IsExportable (p : Program) (n : SetNames) : Type 0 where
  pub arcdata : p.proc.arcdata ≡ Some n.arcdata
  pub nodedata : p.proc.nodedata ≡ n.nodedata
  pub condata : p.proc.condata ≡ n.condata
  pub certdata : n.certdata ≡ None
  pub paths : asks_path p.proc ≡ false

-- The whole source is a text of this program.
pub record ReadsProgram (i : Input) (p : Program) : Type 0 where
  pub text : List ℕ
  pub taken : Consumes i.left i.rest text
  pub ended : IsAtEnd i.rest
  pub spelled : HasProgram Export text p

-- The program that was read is one that `export` accepts, and these are the names of the data sets that it fetches.
pub record NamesSets (i : Input) (n : SetNames) : Type 0 where
  pub program : Program
  pub reads : ReadsProgram i program
  pub stands : IsExportable program n

-- The program was read, and these are the bytes of its data sets. No fetch failed or missed a name, of no other set
-- either.
pub record FetchesSets (i : Input) (s : Sets) : Type 0 where
  pub names : SetNames
  pub named : NamesSets i names
  pub held : AreHeld i.held names s
  pub fetched : AllFetched i

-- The data sets were fetched, and stand for this problem.
pub record PosesProblem (i : Input) (problem : LinearProgram) : Type 0 where
  pub sets : Sets
  pub fetches : FetchesSets i sets
  pub posed : IsProblemOf fetches.named.program sets problem

-- A fetch of a data set of the program, under this name; the library holds the sets before it.
pub record ComesToFetch (i : Input) (s : SetName) (name : List ℕ) : Type 0 where
  pub names : SetNames
  pub named : NamesSets i names
  pub before : AreHeldBefore i.held names s
  pub is : Some name ≡ name_of names s

-- The cause of each refusal of `export`, and what was met before it. But for a fetch that is the cause, none failed or missed
-- a name: as far as the library reports, no other set was fetched.
abbrev pub IsRefused : Input → Refusal → Type 0
-- the source gave a text with this first fault: all of its text, or one that is too long
IsRefused i (refusal.NoProgram fault) =
    (text : List ℕ) × Consumes i.left i.rest text × HasFault Export text fault × ((most_program < length text) ⊎ IsAtEnd i.rest) × AllFetched i
-- a program was read that `export` does not accept yet
IsRefused i refusal.NotStanding = (p : Program) × ReadsProgram i p × ((n : SetNames) → IsExportable p n → ⊥) × AllFetched i
-- the count of the source's faults rose; or that of failed fetches, at a data set of the program
IsRefused i refusal.ReadFault =
    NoneIsMissed i × ((Rose i.source_faults i.source_faults_after × NoneFails i) ⊎ ((s : SetName) × (name : List ℕ) × ComesToFetch i s name × Rose i.fetch_faults i.fetch_faults_after))
-- the library lacks a data set of the program
IsRefused i (refusal.Absent name) = (s : SetName) × ComesToFetch i s name × LacksName i.held name × Rose (i.misses name) (i.misses_after name) × NoneFails i
-- a data set of the program has too many bytes
IsRefused i (refusal.TooLong s) = (name : List ℕ) × ComesToFetch i s name × HasTooMany i.held name × AllFetched i
-- this is the first fault of the first data set that is no table
IsRefused i (refusal.NoTable s fault) = (sets : Sets) × (bytes : List ℕ) × FetchesSets i sets × AreTablesBefore sets s × (Some bytes ≡ bytes_of sets s) × (table_read bytes ≡ Err fault)
-- all are tables, and this is the first fault of their columns
IsRefused i (refusal.NoRoles s fault) = (sets : Sets) × (fetches : FetchesSets i sets) × (t : Grids) × AreTables sets t × (problem_of fetches.named.program (data_of sets) ≡ Err (OfRoles s fault))
-- the columns have their roles, and this is the first fault of the data, or of the size of the problem
IsRefused i (refusal.NoNetwork fault) = (sets : Sets) × (fetches : FetchesSets i sets) × (t : Grids) × AreTables sets t × (problem_of fetches.named.program (data_of sets) ≡ Err (OfData fault))
-- the problem is there, and this is the first reason why it has no DIMACS text
IsRefused i (refusal.NoText fault) = (problem : LinearProgram) × PosesProblem i problem × (writer.refusal_of problem ≡ Some fault)
IsRefused i (refusal.NoDimacs fault) = ⊥

-- The text of the problem of the data sets, which has one.
pub record IsExported (i : Input) (text : List ℕ) : Type 0 where
  pub problem : LinearProgram
  pub poses : PosesProblem i problem
  pub has_text : writer.refusal_of problem ≡ None
  pub is : text ≡ dimacs_text problem

-- The text that is due, and the status with which it is: the text of the problem, or the line of a refusal.
abbrev pub IsDue : Input → List ℕ → Status → Type 0
IsDue i text due =
    (IsExported i text × (due ≡ status.Finished))
    ⊎ ((r : Refusal) × IsRefused i r × (text ≡ refusal_line r) × (due ≡ refusal_status r))

-- How `export` ends: with the text that is due, or there is no memory to come so far. Nothing is stored.
pub record ExportEnds (c : Call) (s : Status) : Type 0 where
  pub kept : KeepsLibrary c
  pub stores : c.store_faults_after ≡ c.store_faults
  pub ends : ((text : List ℕ) × (due : Status) × IsDue c.input text due × Concludes text due c s) ⊎ ((s ≡ status.NoMemory) × Lists c [])
