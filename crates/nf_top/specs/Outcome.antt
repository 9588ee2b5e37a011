-- When each status comes: what a call saw before it, and what its listing got. The contract of the program rests on it.
use Rattle.std.specs.Prelude.{◌≡◌, ◌<◌, ◌≤◌, ◌⊎◌, ◌++◌, ℕ, String, List, [], Option, Some, None, Err, length, map}
use Rattle.std.specs.String.{string_bytes}
use Rattle.std.specs.declared.alloc.Global.{Global}
use Rattle.std.specs.Io.KnownBytes.{Appends, Consumes, IsAtEnd}
use Rattle.nf_num.specs.Rational.{ℚ}
use Rattle.nf_frac.specs.declared.passed.Passed.{Passed}
use Rattle.nf_io.specs.Causes.{Rose}
use Rattle.nf_io.specs.Held.{Held, HasName, HasTooMany, LacksName, most_bytes}
use Rattle.nf_io.specs.Progress.{PutPrefix}
use Rattle.nf_program.specs.declared.program.Command.{Command}
use Rattle.nf_program.specs.declared.program.Command.TheVariants.{Run, Check}
use Rattle.nf_program.specs.declared.program.Program.{Program}
use Rattle.nf_program.specs.declared.program.StmtFault.{StmtFault}
use Rattle.nf_program.specs.Grammar.{HasProgram}
use Rattle.nf_reader.specs.Faults.{HasFault}
use Rattle.nf_table.specs.Grid.{Grid}
use Rattle.nf_table.specs.Reading.{table_read}
use Rattle.nf_table.specs.declared.table.TableFault.{TableFault}
use Rattle.nf_model.specs.Program.{LinearProgram}
use Rattle.nf_prob.specs.declared.cert.Cert.{Cert}
use Rattle.nf_prob.specs.declared.cert.Checked.TheVariants as checked
use Rattle.nf_prob.specs.declared.cert.Why.{Why}
use Rattle.nf_prob.specs.Arising.{CheckTerms}
use Rattle.nf_sums.specs.Terms.{PassesIn}
use Rattle.nf_prob.specs.Verdict.{IsAnswer}
use Rattle.nf_roles.specs.declared.fault.RoleFault.{RoleFault}
use Rattle.nf_roles.specs.declared.fault.DataFault.{DataFault}
use Rattle.nf_cert.specs.Reading.{cert_read}
use Rattle.nf_cert.specs.declared.fault.CertFault.{CertFault}
use Rattle.nf_top.specs.declared.refusal.Refusal.{Refusal}
use Rattle.nf_top.specs.declared.refusal.Refusal.TheVariants as refusal
use Rattle.nf_program.specs.declared.program.SetName.{SetName}
use Rattle.nf_program.specs.declared.program.SetName.TheVariants as set
use Rattle.nf_top.specs.declared.status.Status.{Status}
use Rattle.nf_top.specs.declared.status.Status.TheVariants as status
use Rattle.nf_run.specs.declared.line.HaltLine.{HaltLine}
use Rattle.nf_run.specs.Runs.{IsCut, IsFront}
use Rattle.nf_no_range.specs.Law.{IsOfStageTwo}
use Rattle.nf_run.specs.Stops.{ListsAll, ListsPart, StopsAtStore}
use Rattle.nf_program.specs.declared.program.SessionOptions.{SessionOptions}
use Rattle.nf_program.specs.declared.program.Statement.{Statement}
use Rattle.nf_top.specs.Data.{Grids, Sets, AreTables, AreTablesBefore, IsCertificateOf, IsProblemOf, IsTableOrNone, bytes_of, data_of}
use Rattle.nf_top.specs.ProblemOf.{OfRoles, OfData, problem_of}
use Rattle.nf_top.specs.Lines.{accepted_lines, claim_line, in_own_words, refusal_line, step_range_line}
use Rattle.nf_top.specs.Standing.{IsStanding, SetNames, StandsFor, StandsForRun, most_program}
use Rattle.nf_top.specs.Words.{IsCommand}

-- What a call took in: its words, and its source and library before and after.
pub record Input : Type 0 where
  pub words : List (List ℕ)
  pub left : Option (List ℕ)
  pub rest : Option (List ℕ)
  pub source_faults : ℕ
  pub source_faults_after : ℕ
  pub held : Option Held
  pub fetch_faults : ℕ
  pub fetch_faults_after : ℕ
  pub misses : List ℕ → ℕ
  pub misses_after : List ℕ → ℕ

-- What a call took in and gave out: its listing before and after, what its library then held, and how often a store of
-- this library had failed before and after.
pub record Call : Type 0 where
  pub input : Input
  pub written : Option (List ℕ)
  pub put : Option (List ℕ)
  pub sink_faults : ℕ
  pub sink_faults_after : ℕ
  pub held : Option Held
  pub store_faults : ℕ
  pub store_faults_after : ℕ

-- What a call took in, by its words and by what its source and its library tell, each before and after.
abbrev pub input_of : {S L : Type 0} → List (String Global) → (S → Option (List ℕ)) → (S → ℕ) → S → S → (L → Option Held) → (L → ℕ) → (L → List ℕ → ℕ) → L → L → Input
input_of words left faults source source_after held fetch_faults misses library library_after = record {
  words = map string_bytes words;
  left = left source;
  rest = left source_after;
  source_faults = faults source;
  source_faults_after = faults source_after;
  held = held library;
  fetch_faults = fetch_faults library;
  fetch_faults_after = fetch_faults library_after;
  misses = misses library;
  misses_after = misses library_after;
}

-- A call by its parts: its input, its listing before and after with the counts of its faults, what its library then held,
-- and its failed stores before and after.
abbrev pub call_with : Input → Option (List ℕ) → Option (List ℕ) → ℕ → ℕ → Option Held → ℕ → ℕ → Call
call_with i written put faults faults_after held stores stores_after = record {
  input = i;
  written = written;
  put = put;
  sink_faults = faults;
  sink_faults_after = faults_after;
  held = held;
  store_faults = stores;
  store_faults_after = stores_after;
}

-- A call, by its words and by what its source, its library and its listing tell, each before and after.
abbrev pub call_of : {S L K : Type 0} → List (String Global) → (S → Option (List ℕ)) → (S → ℕ) → S → S
    → (L → Option Held) → (L → ℕ) → (L → ℕ) → (L → List ℕ → ℕ) → L → L → (K → Option (List ℕ)) → (K → ℕ) → K → K → Call
call_of words left faults source source_after held fetch_faults store_faults misses library library_after written sink_faults listing listing_after =
    call_with (input_of words left faults source source_after held fetch_faults misses library library_after)
    (written listing) (written listing_after) (sink_faults listing) (sink_faults listing_after) (held library_after) (store_faults library) (store_faults library_after)

-- ---- what was met, in the order of answers
-- The words are those of the command, and the whole source is a text of this program.
pub record ReadsProgram (i : Input) (c : Command) (p : Program) : Type 0 where
  pub words : IsCommand c i.words
  pub text : List ℕ
  pub taken : Consumes i.left i.rest text
  pub ended : IsAtEnd i.rest
  pub spelled : HasProgram c text p

-- The program that was read is one that the command accepts, and these are the names of the data sets that it fetches.
pub record NamesSets (i : Input) (c : Command) (n : SetNames) : Type 0 where
  pub program : Program
  pub reads : ReadsProgram i c program
  pub stands : StandsFor c program n

-- The name of a data set that is fetched, if it is.
abbrev pub name_of : SetNames → SetName → Option (List ℕ)
name_of n set.Arcdata = Some n.arcdata
name_of n set.Nodedata = n.nodedata
name_of n set.Condata = n.condata
name_of n set.Certdata = n.certdata
name_of n _ = None

-- The library holds these bytes under this name, and they are not too many.
abbrev pub IsHeld : Option Held → List ℕ → List ℕ → Type 0
IsHeld held name bytes = HasName held name bytes × (length bytes ≤ most_bytes)

-- The same of a set that may be left out, or there is neither.
abbrev pub IsHeldOrNone : Option Held → Option (List ℕ) → Option (List ℕ) → Type 0
IsHeldOrNone held None None = Unit {0}
IsHeldOrNone held None (Some bytes) = ⊥
IsHeldOrNone held (Some name) None = ⊥
IsHeldOrNone held (Some name) (Some bytes) = IsHeld held name bytes

-- The library holds these bytes under the names of the sets that are fetched.
pub record AreHeld (held : Option Held) (n : SetNames) (s : Sets) : Type 0 where
  pub arcdata : IsHeld held n.arcdata s.arcdata
  pub nodedata : IsHeldOrNone held n.nodedata s.nodedata
  pub condata : IsHeldOrNone held n.condata s.condata
  pub certdata : IsHeldOrNone held n.certdata s.certdata

-- The library holds the sets before this one.
abbrev pub AreHeldBefore : Option Held → SetNames → SetName → Type 0
AreHeldBefore held n set.Nodedata = (arcs : List ℕ) × IsHeld held n.arcdata arcs
AreHeldBefore held n set.Condata = (arcs : List ℕ) × (nodes : Option (List ℕ)) × IsHeld held n.arcdata arcs × IsHeldOrNone held n.nodedata nodes
AreHeldBefore held n set.Certdata =
    (arcs : List ℕ) × (nodes cons : Option (List ℕ)) × IsHeld held n.arcdata arcs × IsHeldOrNone held n.nodedata nodes × IsHeldOrNone held n.condata cons
AreHeldBefore held n _ = Unit {0}

-- No fetch failed, and none missed a name, by the counts before and after.
pub record NoneMissed (before after : ℕ) (missed misses : List ℕ → ℕ) : Type 0 where
  pub sound : after ≡ before
  pub there : (q : List ℕ) → misses q ≡ missed q

-- No fetch of the call failed, of no set.
abbrev pub NoneFails : Input → Type 0
NoneFails i = i.fetch_faults_after ≡ i.fetch_faults

-- No fetch of the call missed a name, be it that of a set that the command does not look at.
abbrev pub NoneIsMissed : Input → Type 0
NoneIsMissed i = (q : List ℕ) → i.misses_after q ≡ i.misses q

-- Each fetch of the call returned bytes.
abbrev pub AllFetched : Input → Type 0
AllFetched i = NoneMissed i.fetch_faults i.fetch_faults_after i.misses i.misses_after

-- The program was read, and these are the bytes of its data sets. No fetch failed or missed a name, of no other set
-- either.
pub record FetchesSets (i : Input) (c : Command) (s : Sets) : Type 0 where
  pub names : SetNames
  pub named : NamesSets i c names
  pub held : AreHeld i.held names s
  pub fetched : AllFetched i

-- The data sets were fetched, and stand for this problem.
pub record PosesProblem (i : Input) (c : Command) (s : Sets) (problem : LinearProgram) : Type 0 where
  pub fetches : FetchesSets i c s
  pub posed : IsProblemOf fetches.named.program s problem

-- They stand for this problem, and for this certificate of it.
pub record ReadsCertificate (i : Input) (problem : LinearProgram) (certificate : Cert) : Type 0 where
  pub sets : Sets
  pub poses : PosesProblem i Check sets problem
  pub claimed : IsCertificateOf sets.certdata problem certificate

-- The program was read for `run`, which accepts it, and its data sets stand for this problem.
pub record RunsOn (i : Input) (program : Program) (problem : LinearProgram) : Type 0 where
  pub reads : ReadsProgram i Run program
  pub names : SetNames
  pub stands : StandsForRun program names
  pub sets : Sets
  pub held : AreHeld i.held names sets
  pub fetched : AllFetched i
  pub posed : IsProblemOf program sets problem

-- ---- answers
-- The certificate is accepted: it is valid, with this number, and proves what the line says.
pub record Accepts (i : Input) (line : HaltLine) : Type 0 where
  pub problem : LinearProgram
  pub certificate : Cert
  pub reads : ReadsCertificate i problem certificate
  pub number : ℚ
  pub valid : IsAnswer problem certificate (checked.Yes number)
  pub told : line ≡ claim_line problem.maximizes certificate number

-- The cause of each refusal, and what was met before it. But for a fetch that is the cause, none failed or missed a name: as
-- far as the library reports, no other set was fetched.
abbrev pub Refuses : Input → Refusal → Type 0
-- the words are no command
Refuses i refusal.Usage = ((c : Command) → IsCommand c i.words → ⊥) × AllFetched i
-- the source gave a text with this first fault: all of its text, or one that is too long
Refuses i (refusal.NoProgram fault) = (c : Command) × IsCommand c i.words × (text : List ℕ) × Consumes i.left i.rest text × HasFault c text fault × ((most_program < length text) ⊎ IsAtEnd i.rest) × AllFetched i
-- a program was read that the command does not accept yet
Refuses i refusal.NotStanding = (c : Command) × (p : Program) × ReadsProgram i c p × (IsStanding c p → ⊥) × AllFetched i
-- the count of the source's faults rose; or that of failed fetches, at a data set of a program that was read, and those before
-- it are held
Refuses i refusal.ReadFault = (c : Command) × IsCommand c i.words × NoneIsMissed i × ((Rose i.source_faults i.source_faults_after × NoneFails i) ⊎ ((n : SetNames) × (s : SetName) × (name : List ℕ) × NamesSets i c n × AreHeldBefore i.held n s × (Some name ≡ name_of n s) × Rose i.fetch_faults i.fetch_faults_after))
-- the library lacks a data set of the program, and has those before it
Refuses i (refusal.Absent name) = (c : Command) × (n : SetNames) × (s : SetName) × NamesSets i c n × AreHeldBefore i.held n s × (Some name ≡ name_of n s) × LacksName i.held name × Rose (i.misses name) (i.misses_after name) × NoneFails i
-- a data set of the program has too many bytes, and those before it are held
Refuses i (refusal.TooLong s) = (c : Command) × (n : SetNames) × (name : List ℕ) × NamesSets i c n × AreHeldBefore i.held n s × (Some name ≡ name_of n s) × HasTooMany i.held name × AllFetched i
-- this is the first fault of the first data set that is no table
Refuses i (refusal.NoTable s fault) = (c : Command) × (sets : Sets) × (bytes : List ℕ) × FetchesSets i c sets × AreTablesBefore sets s × (Some bytes ≡ bytes_of sets s) × (table_read bytes ≡ Err fault)
-- all are tables, and this is the first fault of the columns of ARCDATA, NODEDATA and CONDATA
Refuses i (refusal.NoRoles s fault) = (c : Command) × (sets : Sets) × (fetches : FetchesSets i c sets) × (t : Grids) × AreTables sets t × (problem_of fetches.named.program (data_of sets) ≡ Err (OfRoles s fault))
-- the columns have their roles, and this is the first fault of the data, or of the size of the problem
Refuses i (refusal.NoNetwork fault) = (c : Command) × (sets : Sets) × (fetches : FetchesSets i c sets) × (t : Grids) × AreTables sets t × (problem_of fetches.named.program (data_of sets) ≡ Err (OfData fault))
-- the problem is there, and this is the first fault of the certificate's table
Refuses i (refusal.NoCertificate fault) = (sets : Sets) × (problem : LinearProgram) × PosesProblem i Check sets problem × (table : Grid) × IsTableOrNone sets.certdata (Some table) × (cert_read table (length problem.columns) (length problem.rows) ≡ Err fault)
-- problem and certificate are there, and this is the first place where it is not valid
Refuses i (refusal.NotValid told) = (problem : LinearProgram) × (certificate : Cert) × (why : Why) × ReadsCertificate i problem certificate × IsAnswer problem certificate (checked.No why) × (told ≡ in_own_words problem.maximizes why)
-- problem and certificate are there, and this operation of their check passes 128 bits
Refuses i (refusal.Range passed) = (problem : LinearProgram) × (certificate : Cert) × ReadsCertificate i problem certificate × PassesIn (CheckTerms problem certificate) passed

-- A text of a run on the problem of the call: the listing of its first statements, or of those before an operation that
-- passes 128 bits, with the line that tells it.
abbrev pub IsOfRun : Input → List ℕ → Type 0
IsOfRun i text =
    (program : Program) × (problem : LinearProgram) × RunsOn i program problem
    × (IsFront problem program.proc.session program.acts text
    ⊎ ((front : List ℕ) × (stage pivots : ℕ) × (passed : Passed) × IsCut problem program.proc.session program.acts front stage pivots passed × (text ≡ front ++ step_range_line stage pivots passed)))

-- The text that is due.
abbrev pub IsDue : Input → List ℕ → Type 0
IsDue i text = ((line : HaltLine) × Accepts i line × (text ≡ accepted_lines line)) ⊎ ((r : Refusal) × Refuses i r × (text ≡ refusal_line r)) ⊎ IsOfRun i text

-- ---- the listing, and the statuses
-- This call has added these bytes to the listing.
abbrev pub Lists : Call → List ℕ → Type 0
Lists c bytes = Appends c.written c.put bytes

-- The library holds what it held before the call.
abbrev pub KeepsLibrary : Call → Type 0
KeepsLibrary c = c.held ≡ c.input.held

-- The call was refused for this reason, its line was written, and nothing was stored.
abbrev pub Refused : Call → Refusal → Type 0
Refused c r = Refuses c.input r × Lists c (refusal_line r) × KeepsLibrary c

-- A text that is due was written, or a first part of it, and nothing was stored.
abbrev pub WritesPart : Call → Type 0
WritesPart c = (text : List ℕ) × IsDue c.input text × PutPrefix c.written c.put text × KeepsLibrary c

-- The call ran this program on this problem, obeyed all of it, and then ended so: by its listing and its library, before
-- and after, under the name that the program gives for its certificate.
abbrev pub EndsRun : Call → (LinearProgram → SessionOptions → List Statement → Option (List ℕ) → Option (List ℕ) → Option (List ℕ) → Option Held → Option Held → Type 0) → Type 0
EndsRun c how = (program : Program) × (problem : LinearProgram) × RunsOn c.input program problem × how problem program.proc.session program.acts program.proc.certout c.written c.put c.input.held c.held

-- When each status comes.
abbrev pub Comes : Call → Status → Type 0
-- `check` accepted the certificate, or `run` obeyed the whole program, and stored the certificate that was due
Comes c status.Finished = ((line : HaltLine) × Accepts c.input line × Lists c (accepted_lines line) × KeepsLibrary c) ⊎ EndsRun c ListsAll
Comes c status.Usage = Refused c refusal.Usage
Comes c status.ProgramRefused = ((fault : StmtFault) × Refused c (refusal.NoProgram fault)) ⊎ Refused c refusal.NotStanding
Comes c status.DataRefused = ((s : SetName) × Refused c (refusal.TooLong s)) ⊎ ((s : SetName) × (fault : TableFault) × Refused c (refusal.NoTable s fault)) ⊎ ((s : SetName) × (fault : RoleFault) × Refused c (refusal.NoRoles s fault)) ⊎ ((fault : DataFault) × Refused c (refusal.NoNetwork fault))
Comes c status.ReadFault = Refused c refusal.ReadFault
Comes c status.Absent = (name : List ℕ) × Refused c (refusal.Absent name)
-- an operation of the check overflows 128 bits; or one of stage two of the run, after the listing of the statements before
Comes c status.RangePassed =
    ((passed : Passed) × Refused c (refusal.Range passed))
    ⊎ ((program : Program) × (problem : LinearProgram) × RunsOn c.input program problem × (front : List ℕ) × (stage pivots : ℕ) × (passed : Passed)
    × IsCut problem program.proc.session program.acts front stage pivots passed × IsOfStageTwo problem stage passed × Lists c (front ++ step_range_line stage pivots passed) × KeepsLibrary c)
Comes c status.CheckRefused = ((fault : CertFault) × Refused c (refusal.NoCertificate fault)) ⊎ ((why : Why) × Refused c (refusal.NotValid why))
-- the listing failed, in the text that is due or behind the store at the end of a run; or that store failed
Comes c status.WriteFault = (Rose c.sink_faults c.sink_faults_after × (WritesPart c ⊎ EndsRun c ListsPart)) ⊎ (Rose c.store_faults c.store_faults_after × EndsRun c StopsAtStore)
-- memory ran out, before a text was due or within it
Comes c status.NoMemory = (Lists c [] × KeepsLibrary c) ⊎ WritesPart c ⊎ EndsRun c ListsPart
-- it comes with saved tables alone, which no command reads yet
Comes c status.WarmRefused = ⊥
