-- The headline: what a planner may rely on where a certificate is accepted or a run is listed, and where one must be.
use Rattle.std.specs.Prelude.{◌≡◌, ◌⊎◌, ◌++◌, ℕ, true, List, Option, Some, is_some}
use Rattle.nf_num.specs.Rational.{ℚ}
use Rattle.nf_frac.specs.declared.passed.Passed.{Passed}
use Rattle.nf_io.specs.Causes.{Rose}
use Rattle.nf_io.specs.Held.{Held, Stored}
use Rattle.nf_program.specs.declared.program.Command.{Command}
use Rattle.nf_program.specs.declared.program.Command.TheVariants.{Run, Check}
use Rattle.nf_program.specs.declared.program.Program.{Program}
use Rattle.nf_program.specs.declared.program.StmtFault.{StmtFault}
use Rattle.nf_program.specs.Grammar.{HasProgram}
use Rattle.nf_reader.specs.Faults.{HasFault}
use Rattle.nf_model.specs.Program.{LinearProgram, IsBest, cost_of}
use Rattle.nf_model.specs.Farkas.{HasNoFeasible, IsGap}
use Rattle.nf_model.specs.Ray.{HasNoLeastCost}
use Rattle.nf_certify.specs.Certificates.{IsValid}
use Rattle.nf_run.specs.declared.line.HaltLine.{HaltLine}
use Rattle.nf_run.specs.Endings.{IsSavedAs, Stores}
use Rattle.nf_run.specs.Runs.{IsCut}
use Rattle.nf_run.specs.Stops.{IsListing}
use Rattle.nf_run.specs.Verdicts as run
use Rattle.nf_prob.specs.declared.cert.Cert.{Cert}
use Rattle.nf_prob.specs.declared.cert.Cert.TheVariants as cert
use Rattle.nf_top.specs.declared.status.Status.{Status}
use Rattle.nf_top.specs.declared.status.Status.TheVariants as status
use Rattle.nf_top.specs.Data.{Sets, IsCertificateOf, IsProblemOf}
use Rattle.nf_no_range.specs.Law.{IsOfStageTwo}
use Rattle.nf_top.specs.Lines.{accepted_lines, claim_line, step_range_line}
use Rattle.nf_top.specs.Outcome.{AreHeld, Call, Input, KeepsLibrary, Lists, ReadsCertificate, RunsOn}
use Rattle.nf_top.specs.Standing.{IsStanding, SetNames, StandsForCheck, StandsForRun}
use Rattle.nf_top.specs.Words.{IsCommand}

-- What a certificate with this number proves: that no feasible flows cost less than its flows, which cost this; that no
-- flows are feasible, with this gap; or that the costs of feasible flows have no least, at this rate.
abbrev pub Proves : LinearProgram → Cert → ℚ → Type 0
Proves p (cert.Best flows duals) number = IsBest p flows × (number ≡ cost_of p flows)
Proves p (cert.Farkas duals) number = HasNoFeasible p × IsGap p duals number
Proves p (cert.Ray flows ray) number = HasNoLeastCost p × (number ≡ cost_of p ray)

-- A claim is proved: the data sets of the program stand for this problem and this certificate, which proves what is
-- listed.
pub record ClaimIsProved (c : Call) : Type 0 where
  pub problem : LinearProgram
  pub certificate : Cert
  pub reads : ReadsCertificate c.input problem certificate
  pub number : ℚ
  pub proves : Proves problem certificate number
  pub listed : Lists c (accepted_lines (claim_line problem.maximizes certificate number))

-- A run is explained: the data sets of the program stand for this problem, and the listing is that of a run of the
-- program on it, statement by statement. Each line is what it says, and each verdict comes with a valid certificate:
-- OPTIMAL, that the flows of the state at which it comes are feasible, that none cost less, and what they cost;
-- INFEASIBLE, that no flows are feasible, with the gap; UNBOUNDED, that the costs of feasible flows have no least, with
-- the rate; HALTED, that the program's own limit is met. What was stored, under the name that the program gives, is what
-- the listing says.
pub record RunIsExplained (c : Call) : Type 0 where
  pub program : Program
  pub problem : LinearProgram
  pub runs : RunsOn c.input program problem
  pub stored : Option (List ℕ)
  pub text : List ℕ
  pub listing : IsListing problem program.proc.session program.acts program.proc.certout stored text
  pub listed : Lists c text
  pub kept : Stores program.proc.certout stored c.input.held c.held

-- The bytes are the table of a certificate, which is valid and proves this verdict.
pub record IsProofOf (p : LinearProgram) (told : HaltLine) (bytes : List ℕ) : Type 0 where
  pub certificate : Cert
  pub rows : ℕ
  pub saved : IsSavedAs p certificate rows bytes
  pub proves : run.Proves p certificate told
  pub valid : IsValid p certificate

-- What a run stores is the table of a valid certificate of the problem of its data sets, and proves its last verdict.
pub record StoresProof (c : Call) : Type 0 where
  pub program : Program
  pub problem : LinearProgram
  pub runs : RunsOn c.input program problem
  pub nothing_or_proof : KeepsLibrary c ⊎ ((name bytes : List ℕ) × (told : HaltLine) × (program.proc.certout ≡ Some name) × Stored c.input.held c.held name bytes × IsProofOf problem told bytes)

-- A run ends at an operation that overflows 128 bits: the program names CONDATA, the operation arises from a state of stage
-- two of its problem, and the listing is that of the statements before, with the line that says so.
pub record OverflowsInStageTwo (c : Call) : Type 0 where
  pub program : Program
  pub problem : LinearProgram
  pub runs : RunsOn c.input program problem
  pub condata : is_some program.proc.condata ≡ true
  pub front : List ℕ
  pub pivots : ℕ
  pub passed : Passed
  pub cut : IsCut problem program.proc.session program.acts front 2 pivots passed
  pub of_two : IsOfStageTwo problem 2 passed
  pub listed : Lists c (front ++ step_range_line 2 pivots passed)

-- No count of faults rose in the call.
pub record NothingFails (c : Call) : Type 0 where
  pub source : Rose c.input.source_faults c.input.source_faults_after → ⊥
  pub library : Rose c.input.fetch_faults c.input.fetch_faults_after → ⊥
  pub listing : Rose c.sink_faults c.sink_faults_after → ⊥

-- Source and library tell what they hold: the source is a text of a program that `check` takes, and the library has its
-- data sets, which stand for this problem and claim this certificate of it.
pub record Claims (i : Input) (problem : LinearProgram) (certificate : Cert) : Type 0 where
  pub words : IsCommand Check i.words
  pub text : List ℕ
  pub told : i.left ≡ Some text
  pub program : Program
  pub spelled : HasProgram Check text program
  pub names : SetNames
  pub stands : StandsForCheck program names
  pub library : Held
  pub tells : i.held ≡ Some library
  pub sets : Sets
  pub holds : AreHeld i.held names sets
  pub posed : IsProblemOf program sets problem
  pub claimed : IsCertificateOf sets.certdata problem certificate

-- Where nothing fails, a valid certificate is accepted, unless a number passes 128 bits or memory runs out.
abbrev pub AcceptsTheValid : Call → Status → Type 0
AcceptsTheValid c s = (problem : LinearProgram) (certificate : Cert) → NothingFails c → Claims c.input problem certificate → IsValid problem certificate
    → (s ≡ status.Finished) ⊎ (s ≡ status.RangePassed) ⊎ (s ≡ status.NoMemory)

-- Source and library tell what they hold: the source is a text of a program that `run` takes, and the library has its
-- data sets, which stand for this problem.
pub record IsAccepted (i : Input) (problem : LinearProgram) : Type 0 where
  pub words : IsCommand Run i.words
  pub text : List ℕ
  pub told : i.left ≡ Some text
  pub program : Program
  pub spelled : HasProgram Run text program
  pub names : SetNames
  pub stands : StandsForRun program names
  pub library : Held
  pub tells : i.held ≡ Some library
  pub sets : Sets
  pub holds : AreHeld i.held names sets
  pub posed : IsProblemOf program sets problem

-- If nothing fails, no store either, an accepted program is run to its end, unless memory runs out or, where it names CONDATA,
-- a number overflows 128 bits.
abbrev pub RunsTheAccepted : Call → Status → Type 0
RunsTheAccepted c s = (problem : LinearProgram) → NothingFails c → (Rose c.store_faults c.store_faults_after → ⊥) → (accepted : IsAccepted c.input problem)
    → (s ≡ status.Finished) ⊎ ((s ≡ status.RangePassed) × (is_some accepted.program.proc.condata ≡ true)) ⊎ (s ≡ status.NoMemory)

-- No program that the command takes has the text: it has a fault, that of too many bytes among them, or is a program that
-- the command does not take.
abbrev pub IsNotTaken : Command → List ℕ → Type 0
IsNotTaken d text = ((f : StmtFault) × HasFault d text f) ⊎ ((p : Program) × HasProgram d text p × (IsStanding d p → ⊥))

-- If nothing fails, such a text is refused as a program, under `check` and under `run`, unless memory runs out.
abbrev pub RefusesNoProgram : Call → Status → Type 0
RefusesNoProgram c s = (d : Command) (text : List ℕ) → NothingFails c → IsCommand d c.input.words → c.input.left ≡ Some text → IsNotTaken d text
    → (s ≡ status.ProgramRefused) ⊎ (s ≡ status.NoMemory)
