-- What the functions below `run_program` answer: where a session stands, the lines of halts with their proof, and faults.
-- `run_program` rests on them.
use Rattle.std.specs.Prelude.{◌≡◌, ◌⊎◌, ℕ, List, Option, Some, None}
use Rattle.std.specs.Io.KnownBytes.{Appends}
use Rattle.nf_model.specs.Program.{LinearProgram}
use Rattle.nf_sums.specs.Terms.{PassesIn}
use Rattle.nf_io.specs.Causes.{Rose}
use Rattle.nf_io.specs.Progress.{PutPrefix}
use Rattle.nf_simplex.specs.StageOf.{StageNumber, StageOne, StageTwo}
use Rattle.nf_simplex.specs.Standing.{Standing, IsFeasibleState}
use Rattle.nf_basis.specs.declared.basis.RestoreFault.{RestoreFault}
use Rattle.nf_basis.specs.declared.basis.RestoreFault.TheVariants as restoring
use Rattle.nf_basis.specs.declared.dense.DenseBasis.{DenseBasis}
use Rattle.nf_basis.specs.declared.start.StartFault.{StartFault}
use Rattle.nf_basis.specs.declared.start.StartFault.TheVariants as starting
use Rattle.nf_basis.specs.Arising.{StateTerms}
use Rattle.nf_basis.specs.Dense.{HoldsNumbers}
use Rattle.nf_prob.specs.declared.cert.Cert.{Cert}
use Rattle.nf_program.specs.declared.program.SessionOptions.{SessionOptions}
use Rattle.nf_program.specs.declared.program.Statement.{Statement}
use Rattle.nf_program.specs.declared.program.Statement.TheVariants as act
use Rattle.nf_simplex.specs.Queue.{PricingState}
use Rattle.nf_price.specs.Queue.{pricing}
use Rattle.nf_engine.specs.declared.halt.Halt.{Halt}
use Rattle.nf_engine.specs.declared.halt.Halt.TheVariants.{Ended}
use Rattle.nf_engine.specs.Point.{Point}
use Rattle.nf_engine.specs.Steps.{HasEnded}
use Rattle.nf_certify.specs.declared.ended.Ended.{Ended as End}
use Rattle.nf_certify.specs.declared.ended.CertOfFault.{CertOfFault}
use Rattle.nf_certify.specs.declared.ended.CertOfFault.TheVariants as certificate
use Rattle.nf_run.specs.declared.event.RunFault.{RunFault}
use Rattle.nf_run.specs.declared.event.RunFault.TheVariants as fault
use Rattle.nf_run.specs.declared.line.HaltLine.{HaltLine}
use Rattle.nf_run.specs.declared.setting.Setting.{Setting}
use Rattle.nf_run.specs.declared.session.InStage.{InStage}
use Rattle.nf_run.specs.declared.session.InStage.TheVariants as in_stage
use Rattle.nf_run.specs.declared.session.Session.{Session}
use Rattle.nf_run.specs.declared.session.StagePoint.{StagePoint}
use Rattle.nf_run.specs.Endings.{HasProof}
use Rattle.nf_run.specs.Runs.{Lists, PassesAtStart, SaysAt, event_lines}
use Rattle.nf_run.specs.Turns.{Gives, PassesInRun, PassesInStage, Spot}
use Rattle.nf_run.specs.Verdicts.{IsVerdict, MeansEnd, Tells, TellsVerdict}

-- ---- where a session stands
-- The point of a stage, where its basis stands for a state so.
abbrev pub point_at : {B : Type 0} → (B → Standing) → StagePoint B → Point
point_at standing s = record { standing = standing s.basis; pivots = s.pivots; pricing = pricing s.cursor s.queue }

-- The spot of a point of stage one, and that of a point of stage two with the pivots of stage one.
abbrev pub spot_one : {B : Type 0} → (B → Standing) → StagePoint B → Spot
spot_one standing s = record { point = point_at standing s; earlier = 0 }

abbrev pub spot_two : StagePoint DenseBasis → ℕ → Spot
spot_two s earlier = record { point = point_at (λ b. b.state.standing) s; earlier = earlier }

-- The spot at which a session stands.
abbrev pub spot_at : {B : Type 0} → (B → Standing) → InStage B → Spot
spot_at standing (in_stage.One s) = spot_one standing s
spot_at standing (in_stage.Two s earlier) = spot_two s earlier

-- A basis has its numbers, and stands for a lexicographically feasible state of a stage.
pub record IsReadyIn {B : Type 0} (p : LinearProgram) (HasNumbers : LinearProgram → B → Type 0) (standing : B → Standing) (n : StageNumber) (b : B) : Type 0 where
  pub numbers : HasNumbers p b
  pub feasible : IsFeasibleState p (standing b)
  pub stage : (standing b).stage ≡ n

-- The basis of a session is ready, in its stage.
abbrev pub IsReady : {B : Type 0} → LinearProgram → (LinearProgram → B → Type 0) → (B → Standing) → InStage B → Type 0
IsReady p HasNumbers standing (in_stage.One s) = IsReadyIn p HasNumbers standing StageOne s.basis
IsReady p HasNumbers standing (in_stage.Two s earlier) = IsReadyIn p HoldsNumbers (λ b. b.state.standing) StageTwo s.basis

-- A session: the spot at which it stands, and the certificate of the last halt, where this was a verdict.
pub record At : Type 0 where
  pub spot : Spot
  pub proof : Option Cert

abbrev pub session_at : {B : Type 0} → (B → Standing) → Session B → At
session_at standing s = record { spot = spot_at standing s.stage; proof = s.proof }

-- The opening fails for want of memory, or where an operation passes before any pivot.
abbrev pub IsOpeningFault : LinearProgram → RunFault → Type 0
IsOpeningFault p (fault.Range stage pivots passed) = (stage ≡ 1) × (pivots ≡ 0) × PassesAtStart p passed
IsOpeningFault p fault.Write = ⊥
IsOpeningFault p fault.NoMemory = Unit {0}

-- The fault of the opening where the first state gives no basis.
abbrev pub opening_fault : RestoreFault → RunFault
opening_fault (restoring.Dependent column weights) = fault.NoMemory
opening_fault (restoring.Passed passed) = fault.Range 1 0 passed
opening_fault restoring.NoMemory = fault.NoMemory

-- The fault of a RUN whose certificate is not told, in the stage with this number and at so many pivots.
abbrev pub number_fault : ℕ → ℕ → CertOfFault → RunFault
number_fault stage pivots (certificate.Passed passed) = fault.Range stage pivots passed
number_fault stage pivots certificate.NoMemory = fault.NoMemory

-- The fault of a RUN where stage two does not start.
abbrev pub starting_fault : StartFault → RunFault
starting_fault (starting.Passed passed) = fault.Range 2 0 passed
starting_fault starting.NoMemory = fault.NoMemory

-- A state at which an end is told has ended so, by the rule of its stage, with some cursor and queue.
abbrev pub IsHaltIn : LinearProgram → Setting → Standing → Halt → Type 0
IsHaltIn p w s (Ended m) = (at : PricingState) × HasEnded p w.rule s at m
IsHaltIn p w s _ = Unit {0}

-- The line tells a halt at a state, and a verdict with its proof.
abbrev pub Shows : LinearProgram → Setting → Standing → Halt → HaltLine → Option Cert → Type 0
Shows p w s (Ended m) told (Some c) = (how : End) × MeansEnd m how × IsVerdict p s how c told
Shows p w s (Ended m) told None = ⊥
Shows p w s halt told None = Tells p w s halt told
Shows p w s halt told (Some c) = ⊥

-- The certificate proves the verdict of a state that the line tells; where there is none, the line tells no verdict.
abbrev pub KeepsProof : LinearProgram → Standing → HaltLine → Option Cert → Type 0
KeepsProof p s told (Some c) = (how : End) × IsVerdict p s how c told
KeepsProof p s told None = TellsVerdict told → ⊥

-- A run of a stage from a fails for want of memory, or where an operation passes at so many pivots.
abbrev pub IsStageFault : LinearProgram → Setting → Point → RunFault → Type 0
IsStageFault p w a (fault.Range stage pivots passed) = (stage ≡ w.stage) × PassesInStage p w a pivots passed
IsStageFault p w a fault.Write = ⊥
IsStageFault p w a fault.NoMemory = Unit {0}

-- A halt at b is not told for want of memory, or where an operation passes that arises from its state.
abbrev pub IsTellingFault : LinearProgram → Setting → Point → RunFault → Type 0
IsTellingFault p w b (fault.Range stage pivots passed) = (stage ≡ w.stage) × (pivots ≡ b.pivots) × PassesIn (StateTerms p b.standing) passed
IsTellingFault p w b fault.Write = ⊥
IsTellingFault p w b fault.NoMemory = Unit {0}

-- Stage two does not start after state s, for want of memory, or where an operation passes that arises from s.
abbrev pub IsStartingFault : LinearProgram → Standing → RunFault → Type 0
IsStartingFault p s (fault.Range stage pivots passed) = (stage ≡ 2) × (pivots ≡ 0) × PassesIn (StateTerms p s) passed
IsStartingFault p s fault.Write = ⊥
IsStartingFault p s fault.NoMemory = Unit {0}

-- A RUN from a fails for want of memory, or where an operation passes.
abbrev pub IsRunFault : LinearProgram → SessionOptions → Spot → RunFault → Type 0
IsRunFault p o a (fault.Range stage pivots passed) = PassesInRun p o a stage pivots passed
IsRunFault p o a fault.Write = ⊥
IsRunFault p o a fault.NoMemory = Unit {0}

-- A statement leads from a to b, and its lines, which are what they say, were written.
abbrev pub Obeys : LinearProgram → SessionOptions → Statement → At → At → Option (List ℕ) → Option (List ℕ) → Type 0
Obeys p o act.Run a b old new = (line : HaltLine) × Gives p o a.spot line b.spot × SaysAt p o b.spot line × KeepsProof p b.spot.point.standing line b.proof × Appends old new (event_lines line b.spot)
Obeys p o _ a b old new = (b ≡ a) × (new ≡ old)

-- A first part of the lines of a RUN was written, or nothing.
abbrev pub WritesPart : LinearProgram → SessionOptions → Spot → Option (List ℕ) → Option (List ℕ) → Type 0
WritesPart p o a old new = (line : HaltLine) × (b : Spot) × Gives p o a line b × SaysAt p o b line × PutPrefix old new (event_lines line b)

-- A statement fails: in its RUN, or while its lines are written.
abbrev pub IsObeyFault : LinearProgram → SessionOptions → Statement → Spot → Option (List ℕ) → Option (List ℕ) → ℕ → ℕ → RunFault → Type 0
IsObeyFault p o act.Run a old new before after (fault.Range stage pivots passed) = PassesInRun p o a stage pivots passed × (new ≡ old)
IsObeyFault p o act.Run a old new before after fault.Write = Rose before after × WritesPart p o a old new
IsObeyFault p o act.Run a old new before after fault.NoMemory = (new ≡ old) ⊎ WritesPart p o a old new
IsObeyFault p o _ a old new before after fault = ⊥

-- The listing of statements that lead to b was written, and b has the proof of its last verdict.
abbrev pub HasListed : LinearProgram → SessionOptions → List Statement → At → Option (List ℕ) → Option (List ℕ) → Type 0
HasListed p o acts b old new = (text : List ℕ) × (lists : Lists p o acts b.spot text) × HasProof p lists.events b.proof × Appends old new text
