-- One RUN, in one stage or over the end of stage one: how a run of a stage ends, when stage two starts, and where it goes.
-- Each line of a listing is said to be that of such a RUN.
use Rattle.std.specs.Prelude.{◌≡◌, ◌⊎◌, ℕ, []}
use Rattle.nf_num.specs.Rational.{ℚ}
use Rattle.nf_model.specs.Program.{LinearProgram}
use Rattle.nf_sums.specs.Terms.{PassesIn}
use Rattle.nf_frac.specs.declared.passed.Passed.{Passed}
use Rattle.nf_simplex.specs.Layout.{layout_of}
use Rattle.nf_simplex.specs.StageOf.{StageNumber, StageOne, StageTwo, HasStageTwo}
use Rattle.nf_simplex.specs.Standing.{Standing, AreValuesOf}
use Rattle.nf_simplex.specs.Moves.{IsSecondState}
use Rattle.nf_basis.specs.Arising.{StateTerms}
use Rattle.nf_program.specs.declared.program.SessionOptions.{SessionOptions}
use Rattle.nf_price.specs.Queue.{pricing}
use Rattle.nf_engine.specs.declared.halt.Halt.{Halt}
use Rattle.nf_engine.specs.declared.halt.Halt.TheVariants.{Ended}
use Rattle.nf_engine.specs.declared.halt.Moved.TheVariants.{Best, NoBound}
use Rattle.nf_engine.specs.Point.{Point}
use Rattle.nf_engine.specs.Run.{PassesAt, RunsTo}
use Rattle.nf_run.specs.declared.line.HaltLine.{HaltLine}
use Rattle.nf_run.specs.declared.line.Counts.{Counts}
use Rattle.nf_run.specs.declared.setting.Setting.{Setting}
use Rattle.nf_run.specs.Setting.{setting_of}
use Rattle.nf_run.specs.Verdicts.{Tells}

-- ---- where a session stands
-- A point of a stage, and how many pivots the stage before it had: 0 in stage one.
pub record Spot : Type 0 where
  pub point : Point
  pub earlier : ℕ

-- What the program asks of the stage at a spot.
abbrev pub setting_at : SessionOptions → Spot → Setting
setting_at o a = setting_of o a.point.standing

-- The pivots of both stages, where the present one has had n, and the one before it so many.
abbrev pub counts_in : StageNumber → ℕ → ℕ → Counts
counts_in StageOne n earlier = record { one = n; two = 0 }
counts_in StageTwo n earlier = record { one = earlier; two = n }

-- The pivots of both stages at a spot.
abbrev pub counts_at : Spot → Counts
counts_at b = counts_in b.point.standing.stage b.point.pivots b.earlier

-- The point at which a stage starts from a state.
abbrev pub started : Standing → Point
started s = record { standing = s; pivots = 0; pricing = pricing 0 [] }

-- ---- in one stage
-- A run of a stage, of which the program asks w, from a to b, which this halt ends.
abbrev pub Runs : LinearProgram → Setting → Point → Halt → Point → Type 0
Runs p w a halt b = RunsTo p w.rule w.most w.pauses a halt b

-- A RUN leads from a to b in one stage, and this line tells the halt.
pub record GivesInStage (p : LinearProgram) (o : SessionOptions) (a : Spot) (line : HaltLine) (b : Spot) : Type 0 where
  pub halt : Halt
  pub runs : Runs p (setting_at o a) a.point halt b.point
  pub same : b.earlier ≡ a.earlier
  pub tells : Tells p (setting_at o a) b.point.standing halt line

-- ---- over the end of stage one
-- The stage has ended otherwise than infeasible, and stage two is to come.
abbrev pub IsOver : LinearProgram → StageNumber → Halt → Type 0
IsOver p StageOne (Ended Best) = HasStageTwo (layout_of p)
IsOver p StageOne (Ended (NoBound c)) = HasStageTwo (layout_of p)
IsOver p _ _ = ⊥

-- A run of stage one leads from a to its end, and stage two is to come.
pub record EndsStageOne (p : LinearProgram) (o : SessionOptions) (a : Point) : Type 0 where
  pub at_end : Point
  pub halt : Halt
  pub runs : Runs p (setting_of o a.standing) a halt at_end
  pub over : IsOver p a.standing.stage halt

-- t is the start of stage two after state s of stage one.
pub record StartsTwo (p : LinearProgram) (s t : Standing) : Type 0 where
  pub values : ℕ → ℚ
  pub are_values : AreValuesOf p s values
  pub second : IsSecondState p s values t

-- A RUN comes to the end of stage one, stage two starts with no pivot, no cursor and an empty queue, and the RUN goes on in it.
pub record GivesOverEnd (p : LinearProgram) (o : SessionOptions) (a : Spot) (line : HaltLine) (b : Spot) : Type 0 where
  pub ends : EndsStageOne p o a.point
  pub start : Standing
  pub starts : StartsTwo p ends.at_end.standing start
  pub goes_on : GivesInStage p o (record { point = started start; earlier = ends.at_end.pivots }) line b

-- A RUN leads from a to b, and this line tells the halt.
abbrev pub Gives : LinearProgram → SessionOptions → Spot → HaltLine → Spot → Type 0
Gives p o a line b = GivesInStage p o a line b ⊎ GivesOverEnd p o a line b

-- ---- operations that pass 128 bits
-- In a run of a stage from a: the operation arises from the state to which its steps lead with so many pivots.
abbrev pub PassesInStage : LinearProgram → Setting → Point → ℕ → Passed → Type 0
PassesInStage p w a pivots passed = PassesAt p w.rule w.most w.pauses a pivots passed

-- While stage two starts: the operation arises from the last state of stage one.
abbrev pub PassesBetween : LinearProgram → SessionOptions → Point → Passed → Type 0
PassesBetween p o a passed = (ends : EndsStageOne p o a) × PassesIn (StateTerms p ends.at_end.standing) passed

-- In stage two, behind the end of stage one.
pub record PassesInTwo (p : LinearProgram) (o : SessionOptions) (a : Point) (pivots : ℕ) (passed : Passed) : Type 0 where
  pub ends : EndsStageOne p o a
  pub start : Standing
  pub starts : StartsTwo p ends.at_end.standing start
  pub passes : PassesInStage p (setting_of o start) (started start) pivots passed

-- In a RUN from a, in the stage with this number and after so many pivots of it.
abbrev pub PassesInRun : LinearProgram → SessionOptions → Spot → ℕ → ℕ → Passed → Type 0
PassesInRun p o a stage pivots passed =
    ((stage ≡ (setting_at o a).stage) × PassesInStage p (setting_at o a) a.point pivots passed)
    ⊎ ((stage ≡ 2) × (pivots ≡ 0) × PassesBetween p o a.point passed)
    ⊎ ((stage ≡ 2) × PassesInTwo p o a.point pivots passed)
