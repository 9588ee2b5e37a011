-- Where an operation of a run may overflow, if the data are amounts and not too many: only in stage two.
-- `range_never_in_stage_one` promises it; that a run without constraints never ends by RANGE PASSED rests on it.
use Rattle.std.specs.Prelude.{◌≡◌, ℕ, List}
use Rattle.nf_frac.specs.declared.passed.Passed.{Passed}
use Rattle.nf_model.specs.Program.{LinearProgram}
use Rattle.nf_model.specs.Problem.{IsProblem}
use Rattle.nf_sums.specs.Terms.{PassesIn}
use Rattle.nf_simplex.specs.Layout.{layout_of}
use Rattle.nf_simplex.specs.StageOf.{HasStageTwo, StageTwo}
use Rattle.nf_simplex.specs.Standing.{Standing}
use Rattle.nf_basis.specs.Arising.{StateTerms}
use Rattle.nf_program.specs.declared.program.SessionOptions.{SessionOptions}
use Rattle.nf_program.specs.declared.program.Statement.{Statement}
use Rattle.nf_run.specs.Runs.{IsCut}
use Rattle.nf_width.specs.Amounts.{HasAmounts}

-- The printed stage is two, the problem has it, and the operation arises from a state of it.
pub record IsOfStageTwo (p : LinearProgram) (stage : ℕ) (passed : Passed) : Type 0 where
  pub number : stage ≡ 2
  pub exists : HasStageTwo (layout_of p)
  pub state : Standing
  pub in_two : state.stage ≡ StageTwo
  pub passes : PassesIn (StateTerms p state) passed

-- An operation that ends a run is of stage two.
abbrev pub RangeIsOfStageTwo : Type 0
RangeIsOfStageTwo =
    (p : LinearProgram) (o : SessionOptions) (acts : List Statement) (text : List ℕ) (stage pivots : ℕ) (passed : Passed)
    → IsProblem p → HasAmounts p → IsCut p o acts text stage pivots passed → IsOfStageTwo p stage passed

-- So none ends a run of a problem that has no stage two.
abbrev pub RangeNeverInStageOne : Type 0
RangeNeverInStageOne =
    (p : LinearProgram) (o : SessionOptions) (acts : List Statement) (text : List ℕ) (stage pivots : ℕ) (passed : Passed)
    → IsProblem p → HasAmounts p → (HasStageTwo (layout_of p) → ⊥) → IsCut p o acts text stage pivots passed → ⊥
