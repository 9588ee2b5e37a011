-- An operation that overflows in a run is of stage two: those that arise from a basis of stage one fit.
use Rattle.std.proofs.Common.{◌≡◌, inl, inr, ℕ, ap, ◌∙◌}
use Rattle.nf_frac.specs.declared.passed.Passed.{Passed}
use Rattle.nf_model.specs.Program.{LinearProgram}
use Rattle.nf_model.specs.Problem.{IsProblem}
use Rattle.nf_sums.specs.Terms.{PassesIn}
use Rattle.nf_simplex.specs.Layout.{layout_of}
use Rattle.nf_simplex.specs.StageOf.{HasStageTwo, StageOne, StageTwo}
use Rattle.nf_simplex.specs.Standing.{IsBasisOf, Standing}
use Rattle.nf_basis.specs.Arising.{StateTerms}
use Rattle.nf_program.specs.declared.program.SessionOptions.{SessionOptions}
use Rattle.nf_engine.specs.Point.{Point}
use Rattle.nf_run.specs.Runs.{PassesAtStart}
use Rattle.nf_run.specs.Setting.{setting_in, setting_of}
use Rattle.nf_run.specs.Turns.{PassesBetween, PassesInRun, PassesInStage, PassesInTwo, Spot, started}
use Rattle.nf_width.specs.Amounts.{HasAmounts}
use Rattle.nf_width.proofs.Fits.{stage_one_fits}
use Rattle.nf_no_range.specs.Law.{IsOfStageTwo, RangeIsOfStageTwo, RangeNeverInStageOne}
use Rattle.nf_no_range.proofs.Reached.{IsReached, comes_after, first_reached, listed_reached, over_one, runs_after, two_starts}

module _ (p : LinearProgram) (ok : IsProblem p) (has : HasAmounts p) where
  -- Nothing that arises from a basis of stage one overflows.
  none_in_one : (s : Standing) (passed : Passed) → s.stage ≡ StageOne → IsBasisOf p s → PassesIn (StateTerms p s) passed → ⊥
  none_in_one s passed one basis h = stage_one_fits p s ok has one basis h.row h.is_one passed.op passed.left passed.right h.arises h.passes

  -- At the start.
  none_at_start : (passed : Passed) → PassesAtStart p passed → ⊥
  none_at_start passed (s, first, h) = let r = first_reached p s ok first in none_in_one s passed r.0 r.1 h

  -- In stage one, and as stage two starts.
  none_in_stage : (o : SessionOptions) (a : Point) (pivots : ℕ) (passed : Passed) → a.standing.stage ≡ StageOne → IsBasisOf p a.standing → PassesInStage p (setting_of o a.standing) a pivots passed → ⊥
  none_in_stage o a pivots passed one basis h =
      let w = setting_of o a.standing in
      let after = comes_after p w.rule w.most w.pauses a h.at h.comes in
      none_in_one h.at.standing passed (after.same_stage ∙ one) (after.basis basis) h.passes

  none_between : (o : SessionOptions) (a : Point) (passed : Passed) → a.standing.stage ≡ StageOne → IsBasisOf p a.standing → PassesBetween p o a passed → ⊥
  none_between o a passed one basis (ends, h) =
      let w = setting_of o a.standing in
      let after = runs_after p w.rule w.most w.pauses a ends.at_end ends.halt ends.runs in
      none_in_one ends.at_end.standing passed (after.same_stage ∙ one) (after.basis basis) h

  -- In stage two.
  of_two : (o : SessionOptions) (a : Point) (stage pivots : ℕ) (passed : Passed) → stage ≡ 2 → (a.standing.stage ≡ StageTwo) × HasStageTwo (layout_of p) → PassesInStage p (setting_of o a.standing) a pivots passed → IsOfStageTwo p stage passed
  of_two o a stage pivots passed number two h = let w = setting_of o a.standing in record {
    number = number;
    exists = two.1;
    state = h.at.standing;
    in_two = (comes_after p w.rule w.most w.pauses a h.at h.comes).same_stage ∙ two.0;
    passes = h.passes;
  }

  in_two : (o : SessionOptions) (a : Point) (stage pivots : ℕ) (passed : Passed) → stage ≡ 2 → PassesInTwo p o a pivots passed → IsOfStageTwo p stage passed
  in_two o a stage pivots passed number h =
      of_two o (started h.start) stage pivots passed number (two_starts p o a h.ends h.ends.at_end.standing h.start h.starts) h.passes

  -- In a RUN.
  in_run : (o : SessionOptions) (a : Spot) (stage pivots : ℕ) (passed : Passed) → IsReached p a.point.standing → PassesInRun p o a stage pivots passed → IsOfStageTwo p stage passed
  in_run o a stage pivots passed (inl r) (inl h) = absurd (none_in_stage o a.point pivots passed r.0 r.1 h.1)
  in_run o a stage pivots passed (inr r) (inl h) = of_two o a.point stage pivots passed (h.0 ∙ ap (λ n. (setting_in o n).stage) r.0) r h.1
  in_run o a stage pivots passed (inl r) (inr (inl h)) = absurd (none_between o a.point passed r.0 r.1 h.2)
  in_run o a stage pivots passed (inr r) (inr (inl h)) = absurd (not_both (over_one p a.point.standing.stage h.2.0.halt h.2.0.over).0 r.0)
    where
      not_both : a.point.standing.stage ≡ StageOne → a.point.standing.stage ≡ StageTwo → ⊥
      not_both e f = cc
  in_run o a stage pivots passed r (inr (inr h)) = in_two o a.point stage pivots passed h.0 h.1

pub range_is_of_stage_two : RangeIsOfStageTwo
range_is_of_stage_two p o acts text stage pivots passed ok has (inl h) = absurd (none_at_start p ok has passed h.3)
range_is_of_stage_two p o acts text stage pivots passed ok has (inr (done, rest, b, are, lists, h)) =
    in_run p ok has o b stage pivots passed (listed_reached p o done b text ok lists) h

pub range_never_in_stage_one : RangeNeverInStageOne
range_never_in_stage_one p o acts text stage pivots passed ok has none h = none (range_is_of_stage_two p o acts text stage pivots passed ok has h).exists
