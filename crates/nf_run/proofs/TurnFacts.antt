-- What runs of the two stages make of a RUN.
use Rattle.std.proofs.Common.{◌≡◌, ◌∙◌, ℕ, inl, inr, Option, refl, sym, ap, subst, subst₂}
use Rattle.nf_model.specs.Program.{LinearProgram}
use Rattle.nf_simplex.specs.Layout.{layout_of}
use Rattle.nf_simplex.specs.StageOf.{HasStageTwo, StageNumber, StageOne, StageTwo}
use Rattle.nf_simplex.specs.Standing.{Standing}
use Rattle.nf_basis.specs.declared.start.StartFault.{StartFault}
use Rattle.nf_basis.specs.declared.start.StartFault.TheVariants as starting
use Rattle.nf_prob.specs.declared.cert.Cert.{Cert}
use Rattle.nf_program.specs.declared.program.SessionOptions.{SessionOptions}
use Rattle.nf_engine.specs.declared.halt.Halt.{Halt}
use Rattle.nf_engine.specs.declared.halt.Halt.TheVariants.{Ended, Feasible, Limit, Pause}
use Rattle.nf_engine.specs.declared.halt.Moved.TheVariants.{Best, Flipped, NoBound, NoFlow, Pivoted}
use Rattle.nf_engine.specs.Point.{Point}
use Rattle.nf_engine.specs.Run.{PassesAt}
use Rattle.nf_stage_two.specs.Starting.{IsSecondFaultOf}
use Rattle.nf_run.specs.declared.event.RunFault.{RunFault}
use Rattle.nf_run.specs.declared.event.RunFault.TheVariants as fault
use Rattle.nf_run.specs.declared.line.HaltLine.{HaltLine}
use Rattle.nf_run.specs.declared.setting.Setting.{Setting}
use Rattle.nf_run.specs.Runs.{SaysAt}
use Rattle.nf_run.specs.Setting.{setting_in}
use Rattle.nf_run.specs.Steps.{IsRunFault, IsStageFault, IsStartingFault, KeepsProof, Shows, starting_fault}
use Rattle.nf_run.specs.Turns.{EndsStageOne, Gives, GivesInStage, IsOver, Runs, Spot, StartsTwo, started}
use Rattle.nf_run.specs.Verdicts.{Says}
use Rattle.nf_run.proofs.RunFacts.{proof_of, runs_stage, says_of, tells_of}

-- What the program asks of the stage of a state.
setting_is : (o : SessionOptions) (n : StageNumber) (s : Standing) (w : Setting) → w ≡ setting_in o n → s.stage ≡ n → w ≡ setting_in o s.stage
setting_is o n s w is at = is ∙ ap (setting_in o) (sym at)

-- ---- in one stage
pub stage_gives : (p : LinearProgram) (o : SessionOptions) (n : StageNumber) (w : Setting) (earlier : ℕ) (a at b : Point) (halt : Halt) (told : HaltLine) (proof : Option Cert) → w ≡ setting_in o n → a.standing.stage ≡ n
    → Runs p w a halt at → Shows p w at.standing halt told proof → b ≡ at
    → GivesInStage p o (record { point = a; earlier = earlier }) told (record { point = b; earlier = earlier }) × KeepsProof p b.standing told proof × SaysAt p o (record { point = b; earlier = earlier }) told
stage_gives p o n w earlier a at b halt told proof is stage runs shows same =
    let there : b.standing.stage ≡ n = ap (λ (x : Point). x.standing.stage) same ∙ (runs_stage p w a at halt runs ∙ stage) in
    let ends : Runs p w a halt b = subst (λ x. Runs p w a halt x) (sym same) runs in
    let shown : Shows p w b.standing halt told proof = subst (λ (x : Point). Shows p w x.standing halt told proof) (sym same) shows in (
      record {
        halt = halt;
        runs = subst (λ v. Runs p v a halt b) (setting_is o n a.standing w is stage) ends;
        same = refl;
        tells = tells_of p (setting_in o a.standing.stage) b.standing halt told proof (subst (λ v. Shows p v b.standing halt told proof) (setting_is o n a.standing w is stage) shown);
      },
      proof_of p w b.standing halt told proof shown,
      subst (λ v. Says p v b told) (setting_is o n b.standing w is there) (says_of p w a b halt told proof ends shown),
    )

pub stage_fails : (p : LinearProgram) (o : SessionOptions) (n : StageNumber) (w : Setting) (earlier : ℕ) (a : Point) (f : RunFault) → w ≡ setting_in o n → a.standing.stage ≡ n → IsStageFault p w a f
    → IsRunFault p o (record { point = a; earlier = earlier }) f
stage_fails p o n w earlier a (fault.Range stage pivots passed) is at h = inl (subst (λ (v : Setting). (stage ≡ v.stage) × PassesAt p v.rule v.most v.pauses a pivots passed) (setting_is o n a.standing w is at) h)
stage_fails p o n w earlier a fault.Write is at h = absurd h
stage_fails p o n w earlier a fault.NoMemory is at h = tt

-- ---- the start of stage two
-- Stage one is over only if stage two is to come.
pub over_has_two : (p : LinearProgram) (halt : Halt) → IsOver p StageOne halt → HasStageTwo (layout_of p)
over_has_two p (Ended Best) h = h
over_has_two p (Ended (NoBound c)) h = h
over_has_two p (Ended NoFlow) h = absurd h
over_has_two p (Ended (Pivoted entering leaving)) h = absurd h
over_has_two p (Ended (Flipped c)) h = absurd h
over_has_two p Limit h = absurd h
over_has_two p Pause h = absurd h
over_has_two p Feasible h = absurd h

pub start_fails : (p : LinearProgram) (s : Standing) (f : StartFault) (g : RunFault) → IsSecondFaultOf p s f → g ≡ starting_fault f → IsStartingFault p s g
start_fails p s (starting.Passed passed) g h is = subst (IsStartingFault p s) (sym is) (refl, refl, h)
start_fails p s starting.NoMemory g h is = subst (IsStartingFault p s) (sym is) tt

-- ---- over the end of stage one
module _ (p : LinearProgram) (o : SessionOptions) (w : Setting) (a at : Point) (halt : Halt) (is : w ≡ setting_in o StageOne) (one : a.standing.stage ≡ StageOne) (runs : Runs p w a halt at) (over : IsOver p StageOne halt) where
  abbrev ends : EndsStageOne p o a
  ends = record {
    at_end = at;
    halt = halt;
    runs = subst (λ v. Runs p v a halt at) (setting_is o StageOne a.standing w is one) runs;
    over = subst (λ n. IsOver p n halt) (sym one) over;
  }

  pub over_gives : (start : Standing) (from : Point) (told : HaltLine) (b : Spot) → StartsTwo p at.standing start → from ≡ started start → GivesInStage p o (record { point = from; earlier = at.pivots }) told b
      → Gives p o (record { point = a; earlier = 0 }) told b
  over_gives start from told b starts new g =
      inr (record { ends = ends; start = start; starts = starts; goes_on = subst (λ x. GivesInStage p o (record { point = x; earlier = at.pivots }) told b) new g })

  pub between_fails : (f : RunFault) → IsStartingFault p at.standing f → IsRunFault p o (record { point = a; earlier = 0 }) f
  between_fails (fault.Range stage pivots passed) h = inr (inl (h.0, h.1, (ends, h.2)))
  between_fails fault.Write h = absurd h
  between_fails fault.NoMemory h = tt

  pub two_fails : (start : Standing) (from : Point) (f : RunFault) → start.stage ≡ StageTwo → StartsTwo p at.standing start → from ≡ started start → IsStageFault p (setting_in o StageTwo) from f
      → IsRunFault p o (record { point = a; earlier = 0 }) f
  two_fails start from (fault.Range stage pivots passed) two starts new h =
      inr (inr (
        h.0,
        record {
          ends = ends;
          start = start;
          starts = starts;
          passes = subst₂ (λ n x. PassesAt p (setting_in o n).rule (setting_in o n).most (setting_in o n).pauses x pivots passed) (sym two) new h.1;
        },
      ))
  two_fails start from fault.Write two starts new h = absurd h
  two_fails start from fault.NoMemory two starts new h = tt
