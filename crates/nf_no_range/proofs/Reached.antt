-- The states to which a run comes: in stage one each is a basis, and in stage two the problem has it.
use Rattle.std.proofs.Common.{◌≡◌, ◌⊎◌, inl, inr, ℕ, List, [], ◌∷◌, refl, sym, ◌∙◌, subst}
use Rattle.nf_model.specs.Program.{LinearProgram}
use Rattle.nf_model.specs.Problem.{IsProblem}
use Rattle.nf_simplex.specs.Layout.{layout_of}
use Rattle.nf_simplex.specs.StageOf.{HasStageTwo, StageNumber, StageOne, StageTwo}
use Rattle.nf_simplex.specs.Standing.{IsBasisOf, Standing}
use Rattle.nf_program.specs.declared.program.SessionOptions.{SessionOptions}
use Rattle.nf_program.specs.declared.program.Statement.{Statement}
use Rattle.nf_program.specs.declared.program.Statement.TheVariants as act
use Rattle.nf_price.specs.declared.rule.Rule.{Rule}
use Rattle.nf_engine.specs.declared.halt.Halt.{Halt}
use Rattle.nf_engine.specs.declared.halt.Halt.TheVariants.{Ended, Feasible, Limit, Pause}
use Rattle.nf_engine.specs.declared.halt.Moved.TheVariants.{Best, Flipped, NoBound, NoFlow, Pivoted}
use Rattle.nf_engine.specs.declared.halt.Pauses.{Pauses}
use Rattle.nf_engine.specs.Point.{Point}
use Rattle.nf_engine.specs.Run.{Comes, GoesOn, Halts, RunsTo}
use Rattle.nf_run.specs.declared.line.HaltLine.{HaltLine}
use Rattle.nf_run.specs.Runs.{Event, Follows, Lists, opened}
use Rattle.nf_run.specs.Turns.{EndsStageOne, Gives, GivesInStage, IsOver, Spot, StartsTwo, setting_at, started}
use Rattle.nf_simplex.specs.Moves.{IsFirstState}
use Rattle.nf_simplex.proofs.Starting.{first_start}

-- ---- in one stage
-- A state has the stage of another one, and is a basis if that is one.
pub record IsAfter (p : LinearProgram) (s t : Standing) : Type 0 where
  pub same_stage : t.stage ≡ s.stage
  pub basis : IsBasisOf p s → IsBasisOf p t

goes_after : (p : LinearProgram) (rule : Rule) (most : ℕ) (pauses : Pauses) (a b : Point) → GoesOn p rule most pauses a b → IsAfter p a.standing b.standing
goes_after p rule most pauses a b GoesOn.here = record { same_stage = refl; basis = λ h. h }
goes_after p rule most pauses a b (GoesOn.further m n on to) =
    record { same_stage = to.step.moves.next.same_stage ∙ (goes_after p rule most pauses a m on).same_stage; basis = λ h. to.step.moves.feasible.feasible.basis }

pub comes_after : (p : LinearProgram) (rule : Rule) (most : ℕ) (pauses : Pauses) (a b : Point) → Comes p rule most pauses a b → IsAfter p a.standing b.standing
comes_after p rule most pauses a b (Comes.there n on) = goes_after p rule most pauses a b on
comes_after p rule most pauses a b (Comes.behind c m n on below step) =
    record { same_stage = step.moves.next.same_stage ∙ (goes_after p rule most pauses a m on).same_stage; basis = λ h. step.moves.feasible.feasible.basis }

halts_come : (p : LinearProgram) (rule : Rule) (most : ℕ) (pauses : Pauses) (a m b : Point) (halt : Halt) → GoesOn p rule most pauses a m → Halts p rule most pauses m halt b → Comes p rule most pauses a b
halts_come p rule most pauses a m b halt on (Halts.ended moved ended) = Comes.there b on
halts_come p rule most pauses a m b halt on (Halts.limit c n step full) = Comes.there b on
halts_come p rule most pauses a m b halt on (Halts.pause c n below step due) = Comes.behind c m b on below step
halts_come p rule most pauses a m b halt on (Halts.feasible c n below step none due) = Comes.behind c m b on below step

pub runs_after : (p : LinearProgram) (rule : Rule) (most : ℕ) (pauses : Pauses) (a b : Point) (halt : Halt) → RunsTo p rule most pauses a halt b → IsAfter p a.standing b.standing
runs_after p rule most pauses a b halt r = comes_after p rule most pauses a b (halts_come p rule most pauses a r.before b halt r.steps r.last)

-- ---- the end of stage one
pub over_one : (p : LinearProgram) (n : StageNumber) (halt : Halt) → IsOver p n halt → (n ≡ StageOne) × HasStageTwo (layout_of p)
over_one p StageOne (Ended Best) h = (refl, h)
over_one p StageOne (Ended (NoBound c)) h = (refl, h)
over_one p StageOne (Ended NoFlow) h = absurd h
over_one p StageOne (Ended (Pivoted entering leaving)) h = absurd h
over_one p StageOne (Ended (Flipped c)) h = absurd h
over_one p StageOne Limit h = absurd h
over_one p StageOne Pause h = absurd h
over_one p StageOne Feasible h = absurd h
over_one p StageTwo halt h = absurd h

-- ---- statements
-- A state is a basis of stage one, or of stage two, which the problem has.
abbrev pub IsReached : LinearProgram → Standing → Type 0
IsReached p s = ((s.stage ≡ StageOne) × IsBasisOf p s) ⊎ ((s.stage ≡ StageTwo) × HasStageTwo (layout_of p))

reached_after : (p : LinearProgram) (s t : Standing) → IsAfter p s t → IsReached p s → IsReached p t
reached_after p s t h (inl r) = inl (h.same_stage ∙ r.0, h.basis r.1)
reached_after p s t h (inr r) = inr (h.same_stage ∙ r.0, r.1)

reached_in : (p : LinearProgram) (o : SessionOptions) (a : Spot) (told : HaltLine) (b : Spot) → GivesInStage p o a told b → IsReached p a.point.standing → IsReached p b.point.standing
reached_in p o a told b g r =
    let w = setting_at o a in
    reached_after p a.point.standing b.point.standing (runs_after p w.rule w.most w.pauses a.point b.point g.halt g.runs) r

-- Stage two starts where the problem has it.
pub two_starts : (p : LinearProgram) (o : SessionOptions) (a : Point) → EndsStageOne p o a → (s t : Standing) → StartsTwo p s t → (t.stage ≡ StageTwo) × HasStageTwo (layout_of p)
two_starts p o a ends s t starts = (starts.second.stage, (over_one p a.standing.stage ends.halt ends.over).1)

reached_by : (p : LinearProgram) (o : SessionOptions) (a : Spot) (told : HaltLine) (b : Spot) → Gives p o a told b → IsReached p a.point.standing → IsReached p b.point.standing
reached_by p o a told b (inl g) r = reached_in p o a told b g r
reached_by p o a told b (inr g) r =
    reached_in p o (record { point = started g.start; earlier = g.ends.at_end.pivots }) told b g.goes_on (inr (two_starts p o a.point g.ends g.ends.at_end.standing g.start g.starts))

reached_all : (p : LinearProgram) (o : SessionOptions) (a : Spot) (acts : List Statement) (events : List Event) (b : Spot) → Follows p o a acts events b → IsReached p a.point.standing → IsReached p b.point.standing
reached_all p o a [] events b h r = subst (λ (x : Spot). IsReached p x.point.standing) (sym h.1) r
reached_all p o a (act.Run ∷ acts) [] b h r = absurd h
reached_all p o a (act.Run ∷ acts) (e ∷ events) b h r = reached_all p o e.after acts events b h.2 (reached_by p o a e.line e.after h.1 r)
reached_all p o a (act.Quit ∷ acts) events b h r = reached_all p o a acts events b h r
reached_all p o a (act.Reset l ∷ acts) events b h r = absurd h
reached_all p o a (act.Pivot ∷ acts) events b h r = absurd h
reached_all p o a (act.Print l ∷ acts) events b h r = absurd h
reached_all p o a (act.Show l ∷ acts) events b h r = absurd h
reached_all p o a (act.Save l ∷ acts) events b h r = absurd h

pub first_reached : (p : LinearProgram) (s : Standing) → IsProblem p → IsFirstState p s → (s.stage ≡ StageOne) × IsBasisOf p s
first_reached p s ok first = (first.stage, (first_start p s ok first).feasible.basis)

pub listed_reached : (p : LinearProgram) (o : SessionOptions) (acts : List Statement) (b : Spot) (text : List ℕ) → IsProblem p → Lists p o acts b text → IsReached p b.point.standing
listed_reached p o acts b text ok l = reached_all p o (opened l.start) acts l.events b l.follows (inl (first_reached p l.start ok l.first))
