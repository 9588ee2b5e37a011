-- Runs from their turns.
use Rattle.std.proofs.Common.{◌≡◌, ℕ, List, ◌-◌, ◌<◌, ◌≤◌, Bool, true, false, Option, Some, None, refl, ◌∙◌, subst, arith}
use Rattle.nf_num.specs.Rational.{zero_ℚ, ◌<ℚ◌}
use Rattle.nf_num.proofs.Order.{lt_irrefl}
use Rattle.nf_model.specs.Program.{LinearProgram}
use Rattle.nf_sums.specs.Terms.{PassesIn}
use Rattle.nf_frac.specs.declared.passed.Passed.{Passed}
use Rattle.nf_simplex.specs.Changes.{exchanged, flipped}
use Rattle.nf_simplex.specs.Standing.{Standing, IsBasisOf, IsFeasibleState}
use Rattle.nf_simplex.proofs.Prices.{artificial_sum_any}
use Rattle.nf_basis.specs.declared.col.Col.{Col}
use Rattle.nf_basis.specs.Arising.{StateTerms}
use Rattle.nf_basis.specs.Names.{col_of, place_of}
use Rattle.nf_basis.specs.Numbers.{in_slot}
use Rattle.nf_price.specs.declared.rule.Rule.{Rule}
use Rattle.nf_price.specs.Choice.{TellsShort}
use Rattle.nf_engine.specs.declared.halt.Halt.{Halt}
use Rattle.nf_engine.specs.declared.halt.Halt.TheVariants.{Ended, Limit, Pause, Feasible}
use Rattle.nf_engine.specs.declared.halt.Pauses.{Pauses}
use Rattle.nf_engine.specs.Point.{Point}
use Rattle.nf_engine.specs.declared.turn.Change.{Change}
use Rattle.nf_engine.specs.declared.turn.Change.TheVariants.{Pivot, Flip}
use Rattle.nf_engine.specs.Steps.{IsChange, StepsBy}
use Rattle.nf_engine.proofs.StepFacts.{moves_to}
use Rattle.nf_engine.specs.Run.{IsShort, IsMet, IsFeasibleDue, GoesOnTo, GoesOn, Halts, Comes, PassesAt, IsTurnTo, IsHaltDue}
use Rattle.nf_engine.specs.Run.GoesOn.{here as on_here, further as on_further}
use Rattle.nf_engine.specs.Run.Halts.{limit as halts_limit, pause as halts_pause, feasible as halts_feasible}
use Rattle.nf_engine.specs.Run.Comes.{there, behind}

-- Artificials that sum to more than 0 are not met.
not_both : (p : LinearProgram) (s : Standing) → IsBasisOf p s → IsShort p s → IsMet p s → ⊥
not_both p s b (x, v, l) (y, w, e) = lt_irrefl zero_ℚ (subst (λ z. zero_ℚ <ℚ z) (artificial_sum_any p s b x y v w ∙ e) l)

module _ (p : LinearProgram) (rule : Rule) (most : ℕ) (pauses : Pauses) where
  -- A step, and the halt that is due behind it.
  pub stepped : (a b : Point) (c : Col) (short : Bool) (h : Option Halt) → IsBasisOf p a.standing → IsBasisOf p b.standing → a.pivots < most → StepsBy p rule a c b → TellsShort p a.standing short
      → IsHaltDue p pauses short b.pivots b.standing h → IsTurnTo p rule most pauses a h b
  stepped a b c short None ba bb below step told due = record {
    column = c;
    below = below;
    step = step;
    no_pause = due.0;
    not_feasible = λ f. of short told due.1 f;
  }
    where
      of : (short : Bool) → TellsShort p a.standing short → (pauses.feasible ≡ true → short ≡ true → TellsShort p b.standing true) → IsFeasibleDue p pauses a b → ⊥
      of true t d f = not_both p b.standing bb (d f.0 refl) f.2
      of false t d f = not_both p a.standing ba f.1 t
  stepped a b c short (Some Pause) ba bb below step told due = halts_pause c b below step due
  stepped a b c short (Some Feasible) ba bb below step told due = halts_feasible c b below step due.0 (due.1, subst (TellsShort p a.standing) due.2 told, due.3)
  stepped a b c short (Some Limit) ba bb below step told due = absurd due
  stepped a b c short (Some (Ended m)) ba bb below step told due = absurd due

  -- Behind the limit a step would be due.
  pub limit_due : (a : Point) → IsFeasibleState p a.standing → (slots : List Col) (change : Change) → IsChange p rule a.standing a.pricing slots change → most ≤ a.pivots → Halts p rule most pauses a Limit a
  limit_due a f slots (Pivot c slot to) due h =
      let t : Standing = exchanged p a.standing (col_of c) (col_of (in_slot slots slot)) (place_of to) in halts_limit c t (moves_to p rule a.standing f a.pricing c t due.0 due.1 due.2.next) h
  limit_due a f slots (Flip c) due h =
      let t : Standing = flipped p a.standing (col_of c) in halts_limit c t (moves_to p rule a.standing f a.pricing c t due.0 due.1 due.2.next) h

  joined : (a m b : Point) → GoesOn p rule most pauses a m → GoesOn p rule most pauses m b → GoesOn p rule most pauses a b
  joined a m b x on_here = x
  joined a m _ x (on_further k b y s) = on_further k b (joined a m k x y) s

  comes_later : (a m b : Point) → GoesOn p rule most pauses a m → Comes p rule most pauses m b → Comes p rule most pauses a b
  comes_later a m _ x (there b g) = there b (joined a m b x g)
  comes_later a m _ x (behind c k b g below s) = behind c k b (joined a m k x g) below s

  -- What passes in a turn behind others passes in the run.
  pub passes_later : (a m : Point) (n : ℕ) (e : Passed) → GoesOn p rule most pauses a m → PassesAt p rule most pauses m n e → PassesAt p rule most pauses a n e
  passes_later a m n e g x = record { at = x.at; comes = comes_later a m x.at g x.comes; count = x.count; passes = x.passes }

  -- A turn that makes a step brings the limit nearer.
  pub nearer : (a b : Point) → GoesOnTo p rule most pauses a b → most - b.pivots < most - a.pivots
  nearer a b x = let h = x.below in let e = x.step.counted in omega (arith, h, e)

  -- What passes in the state itself.
  pub passes_here : (a : Point) (n : ℕ) (e : Passed) → a.pivots ≡ n → PassesIn (StateTerms p a.standing) e → PassesAt p rule most pauses a n e
  passes_here a n e same h = record { at = a; comes = there a on_here; count = same; passes = h }
