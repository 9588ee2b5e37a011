-- A turn by the ratio test's answer, and the step that a change makes.
use Rattle.std.proofs.Common.{◌≡◌, ℕ, suc, ◌+◌, ◌*◌, ◌<◌, ◌≤◌, Bool, true, false, List, sym, ap, ◌∙◌, subst, subst₂, arith}
use Rattle.nf_num.specs.Rational.{ℚ}
use Rattle.nf_model.specs.Program.{LinearProgram}
use Rattle.nf_model.specs.Program.{at as number_at}
use Rattle.nf_simplex.specs.Place as model
use Rattle.nf_simplex.specs.Columns.{Slack}
use Rattle.nf_simplex.specs.Layout.{Layout}
use Rattle.nf_simplex.specs.StageOf.{StageNumber, StageOne, StageTwo, IsPresent as InStage}
use Rattle.nf_simplex.specs.Changes.{exchanged, flipped}
use Rattle.nf_simplex.specs.Moves.{Prices, IsNextOf, WouldLower, HasNoNext}
use Rattle.nf_simplex.specs.Queue.{PricingState}
use Rattle.nf_simplex.specs.Standing.{Standing, PhaseOne, PhaseTwo, AreDualsOf, IsFeasibleState}
use Rattle.nf_simplex.proofs.Prices.{eligible_any}
use Rattle.nf_simplex.proofs.Standings.{steps_lower}
use Rattle.nf_basis.specs.declared.col.Col.{Col}
use Rattle.nf_basis.specs.declared.col.Place.{Place}
use Rattle.nf_basis.specs.Names.{col_of, place_of}
use Rattle.nf_basis.specs.Kept.{IsBoundOf, IsNonbasic, IsPresent, number, place_in}
use Rattle.nf_basis.specs.Numbers.{IsSound, in_slot}
use Rattle.nf_price.specs.declared.rule.Rule.{Rule}
use Rattle.nf_price.specs.Queue.{pricing}
use Rattle.nf_price.specs.Choice.{TellsShort}
use Rattle.nf_ratio.specs.declared.answer.Limit.{Limit}
use Rattle.nf_ratio.specs.declared.answer.Limit.TheVariants.{Leave, Ray}
use Rattle.nf_ratio.specs.declared.answer.Limit.TheVariants as limit
use Rattle.nf_ratio.specs.Answer.{IsLimitOf}
use Rattle.nf_engine.specs.declared.halt.Moved.{Moved}
use Rattle.nf_engine.specs.declared.halt.Moved.TheVariants.{Pivoted, Flipped, Best, NoFlow, NoBound}
use Rattle.nf_engine.specs.declared.turn.Turn.{Turn}
use Rattle.nf_engine.specs.declared.turn.Turn.TheVariants.{Changes, Ended}
use Rattle.nf_engine.specs.declared.turn.Change.{Change}
use Rattle.nf_engine.specs.declared.turn.Change.TheVariants.{Pivot, Flip}
use Rattle.nf_engine.specs.Point.{Point}
use Rattle.nf_engine.specs.Steps.{Picks, LeavesQueue, MovesTo, StepsBy, HasNoBoundAt, IsEntering, IsChange, IsLimited, IsTurn, IsMade, IsStep, HasEnded, IsDue, IsLeft, limited_by}

module _ (p : LinearProgram) (s : Standing) (f : IsFeasibleState p s) (rule : Rule) (at : PricingState) (c : Col) (down : Bool) where
  -- A picked column without a next state: the state has ended unbounded.
  no_bound : IsPresent p s c → Picks p rule s at c → WouldLower p s (col_of c) down → HasNoNext p s (col_of c) down → HasNoBoundAt p rule s at c
  no_bound here picked w none = (
    here,
    picked,
    (
      down,
      (
        w.prices,
        record {
          eligible = eligible_any p s f.feasible.basis picked.0 w.prices (number p c) picked.1.eligible;
          enters = w.enters;
          improves = w.improves;
          stuck = none;
        },
      ),
    ),
  )

  -- The turn that the ratio test gives for the picked column is due.
  pub turn_due : (slots : List Col) (turn : Turn) → IsNonbasic p s c → Picks p rule s at c → WouldLower p s (col_of c) down → IsLimited p s slots c down turn → IsTurn p rule s at slots turn
  turn_due slots turn there picked w (l, answer, is) = subst (IsTurn p rule s at slots) (sym is) (of l answer)
    where
      of : (l : Limit) → IsLimitOf p s slots c down l → IsTurn p rule s at slots (limited_by c l)
      of (Leave slot to) a = (down, record { nonbasic = there; picked = picked; lowers = w }, a)
      of limit.Flip a = (down, record { nonbasic = there; picked = picked; lowers = w }, a)
      of Ray a = no_bound there.0 picked w a

-- A change leads to a next state.
pub moves_to : (p : LinearProgram) (rule : Rule) (s : Standing) → IsFeasibleState p s → (at : PricingState) (c : Col) (t : Standing) (down : Bool) → IsEntering p rule s at c down → IsNextOf p s (col_of c) down t → MovesTo p rule s at c t
moves_to p rule s f at c t down e next = let l = steps_lower p s t (col_of c) down f e.lowers next in record {
  present = e.nonbasic.0;
  picked = e.picked;
  down = down;
  lowers = e.lowers;
  next = next;
  feasible = l.0;
  lower = l.1;
}

module _ (p : LinearProgram) (rule : Rule) (a : Point) (f : IsFeasibleState p a.standing) (c : Col) (b : Point) (counted : b.pivots ≡ suc a.pivots) (noted : b.pricing.cursor ≡ suc (number p c)) (queued : LeavesQueue p rule a.standing a.pricing b.pricing.queue) where
  -- The step to a next state.
  pub step_to : (down : Bool) → IsEntering p rule a.standing a.pricing c down → IsNextOf p a.standing (col_of c) down b.standing → StepsBy p rule a c b
  step_to down e next = record {
    moves = moves_to p rule a.standing f a.pricing c b.standing down e next;
    counted = counted;
    noted = noted;
    queued = queued;
  }

  -- A pivot makes it,
  pub pivot_made : (slots : List Col) (x : ℕ → ℚ) → IsSound p a.standing slots x → (slot : ℕ) (to : Place) (leaving : Col) → IsChange p rule a.standing a.pricing slots (Pivot c slot to)
      → leaving ≡ in_slot slots slot → b.standing ≡ exchanged p a.standing (col_of c) (col_of (in_slot slots slot)) (place_of to) → IsMade p rule a (Pivoted c leaving) b
  pivot_made slots x sound slot to leaving (down, e, leaves) same becomes = (
    c,
    step,
    (
      step,
      record {
        present = subst (IsPresent p a.standing) (sym same) (sound.listed.present slot leaves.within);
        basic = subst (λ l. place_in p a.standing l ≡ model.Basic) (sym same) (sound.listed.basic slot leaves.within);
        to = place_of to;
        bound = subst (λ l. IsBoundOf p l (place_of to)) (sym same) leaves.bound;
        becomes = becomes ∙ ap (λ l. exchanged p a.standing (col_of c) (col_of l) (place_of to)) (sym same);
      },
    ),
  )
    where
      step : StepsBy p rule a c b
      step = step_to down e (subst (IsNextOf p a.standing (col_of c) down) (sym becomes) leaves.next)

  -- and so does a flip.
  pub flip_made : (slots : List Col) → IsChange p rule a.standing a.pricing slots (Flip c) → b.standing ≡ flipped p a.standing (col_of c) → IsMade p rule a (Flipped c) b
  flip_made slots (down, e, flips) becomes = let step : StepsBy p rule a c b = step_to down e (subst (IsNextOf p a.standing (col_of c) down) (sym becomes) flips.next) in (c, step, (step, becomes))

-- Points with the same parts.
abbrev pub at_point : Standing → ℕ → PricingState → Point
at_point s n k = record { standing = s; pivots = n; pricing = k }

pub point_same : (s t : Standing) (n m : ℕ) (k l : PricingState) → s ≡ t → n ≡ m → k ≡ l → at_point s n k ≡ at_point t m l
point_same s t n m k l a b c = λ i. record { standing = a i; pivots = b i; pricing = c i }

-- Cursors and queues with the same parts.
pub pricing_same : (j k : ℕ) (xs ys : List ℕ) → j ≡ k → xs ≡ ys → pricing j xs ≡ pricing k ys
pricing_same j k xs ys a b = λ i. record { cursor = a i; queue = b i }

-- A change that is due by one basis is due by another one with its state and slots.
pub change_same : (p : LinearProgram) (rule : Rule) (s t : Standing) (k : PricingState) (slots other : List Col) (turn : Turn) (change : Change) → t ≡ s → other ≡ slots → turn ≡ Changes change → IsTurn p rule s k slots turn → IsChange p rule t k other change
change_same p rule s t k slots other turn change a b is h = subst₂ (λ t l. IsChange p rule t k l change) (sym a) (sym b) (subst (IsTurn p rule s k slots) is h)

-- What has ended by what is due.
pub ended_same : (p : LinearProgram) (rule : Rule) (s : Standing) (k : PricingState) (slots : List Col) (turn : Turn) (m : Moved) → turn ≡ Ended m → IsTurn p rule s k slots turn → HasEnded p rule s k m
ended_same p rule s k slots turn m is h = subst (IsTurn p rule s k slots) is h

-- What a look leaves of the queue, by what it finds.
pub left_ended : (p : LinearProgram) (rule : Rule) (s : Standing) (at : PricingState) (moves : Bool) (turn : Turn) (m : Moved) (queue : List ℕ) → turn ≡ Ended m → IsLeft p rule s at moves turn queue → queue ≡ at.queue
left_ended p rule s at true turn m queue is h = subst (λ t. IsLeft p rule s at true t queue) is h
left_ended p rule s at false turn m queue is h = h

pub left_stays : (p : LinearProgram) (rule : Rule) (s : Standing) (at : PricingState) (moves : Bool) (turn : Turn) (queue : List ℕ) → moves ≡ false → IsLeft p rule s at moves turn queue → queue ≡ at.queue
left_stays p rule s at true turn queue e h = absurd (let z : true ≡ false = e in cc)
left_stays p rule s at false turn queue e h = h

pub left_next : (p : LinearProgram) (rule : Rule) (s : Standing) (at : PricingState) (moves : Bool) (turn : Turn) (change : Change) (queue : List ℕ) → moves ≡ true → turn ≡ Changes change → IsLeft p rule s at moves turn queue → LeavesQueue p rule s at queue
left_next p rule s at true turn change queue e is h = subst (λ t. IsLeft p rule s at true t queue) is h
left_next p rule s at false turn change queue e is h = absurd (let z : false ≡ true = e in cc)

-- A change that is due, and is made, by one basis is due by another one with its state and slots.
pub due_same : (p : LinearProgram) (rule : Rule) (s t : Standing) (k : PricingState) (slots other : List Col) (turn : Turn) (change : Change) (moves : Bool) (now : PricingState) → t ≡ s → other ≡ slots → turn ≡ Changes change → moves ≡ true
    → IsTurn p rule s k slots turn → IsLeft p rule s k moves turn now.queue → IsDue p rule t k other change now
due_same p rule s t k slots other turn change moves now a b is e h l = record {
  due = change_same p rule s t k slots other turn change a b is h;
  queued = subst (λ z. LeavesQueue p rule z k now.queue) (sym a) (left_next p rule s k moves turn change now.queue e is l);
}

-- A state that has ended so stays.
pub ended_step : (p : LinearProgram) (rule : Rule) (a b : Point) (m : Moved) → HasEnded p rule a.standing a.pricing m → b ≡ a → IsStep p rule a m b
ended_step p rule a b (Pivoted e l) h same = absurd h
ended_step p rule a b (Flipped c) h same = absurd h
ended_step p rule a b Best h same = (h, same)
ended_step p rule a b NoFlow h same = (h, same)
ended_step p rule a b (NoBound c) h same = (h, same)

-- ---- numbers
-- A slack of a stage is that of a side row.
pub slack_there : (p : Layout) (n : StageNumber) (r : ℕ) → InStage p n (Slack r) → (p.nodes ≤ r) × (r < p.nodes + p.sides)
slack_there p StageOne r h = absurd h
slack_there p StageTwo r h = (h.0, h.1)

-- ---- steps
-- What a look may cost: two lists of duals, the artificials, the choice, the ratio test, and the next queue.
pub look_cost : (a d e i k b t u w r : ℕ) → r < w → d ≤ a + u → e ≤ d + u → i ≤ e + r → k ≤ i + 16 * w → b ≤ k + (1 + t) * (u + 4 * w) → b ≤ a + (4 * (1 + t) * u + 48 * (1 + t) * w)
look_cost a d e i k b t u w r small h1 h2 h3 h4 h5 = omega (arith, small, h1, h2, h3, h4, h5)

pub queue_cost : (a d e i k b q t u w r : ℕ) → r < w → d ≤ a + u → e ≤ d + u → i ≤ e + r → k ≤ i + 16 * w → b ≤ k + (1 + t) * (u + 4 * w) → q ≤ b + 16 * w → q ≤ a + (4 * (1 + t) * u + 48 * (1 + t) * w)
queue_cost a d e i k b q t u w r small h1 h2 h3 h4 h5 h6 = omega (arith, small, h1, h2, h3, h4, h5, h6)

pub step_cost : (a b c t u w : ℕ) → b ≤ a + (4 * (1 + t) * u + 48 * (1 + t) * w) → c ≤ b + 4 * u → c ≤ a + 8 * (1 + t) * (u + 6 * w)
step_cost a b c t u w h k = omega (arith, h, k)

pub no_more : (b u : ℕ) → b ≤ b + u
no_more b u = omega arith

-- ---- prices
-- The numbers by which columns are priced, as a look has them.
pub prices_of : (p : LinearProgram) (s : Standing) (y1 y2 : List ℚ) (short : Bool) → AreDualsOf p s PhaseOne (number_at y1) → AreDualsOf p s PhaseTwo (number_at y2) → TellsShort p s short → Prices p s
prices_of p s y1 y2 short d1 d2 told = record { values = told.0; one = number_at y1; two = number_at y2; are_values = told.1; are_duals_one = d1; are_duals_two = d2 }
