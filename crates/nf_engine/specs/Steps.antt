-- One step of the simplex method between two points, and the ends at which there is none.
-- `Engine::step` promises it, and every run is made of such steps.
use Rattle.std.specs.Prelude.{◌≡◌, ℕ, suc, Bool, true, false, List}
use Rattle.nf_model.specs.Program.{LinearProgram}
use Rattle.nf_simplex.specs.Changes.{exchanged, flipped}
use Rattle.nf_simplex.specs.Place as model
use Rattle.nf_simplex.specs.Queue.{PricingState}
use Rattle.nf_simplex.specs.Standing.{Standing, IsFeasibleState}
use Rattle.nf_simplex.specs.Moves.{IsPickedIn, IsNextQueueIn, IsLowerThan, IsNextOf, WouldLower, HasEndedInfeasibleIn, HasEndedOptimalIn, HasEndedUnboundedIn}
use Rattle.nf_basis.specs.declared.col.Col.{Col}
use Rattle.nf_basis.specs.Names.{col_of, place_of}
use Rattle.nf_basis.specs.Kept.{IsBoundOf, IsNonbasic, IsPresent, number, place_in}
use Rattle.nf_price.specs.declared.rule.Rule.{Rule}
use Rattle.nf_price.specs.Rules.{rule_of}
use Rattle.nf_ratio.specs.declared.answer.Limit.{Limit}
use Rattle.nf_ratio.specs.declared.answer.Limit.TheVariants.{Leave, Ray}
use Rattle.nf_ratio.specs.declared.answer.Limit.TheVariants as limit
use Rattle.nf_ratio.specs.Answer.{Flips, IsLimitOf, LeavesAt}
use Rattle.nf_ratio.specs.Ratios.{StandsAloneAfter}
use Rattle.nf_engine.specs.declared.halt.Moved.{Moved}
use Rattle.nf_engine.specs.declared.halt.Moved.TheVariants.{Pivoted, Flipped, Best, NoFlow, NoBound}
use Rattle.nf_engine.specs.declared.turn.Turn.{Turn}
use Rattle.nf_engine.specs.declared.turn.Turn.TheVariants.{Changes, Ended}
use Rattle.nf_engine.specs.declared.turn.Change.{Change}
use Rattle.nf_engine.specs.declared.turn.Change.TheVariants.{Pivot, Flip}
use Rattle.nf_engine.specs.Point.{Point}

-- The rule picks column c in a state, with this cursor and queue.
abbrev pub Picks : LinearProgram → Rule → Standing → PricingState → Col → Type 0
Picks p rule s at c = IsPickedIn p s (rule_of rule) at (col_of c)

-- A step by the rule from the state leaves this queue.
abbrev pub LeavesQueue : LinearProgram → Rule → Standing → PricingState → List ℕ → Type 0
LeavesQueue p rule s at next = IsNextQueueIn p s (rule_of rule) at next

-- After t inverse columns the least ratio of the column that the rule picks stands alone, in the direction that lowers
-- the costs.
abbrev pub IsTestedBy : LinearProgram → Rule → Standing → PricingState → ℕ → Type 0
IsTestedBy p rule s at t = (c : Col) (down : Bool) → Picks p rule s at c → WouldLower p s (col_of c) down → StandsAloneAfter p s (col_of c) down t

-- A step from a state leads to another one: the rule picks column c, which moves in the direction that lowers the
-- costs, and t is the next state, in which the objective vector is less.
pub record MovesTo (p : LinearProgram) (rule : Rule) (s : Standing) (at : PricingState) (c : Col) (t : Standing) : Type 0 where
  pub present : IsPresent p s c
  pub picked : Picks p rule s at c
  pub down : Bool
  pub lowers : WouldLower p s (col_of c) down
  pub next : IsNextOf p s (col_of c) down t
  pub feasible : IsFeasibleState p t
  pub lower : IsLowerThan p t s

-- The step from a to b: the state moves, the pivots rise by one, the cursor is the number of the column that was
-- picked, and the queue is the next one.
pub record StepsBy (p : LinearProgram) (rule : Rule) (a : Point) (c : Col) (b : Point) : Type 0 where
  pub moves : MovesTo p rule a.standing a.pricing c b.standing
  pub counted : b.pivots ≡ suc a.pivots
  pub noted : b.pricing.cursor ≡ suc (number p c)
  pub queued : LeavesQueue p rule a.standing a.pricing b.pricing.queue

-- The column that leaves is basic, and goes to a bound that it has.
pub record Leaves (p : LinearProgram) (s : Standing) (entering leaving : Col) (t : Standing) : Type 0 where
  pub present : IsPresent p s leaving
  pub basic : place_in p s leaving ≡ model.Basic
  pub to : model.Place
  pub bound : IsBoundOf p leaving to
  pub becomes : t ≡ exchanged p s (col_of entering) (col_of leaving) to

-- The state has ended unbounded at column c, which the rule picks, in the direction that would lower the costs.
abbrev pub HasNoBoundAt : LinearProgram → Rule → Standing → PricingState → Col → Type 0
HasNoBoundAt p rule s at c = IsPresent p s c × Picks p rule s at c × ((down : Bool) × HasEndedUnboundedIn p s (col_of c) down)

-- The state has ended so.
abbrev pub HasEnded : LinearProgram → Rule → Standing → PricingState → Moved → Type 0
HasEnded p rule s at (Pivoted entering leaving) = ⊥
HasEnded p rule s at (Flipped c) = ⊥
HasEnded p rule s at Best = HasEndedOptimalIn p s
HasEnded p rule s at NoFlow = HasEndedInfeasibleIn p s
HasEnded p rule s at (NoBound c) = HasNoBoundAt p rule s at c

-- What a step that did this leads to from a: it moved to b, or a has ended so and nothing changed.
abbrev pub IsStep : LinearProgram → Rule → Point → Moved → Point → Type 0
IsStep p rule a (Pivoted entering leaving) b = StepsBy p rule a entering b × Leaves p a.standing entering leaving b.standing
IsStep p rule a (Flipped c) b = StepsBy p rule a c b × (b.standing ≡ flipped p a.standing (col_of c))
IsStep p rule a Best b = HasEndedOptimalIn p a.standing × (b ≡ a)
IsStep p rule a NoFlow b = HasEndedInfeasibleIn p a.standing × (b ≡ a)
IsStep p rule a (NoBound c) b = HasNoBoundAt p rule a.standing a.pricing c × (b ≡ a)

-- Column c is picked and would lower the costs in this direction.
pub record IsEntering (p : LinearProgram) (rule : Rule) (s : Standing) (at : PricingState) (c : Col) (down : Bool) : Type 0 where
  pub nonbasic : IsNonbasic p s c
  pub picked : Picks p rule s at c
  pub lowers : WouldLower p s (col_of c) down

-- The change moves the entering column: it pivots in a slot, or flips, and that gives the next state.
abbrev pub IsChange : LinearProgram → Rule → Standing → PricingState → List Col → Change → Type 0
IsChange p rule s at slots (Pivot entering slot to) = (down : Bool) × IsEntering p rule s at entering down × LeavesAt p s slots entering down slot (place_of to)
IsChange p rule s at slots (Flip c) = (down : Bool) × IsEntering p rule s at c down × Flips p s c down

-- What is due in a state: this change, or none, since it has ended so.
abbrev pub IsTurn : LinearProgram → Rule → Standing → PricingState → List Col → Turn → Type 0
IsTurn p rule s at slots (Changes change) = IsChange p rule s at slots change
IsTurn p rule s at slots (Ended m) = HasEnded p rule s at m

-- What is due where an answer of the ratio test limits the move of column c.
abbrev pub limited_by : Col → Limit → Turn
limited_by c (Leave slot to) = Changes (Pivot c slot to)
limited_by c limit.Flip = Changes (Flip c)
limited_by c Ray = Ended (NoBound c)

-- The turn that the ratio test gives, for column c in this direction.
abbrev pub IsLimited : LinearProgram → Standing → List Col → Col → Bool → Turn → Type 0
IsLimited p s slots c down turn = (l : Limit) × IsLimitOf p s slots c down l × (turn ≡ limited_by c l)

-- A step from a to b has been made that did this.
abbrev pub IsMade : LinearProgram → Rule → Point → Moved → Point → Type 0
IsMade p rule a m b = (c : Col) × StepsBy p rule a c b × IsStep p rule a m b

-- What a look at a state leaves of the queue: the next queue if it finds a change that will be made, and else the queue
-- as it is.
abbrev pub IsLeft : LinearProgram → Rule → Standing → PricingState → Bool → Turn → List ℕ → Type 0
IsLeft p rule s at true (Changes change) queue = LeavesQueue p rule s at queue
IsLeft p rule s at true (Ended m) queue = queue ≡ at.queue
IsLeft p rule s at false turn queue = queue ≡ at.queue

-- A change is due in a state, with the cursor and queue `at`; since it was found, the queue has become the next one.
pub record IsDue (p : LinearProgram) (rule : Rule) (s : Standing) (at : PricingState) (slots : List Col) (change : Change) (now : PricingState) : Type 0 where
  pub due : IsChange p rule s at slots change
  pub queued : LeavesQueue p rule s at now.queue
