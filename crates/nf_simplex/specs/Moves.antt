-- The step over states as data: which column is picked, what the next state is, how a state has ended, and the starts.
-- Pricing, the ratio test and the runs of the simplex method promise it.
use Rattle.std.specs.Prelude.{◌≡◌, ◌⊎◌, ℕ, suc, ◌+◌, ◌<◌, ◌↔◌, length, List, Bool, true}
use Rattle.nf_num.specs.Rational.{ℚ, zero_ℚ, ◌<ℚ◌}
use Rattle.nf_model.specs.Program.{LinearProgram, HoldsBelow}
use Rattle.nf_simplex.specs.Place.{Place}
use Rattle.nf_simplex.specs.Lex.{IsLexLess, IsLexFeasible}
use Rattle.nf_simplex.specs.Step.{CanEnter, IsNext}
use Rattle.nf_simplex.specs.Objective.{objective, Improves}
use Rattle.nf_simplex.specs.Queue.{PricingState}
use Rattle.nf_simplex.specs.Pricing.{Rule, IsEligible, IsNextQueue, IsPicked}
use Rattle.nf_simplex.specs.Ends.{HasEndedInfeasible, HasEndedOptimal, HasEndedUnbounded}
use Rattle.nf_simplex.specs.Layout.{layout_of}
use Rattle.nf_simplex.specs.Columns.{Col, Given, Slack, Artificial}
use Rattle.nf_simplex.specs.StageOf.{StageOne, StageTwo}
use Rattle.nf_simplex.specs.Starts.{first_place, first_rest, nonarc_place, second_rest, StartsRow}
use Rattle.nf_simplex.specs.Standing.{Standing, number_in, column_in, lower_in, upper_in, HoldsOfColumns, place_at, place_of, is_negative, stage_of, rows_of, IsStateOf, PhaseOne, PhaseTwo, costs_of, AreValuesOf, AreDualsOf, reduced_in}

-- The numbers by which a state's columns are priced: its values, and its duals of both phases.
pub record Prices (p : LinearProgram) (s : Standing) : Type 0 where
  pub values : ℕ → ℚ
  pub one : ℕ → ℚ
  pub two : ℕ → ℚ
  pub are_values : AreValuesOf p s values
  pub are_duals_one : AreDualsOf p s PhaseOne one
  pub are_duals_two : AreDualsOf p s PhaseTwo two

-- ---- pricing
-- The column with number j is eligible by these numbers.
abbrev pub IsEligibleBy : (p : LinearProgram) (s : Standing) → Prices p s → ℕ → Type 0
IsEligibleBy p s n j = IsEligible (stage_of p s) (place_at s) n.values (costs_of p PhaseOne) (costs_of p PhaseTwo) n.one n.two j

-- Column c is eligible to enter.
abbrev pub IsEligibleIn : LinearProgram → Standing → Col → Type 0
IsEligibleIn p s c = (n : Prices p s) × IsEligibleBy p s n (number_in p c)

-- Column c is the eligible one that the rule picks, with this cursor and queue.
abbrev pub IsPickedIn : LinearProgram → Standing → Rule → PricingState → Col → Type 0
IsPickedIn p s rule at c =
    (n : Prices p s) × IsPicked (stage_of p s) (place_at s) n.values (costs_of p PhaseOne) (costs_of p PhaseTwo) n.one n.two rule at (number_in p c)

-- A step by the rule leaves the queue `next`.
abbrev pub IsNextQueueIn : LinearProgram → Standing → Rule → PricingState → List ℕ → Type 0
IsNextQueueIn p s rule at next = (n : Prices p s) × IsNextQueue rule at (IsEligibleBy p s n) next

-- ---- the step
-- Column c can enter in this direction.
abbrev pub CanEnterIn : LinearProgram → Standing → Col → Bool → Type 0
CanEnterIn p s c down = CanEnter (stage_of p s) (place_at s) (number_in p c) down

-- Column c can enter in this direction, and moving it so lowers the cost of phase one, or keeps it and lowers that of
-- phase two.
pub record WouldLower (p : LinearProgram) (s : Standing) (c : Col) (down : Bool) : Type 0 where
  pub prices : Prices p s
  pub enters : CanEnterIn p s c down
  pub improves : Improves down (reduced_in p s PhaseOne prices.one (number_in p c))
      ⊎ ((reduced_in p s PhaseOne prices.one (number_in p c) ≡ zero_ℚ) × Improves down (reduced_in p s PhaseTwo prices.two (number_in p c)))

-- t is the next state of s where column c enters in this direction: it has the stage and the signs of s.
pub record IsNextOf (p : LinearProgram) (s : Standing) (c : Col) (down : Bool) (t : Standing) : Type 0 where
  pub state : IsStateOf p t
  pub same_stage : t.stage ≡ s.stage
  pub same_signs : t.negative ≡ s.negative
  pub next : IsNext (stage_of p s) (place_at s) (number_in p c) down (place_at t)

-- No state is next where column c enters in this direction.
abbrev pub HasNoNext : LinearProgram → Standing → Col → Bool → Type 0
HasNoNext p s c down = (t : ℕ → Place) → IsNext (stage_of p s) (place_at s) (number_in p c) down t → ⊥

-- The objective vector of a lexicographically feasible state.
abbrev pub objective_of : (p : LinearProgram) (s : Standing) → IsLexFeasible (stage_of p s) (place_at s) → ℕ → ℚ
objective_of p s f = objective (stage_of p s) (costs_of p PhaseOne) (costs_of p PhaseTwo) f

-- The objective vector of t is lexicographically less than that of s.
pub record IsLowerThan (p : LinearProgram) (t s : Standing) : Type 0 where
  pub after : IsLexFeasible (stage_of p t) (place_at t)
  pub before : IsLexFeasible (stage_of p s) (place_at s)
  pub less : IsLexLess (suc (rows_of p s) + suc (rows_of p s)) (objective_of p t after) (objective_of p s before)

-- ---- the ends
-- A state has ended infeasible.
abbrev pub HasEndedInfeasibleIn : LinearProgram → Standing → Type 0
HasEndedInfeasibleIn p s = (n : Prices p s) × HasEndedInfeasible (stage_of p s) (place_at s) n.values (costs_of p PhaseOne) n.one

-- A state has ended optimal.
abbrev pub HasEndedOptimalIn : LinearProgram → Standing → Type 0
HasEndedOptimalIn p s =
    (n : Prices p s) × HasEndedOptimal (stage_of p s) (place_at s) n.values (costs_of p PhaseOne) (costs_of p PhaseTwo) n.one n.two

-- A state has ended unbounded at column c, which would move in this direction.
abbrev pub HasEndedUnboundedIn : LinearProgram → Standing → Col → Bool → Type 0
HasEndedUnboundedIn p s c down =
    (n : Prices p s) × HasEndedUnbounded (stage_of p s) (place_at s) n.values (costs_of p PhaseOne) (costs_of p PhaseTwo) n.one n.two (number_in p c) down

-- ---- the starts
-- s is the start of stage one: places by column, and an artificial is negative where its row's rest is.
pub record IsFirstState (p : LinearProgram) (s : Standing) : Type 0 where
  pub state : IsStateOf p s
  pub stage : s.stage ≡ StageOne
  pub places : HoldsOfColumns p (λ j. place_at s j ≡ first_place (layout_of p) (column_in p j))
  pub signs : HoldsBelow p.nodes (λ i. (is_negative s i ≡ true) ↔ (first_rest (layout_of p) i <ℚ zero_ℚ))

-- Side row q has started in t, from the values x.
abbrev pub HasStartedRow : LinearProgram → (ℕ → ℚ) → Standing → ℕ → Type 0
HasStartedRow p x t q =
    StartsRow ((layout_of p).kind (p.nodes + q)) (second_rest (layout_of p) x (p.nodes + q)) (place_of p t (Slack (p.nodes + q))) (place_of p t (Artificial (p.nodes + q)))
    (is_negative t (p.nodes + q))

-- Nonarc variable j has started in t.
abbrev pub HasStartedColumn : LinearProgram → Standing → ℕ → Type 0
HasStartedColumn p t j = place_of p t (Given j) ≡ nonarc_place (lower_in p (Given j)) (upper_in p (Given j))

-- t is the start of stage two after a state s of stage one with the values x: arcs, and node rows with their
-- artificials, stay as they are; nonarc variables and side rows start.
pub record IsSecondState (p : LinearProgram) (s : Standing) (x : ℕ → ℚ) (t : Standing) : Type 0 where
  pub state : IsStateOf p t
  pub stage : t.stage ≡ StageTwo
  pub arcs : HoldsBelow p.arcs (λ j. place_of p t (Given j) ≡ place_of p s (Given j))
  pub nonarcs : (j : ℕ) → p.arcs + j < length p.columns → HasStartedColumn p t (p.arcs + j)
  pub nodes : HoldsBelow p.nodes (λ i. (place_of p t (Artificial i) ≡ place_of p s (Artificial i)) × (is_negative t i ≡ is_negative s i))
  pub sides : (q : ℕ) → p.nodes + q < length p.rows → HasStartedRow p x t q
