-- The laws of the simplex method over states: its numbers are the only ones, a step has one next state and lowers the
-- objective vector, the starts are states, and an ended state has a valid certificate.
-- The functions of this crate promise them; every verdict of the program rests on them.
use Rattle.std.specs.Prelude.{◌≡◌, ℕ, suc, List, ◌∷◌, Bool}
use Rattle.nf_num.specs.Rational.{ℚ}
use Rattle.nf_model.specs.Program.{LinearProgram, cost_of, HoldsBelow}
use Rattle.nf_model.specs.Problem.{IsProblem}
use Rattle.nf_model.specs.Certificate.{IsValidBest}
use Rattle.nf_model.specs.Farkas.{IsValidFarkas, IsGap}
use Rattle.nf_model.specs.Ray.{IsValidRay}
use Rattle.nf_simplex.specs.Numbers.{AreWeights}
use Rattle.nf_simplex.specs.Step.{signed}
use Rattle.nf_simplex.specs.Layout.{layout_of}
use Rattle.nf_simplex.specs.Columns.{Col}
use Rattle.nf_simplex.specs.Queue.{PricingState, IsTidied, IsFront}
use Rattle.nf_simplex.specs.StageOf.{StageOne, IsLast}
use Rattle.nf_simplex.specs.Standing.{Standing, number_in, HoldsOfColumns, place_at, stage_of, rows_of, Phase, PhaseTwo, IsBasisOf, AreValuesOf, AreDualsOf, reduced_in, IsFeasibleState}
use Rattle.nf_simplex.specs.Moves.{Prices, IsEligibleBy, IsEligibleIn, WouldLower, CanEnterIn, IsNextOf, IsLowerThan, HasEndedInfeasibleIn, HasEndedOptimalIn, HasEndedUnboundedIn, IsFirstState, IsSecondState}
use Rattle.nf_simplex.specs.Verdicts.{artificial_sum, AreGivenValues, ArePrintedDuals, AreFarkasDuals, AreMoves}

-- A basis has one list of values.
abbrev pub ValuesAreUnique : Type 0
ValuesAreUnique =
    (p : LinearProgram) (s : Standing) → IsBasisOf p s → (x y : ℕ → ℚ) → AreValuesOf p s x → AreValuesOf p s y → HoldsOfColumns p (λ j. x j ≡ y j)

-- It has one list of weights that give a; so it has one list of entries of a column, and one inverse column of a row.
abbrev pub WeightsAreUnique : Type 0
WeightsAreUnique =
    (p : LinearProgram) (s : Standing) → IsBasisOf p s → (a w u : ℕ → ℚ) → AreWeights (stage_of p s) (place_at s) a w
    → AreWeights (stage_of p s) (place_at s) a u
    → HoldsOfColumns p (λ j. w j ≡ u j)

-- It has one list of duals of a phase.
abbrev pub DualsAreUnique : Type 0
DualsAreUnique =
    (p : LinearProgram) (s : Standing) → IsBasisOf p s → (phase : Phase) (y z : ℕ → ℚ) → AreDualsOf p s phase y → AreDualsOf p s phase z → HoldsBelow (rows_of p s) (λ i. y i ≡ z i)

-- A lexicographically feasible state and an entering column have at most one next state.
abbrev pub NextIsUnique : Type 0
NextIsUnique =
    (p : LinearProgram) (s t u : Standing) (c : Col) (down : Bool) → IsFeasibleState p s → CanEnterIn p s c down
    → IsNextOf p s c down t → IsNextOf p s c down u → t ≡ u

-- An eligible column can enter in a direction that lowers the costs.
abbrev pub EligibleWouldLower : Type 0
EligibleWouldLower = (p : LinearProgram) (s : Standing) (c : Col) → IsProblem p → IsEligibleIn p s c → (down : Bool) × WouldLower p s c down

-- The step of such a column leads to a lexicographically feasible state with a lexicographically less objective vector.
abbrev pub StepsLower : Type 0
StepsLower =
    (p : LinearProgram) (s t : Standing) (c : Col) (down : Bool) → IsFeasibleState p s → WouldLower p s c down
    → IsNextOf p s c down t → IsFeasibleState p t × IsLowerThan p t s

-- The start of stage one is a lexicographically feasible state.
abbrev pub FirstIsFeasible : Type 0
FirstIsFeasible = (p : LinearProgram) (s : Standing) → IsProblem p → IsFirstState p s → IsFeasibleState p s

-- So is the start of stage two after such a state of stage one.
abbrev pub SecondIsFeasible : Type 0
SecondIsFeasible =
    (p : LinearProgram) (s : Standing) (x : ℕ → ℚ) (t : Standing) → IsProblem p → IsFeasibleState p s → s.stage ≡ StageOne
    → AreValuesOf p s x → IsSecondState p s x t → IsFeasibleState p t

-- A state that has ended optimal, with no stage two to come: its values and printed duals are valid.
abbrev pub OptimalIsBest : Type 0
OptimalIsBest =
    (p : LinearProgram) (s : Standing) → IsProblem p → IsFeasibleState p s → IsLast (layout_of p) s.stage → HasEndedOptimalIn p s
    → (xs ys : List ℚ) → AreGivenValues p s xs → ArePrintedDuals p s ys → IsValidBest p xs ys

-- A state that has ended infeasible: its duals of phase one are valid, and the gap is the sum of its artificials.
abbrev pub InfeasibleHasGap : Type 0
InfeasibleHasGap =
    (p : LinearProgram) (s : Standing) → IsProblem p → IsFeasibleState p s → HasEndedInfeasibleIn p s
    → (ys : List ℚ) (x : ℕ → ℚ) → AreFarkasDuals p s ys → AreValuesOf p s x → IsValidFarkas p ys × IsGap p ys (artificial_sum p x)

-- A state that has ended unbounded, with no stage two to come: its values and what the columns do while the picked one
-- moves are valid, and the rate is the reduced cost of that column in phase two, negated where it moves down.
abbrev pub UnboundedHasRay : Type 0
UnboundedHasRay =
    (p : LinearProgram) (s : Standing) (c : Col) (down : Bool) → IsProblem p → IsFeasibleState p s → IsLast (layout_of p) s.stage
    → HasEndedUnboundedIn p s c down
    → (xs rs : List ℚ) → AreGivenValues p s xs → AreMoves p s c down rs
    → IsValidRay p xs rs × ((n : Prices p s) → cost_of p rs ≡ signed down (reduced_in p s PhaseTwo n.two (number_in p c)))

-- A queue is tidied in one way.
abbrev pub TidiedIsUnique : Type 0
TidiedIsUnique =
    (p : LinearProgram) (s : Standing) (n : Prices p s) (size : ℕ) (at : PricingState) (xs ys : List ℕ) → IsTidied size at (IsEligibleBy p s n) xs
    → IsTidied size at (IsEligibleBy p s n) ys
    → xs ≡ ys

-- What is picked from a queue is the front of the tidied one.
abbrev pub FrontIsPicked : Type 0
FrontIsPicked =
    (p : LinearProgram) (s : Standing) (n : Prices p s) (size : ℕ) (at : PricingState) (j : ℕ) (ys : List ℕ) → IsTidied size at (IsEligibleBy p s n) (suc j ∷ ys)
    → IsFront at (IsEligibleBy p s n) j
