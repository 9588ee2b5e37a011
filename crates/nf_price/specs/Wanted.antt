-- Which columns a phase wants to enter, by the duals handed in, and which of them a rule picks.
-- The loops of pricing keep these; `choose` promises the definitions of eligible and picked columns.
use Rattle.std.specs.Prelude.{◌≡◌, ◌≢◌, ◌⊎◌, ℕ, ◌<◌, ◌≤◌, List, [], Option, None, Some}
use Rattle.nf_num.specs.Rational.{ℚ, ◌<ℚ◌}
use Rattle.nf_model.specs.Program.{LinearProgram, at}
use Rattle.nf_simplex.specs.Columns.{col_at, col_lower, col_upper, ones, twos}
use Rattle.nf_simplex.specs.Layout.{layout_of}
use Rattle.nf_simplex.specs.Numbers.{reduced}
use Rattle.nf_simplex.specs.Objective.{Improves}
use Rattle.nf_simplex.specs.Pricing.{Rule, IsMagnitude, IsPickedBy, WantsOne, WantsTwo}
use Rattle.nf_simplex.specs.Queue.{PricingState, OfNumber, AreKept}
use Rattle.nf_simplex.specs.Standing.{Standing, place_at, stage_of}
use Rattle.nf_basis.specs.declared.col.Phase.{Phase}
use Rattle.nf_basis.specs.declared.col.Phase.TheVariants.{One, Two}
use Rattle.nf_price.specs.declared.candidate.Candidate.{Candidate}

-- The column with a number does not have two equal bounds.
abbrev pub BoundsDiffer : LinearProgram → ℕ → Type 0
BoundsDiffer p k = (l u : ℚ) → col_lower (layout_of p) (col_at (layout_of p) k) ≡ Some l → col_upper (layout_of p) (col_at (layout_of p) k) ≡ Some u → l ≢ u

-- A phase wants the column with number j to enter.
abbrev pub Wants : LinearProgram → Standing → Phase → List ℚ → List ℚ → ℕ → Type 0
Wants p s One y1 y2 j = WantsOne (stage_of p s) (place_at s) (ones (layout_of p)) (at y1) j
Wants p s Two y1 y2 j = WantsTwo (stage_of p s) (place_at s) (ones (layout_of p)) (twos (layout_of p)) (at y1) (at y2) j

-- Its reduced cost in the phase.
abbrev pub cost_in : LinearProgram → Standing → Phase → List ℚ → List ℚ → ℕ → ℚ
cost_in p s One y1 y2 j = reduced (stage_of p s) (ones (layout_of p)) (at y1) j
cost_in p s Two y1 y2 j = reduced (stage_of p s) (twos (layout_of p)) (at y2) j

-- a is the magnitude of that reduced cost.
abbrev pub HasMagnitude : LinearProgram → Standing → Phase → List ℚ → List ℚ → ℕ → ℚ → Type 0
HasMagnitude p s phase y1 y2 j a = IsMagnitude (cost_in p s phase y1 y2 j) a

-- A phase wants no column from number `from` on and below `to`.
abbrev pub WantsNoneIn : LinearProgram → Standing → Phase → List ℚ → List ℚ → ℕ → ℕ → Type 0
WantsNoneIn p s phase y1 y2 from to = (i : ℕ) → from ≤ i → i < to → Wants p s phase y1 y2 i → ⊥

-- A phase wants the column with this number, counted from 1.
abbrev pub WantsNumber : LinearProgram → Standing → Phase → List ℚ → List ℚ → ℕ → Type 0
WantsNumber p s phase y1 y2 n = OfNumber (Wants p s phase y1 y2) n

-- A phase wants none of the members of a queue.
abbrev pub WantsNoMember : LinearProgram → Standing → Phase → List ℚ → List ℚ → List ℕ → Type 0
WantsNoMember p s phase y1 y2 queue = AreKept (WantsNumber p s phase y1 y2) queue []

-- A phase wants some column.
abbrev pub WantsSome : LinearProgram → Standing → Phase → List ℚ → List ℚ → Type 0
WantsSome p s phase y1 y2 = (j : ℕ) × Wants p s phase y1 y2 j

-- A phase wants no column.
abbrev pub WantsNone : LinearProgram → Standing → Phase → List ℚ → List ℚ → Type 0
WantsNone p s phase y1 y2 = (i : ℕ) → Wants p s phase y1 y2 i → ⊥

-- The candidate has number j, and the size and the direction that a reduced cost d gives.
pub record IsMoveBy (j : ℕ) (d : ℚ) (c : Candidate) : Type 0 where
  pub number : c.number ≡ j
  pub size : IsMagnitude d c.size
  pub down : Improves c.down d

-- A phase wants the candidate's column, and its reduced cost in the phase gives the size and the direction.
pub record IsCandidate (p : LinearProgram) (s : Standing) (phase : Phase) (y1 y2 : List ℚ) (c : Candidate) : Type 0 where
  pub wanted : Wants p s phase y1 y2 c.number
  pub moves : IsMoveBy c.number (cost_in p s phase y1 y2 c.number) c

-- The candidate is the first one from `from` on that a phase wants.
pub record IsFirstWanted (p : LinearProgram) (s : Standing) (phase : Phase) (y1 y2 : List ℚ) (from : ℕ) (c : Candidate) : Type 0 where
  pub candidate : IsCandidate p s phase y1 y2 c
  pub behind : from ≤ c.number
  pub before : WantsNoneIn p s phase y1 y2 from c.number

-- Of the columns below n that a phase wants, the candidate has the greatest magnitude, and of equal ones the least
-- number.
pub record IsGreatestBelow (p : LinearProgram) (s : Standing) (phase : Phase) (y1 y2 : List ℚ) (n : ℕ) (c : Candidate) : Type 0 where
  pub candidate : IsCandidate p s phase y1 y2 c
  pub below : c.number < n
  pub greatest : (i : ℕ) (a : ℚ) → i < n → Wants p s phase y1 y2 i → HasMagnitude p s phase y1 y2 i a → (a <ℚ c.size) ⊎ ((a ≡ c.size) × (c.number ≤ i))

-- The best of the columns below n, if a phase wants any.
abbrev pub IsBestBelow : LinearProgram → Standing → Phase → List ℚ → List ℚ → ℕ → Option Candidate → Type 0
IsBestBelow p s phase y1 y2 n None = WantsNoneIn p s phase y1 y2 0 n
IsBestBelow p s phase y1 y2 n (Some c) = IsGreatestBelow p s phase y1 y2 n c

-- The candidate is the one that the rule picks of those that a phase wants.
pub record IsChosen (p : LinearProgram) (s : Standing) (phase : Phase) (y1 y2 : List ℚ) (rule : Rule) (at : PricingState) (c : Candidate) : Type 0 where
  pub candidate : IsCandidate p s phase y1 y2 c
  pub by_rule : IsPickedBy rule at (Wants p s phase y1 y2) (HasMagnitude p s phase y1 y2) c.number

-- Of the candidate so far and the next one, the next one where it is greater.
abbrev pub IsBetter : Option Candidate → Candidate → Option Candidate → Type 0
IsBetter None next result = result ≡ Some next
IsBetter (Some c) next result = ((result ≡ Some c) × (c.size <ℚ next.size → ⊥)) ⊎ ((result ≡ Some next) × (c.size <ℚ next.size))
