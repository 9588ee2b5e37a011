-- Which columns are eligible to enter, and which of them a rule picks.
-- The pricing of each step promises it.
use Rattle.std.specs.Prelude.{◌≡◌, ◌≢◌, ℕ, ◌<◌, ◌≤◌, ◌⊎◌, Some, List}
use Rattle.nf_num.specs.Rational.{ℚ, zero_ℚ, ◌*ℚ◌, neg_ℚ, ◌<ℚ◌}
use Rattle.nf_num.specs.Sum.{sum_ℚ}
use Rattle.nf_simplex.specs.Place.{Place, Lower, Upper, Zero, Absent, Basic}
use Rattle.nf_simplex.specs.Stage.{Stage}
use Rattle.nf_simplex.specs.Numbers.{reduced}
use Rattle.nf_simplex.specs.Queue.{PricingState, IsFront, IsRestOfQueue}

-- The rules: the first column after the cursor, the one of greatest reduced cost, the least by number (R. G. Bland,
-- 1977), and the front of a queue that is filled up to a size.
pub data Rule : Type 0 where
  First : Rule
  Best : Rule
  Bland : Rule
  Queue : ℕ → Rule

-- The reduced cost d of a column that stands here has the wrong sign.
abbrev pub HasWrongSign : Place → ℚ → Type 0
HasWrongSign Lower d = d <ℚ zero_ℚ
HasWrongSign Upper d = zero_ℚ <ℚ d
HasWrongSign Zero d = d ≢ zero_ℚ
HasWrongSign Absent d = ⊥
HasWrongSign Basic d = ⊥

-- Column j is a given column or a slack, and does not have two equal bounds.
pub record IsEntrant (S : Stage) (j : ℕ) : Type 0 where
  pub within : j < S.columns
  pub priced : j < S.entering
  pub bounds_differ : (l u : ℚ) → S.lower j ≡ Some l → S.upper j ≡ Some u → l ≢ u

-- Phase one wants column j to enter: its reduced cost by the duals y1 has the wrong sign.
abbrev pub WantsOne : (S : Stage) → (ℕ → Place) → (ℕ → ℚ) → (ℕ → ℚ) → ℕ → Type 0
WantsOne S s one y1 j = IsEntrant S j × HasWrongSign (s j) (reduced S one y1 j)

-- Phase two wants column j to enter, and phase one leaves it alone.
abbrev pub WantsTwo : (S : Stage) → (ℕ → Place) → (ℕ → ℚ) → (ℕ → ℚ) → (ℕ → ℚ) → (ℕ → ℚ) → ℕ → Type 0
WantsTwo S s one two y1 y2 j = IsEntrant S j × (reduced S one y1 j ≡ zero_ℚ) × HasWrongSign (s j) (reduced S two y2 j)

-- Column j is eligible in a state with the values x: phase one wants it, or phase one wants none, has come to the cost
-- 0, and phase two wants it.
abbrev pub IsEligible : (S : Stage) → (ℕ → Place) → (ℕ → ℚ) → (ℕ → ℚ) → (ℕ → ℚ) → (ℕ → ℚ) → (ℕ → ℚ) → ℕ → Type 0
IsEligible S s x one two y1 y2 j =
    WantsOne S s one y1 j
    ⊎ (((i : ℕ) → WantsOne S s one y1 i → ⊥) × (sum_ℚ S.columns (λ i. one i *ℚ x i) ≡ zero_ℚ) × WantsTwo S s one two y1 y2 j)

-- a is the magnitude of d.
abbrev pub IsMagnitude : ℚ → ℚ → Type 0
IsMagnitude d a = ((d <ℚ zero_ℚ → ⊥) × (a ≡ d)) ⊎ ((d <ℚ zero_ℚ) × (a ≡ neg_ℚ d))

-- d is the reduced cost of column j in the phase that decides about it.
abbrev pub IsDeciding : (S : Stage) → (ℕ → Place) → (ℕ → ℚ) → (ℕ → ℚ) → (ℕ → ℚ) → (ℕ → ℚ) → ℕ → ℚ → Type 0
IsDeciding S s one two y1 y2 j d = (WantsOne S s one y1 j × (d ≡ reduced S one y1 j)) ⊎ ((WantsOne S s one y1 j → ⊥) × (d ≡ reduced S two y2 j))

-- a is the magnitude of that reduced cost.
abbrev pub HasSize : (S : Stage) → (ℕ → Place) → (ℕ → ℚ) → (ℕ → ℚ) → (ℕ → ℚ) → (ℕ → ℚ) → ℕ → ℚ → Type 0
HasSize S s one two y1 y2 j a = (d : ℚ) × IsDeciding S s one two y1 y2 j d × IsMagnitude d a

-- Of the columns with P, the rule picks j: by BLAND the least number, by FIRST the least after the cursor or else the
-- least, by BEST the greatest size and of equal ones the least number, by QUEUE the front of the tidied queue. The
-- cursor counts columns from 1, and is 0 where none has been picked: so the columns after it are those from number
-- `cursor` on.
abbrev pub IsPickedBy : Rule → PricingState → (ℕ → Type 0) → (ℕ → ℚ → Type 0) → ℕ → Type 0
IsPickedBy Bland at P size j = (i : ℕ) → P i → j ≤ i
IsPickedBy First at P size j =
    ((at.cursor ≤ j) × ((i : ℕ) → P i → at.cursor ≤ i → j ≤ i))
    ⊎ (((i : ℕ) → P i → i < at.cursor) × ((i : ℕ) → P i → j ≤ i))
IsPickedBy Best at P size j =
    (a : ℚ) × size j a × ((i : ℕ) (b : ℚ) → P i → size i b → (b <ℚ a) ⊎ ((b ≡ a) × (j ≤ i)))
IsPickedBy (Queue most) at P size j = IsFront at P j

-- The queue that a step leaves, where the columns with P are eligible: by QUEUE the tidied one without its front; the
-- other rules leave it as it is.
abbrev pub IsNextQueue : Rule → PricingState → (ℕ → Type 0) → List ℕ → Type 0
IsNextQueue Bland at P next = next ≡ at.queue
IsNextQueue First at P next = next ≡ at.queue
IsNextQueue Best at P next = next ≡ at.queue
IsNextQueue (Queue most) at P next = IsRestOfQueue most at P next

-- Column j is the eligible column that the rule picks.
pub record IsPicked (S : Stage) (s : ℕ → Place) (x one two y1 y2 : ℕ → ℚ) (rule : Rule) (at : PricingState) (j : ℕ) : Type 0 where
  pub eligible : IsEligible S s x one two y1 y2 j
  pub by_rule : IsPickedBy rule at (IsEligible S s x one two y1 y2) (HasSize S s one two y1 y2) j
