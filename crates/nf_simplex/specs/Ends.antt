-- When a state has ended, and the duals that are printed for one that has ended optimal.
-- The verdict of every run, and its certificate, rest on it.
use Rattle.std.specs.Prelude.{◌≡◌, ◌≢◌, ℕ, ◌<◌, ◌⊎◌, Bool}
use Rattle.nf_num.specs.Rational.{ℚ, zero_ℚ, ◌+ℚ◌, ◌*ℚ◌, neg_ℚ, inv_ℚ, ◌<ℚ◌}
use Rattle.nf_num.specs.Sum.{sum_ℚ}
use Rattle.nf_simplex.specs.Place.{Place, Absent, Basic}
use Rattle.nf_simplex.specs.Stage.{Stage}
use Rattle.nf_simplex.specs.Numbers.{reduced}
use Rattle.nf_simplex.specs.Step.{CanEnter, IsNext}
use Rattle.nf_simplex.specs.Objective.{Improves}
use Rattle.nf_simplex.specs.Pricing.{WantsOne, IsEligible}

-- Phase one wants no column, and its cost is above 0.
abbrev pub HasEndedInfeasible : (S : Stage) → (ℕ → Place) → (ℕ → ℚ) → (ℕ → ℚ) → (ℕ → ℚ) → Type 0
HasEndedInfeasible S s x one y1 = ((i : ℕ) → WantsOne S s one y1 i → ⊥) × (zero_ℚ <ℚ sum_ℚ S.columns (λ i. one i *ℚ x i))

-- No column is eligible, and the cost of phase one is 0.
abbrev pub HasEndedOptimal : (S : Stage) → (ℕ → Place) → (ℕ → ℚ) → (ℕ → ℚ) → (ℕ → ℚ) → (ℕ → ℚ) → (ℕ → ℚ) → Type 0
HasEndedOptimal S s x one two y1 y2 = ((j : ℕ) → IsEligible S s x one two y1 y2 j → ⊥) × (sum_ℚ S.columns (λ i. one i *ℚ x i) ≡ zero_ℚ)

-- Column e is eligible and would lower the cost in this direction, and there is no next state.
pub record HasEndedUnbounded (S : Stage) (s : ℕ → Place) (x one two y1 y2 : ℕ → ℚ) (e : ℕ) (down : Bool) : Type 0 where
  pub eligible : IsEligible S s x one two y1 y2 e
  pub enters : CanEnter S s e down
  pub improves : Improves down (reduced S one y1 e) ⊎ ((reduced S one y1 e ≡ zero_ℚ) × Improves down (reduced S two y2 e))
  pub stuck : (t : ℕ → Place) → IsNext S s e down t → ⊥

-- Column j is present, nonbasic, and a given column or a slack.
abbrev pub IsPriced : (S : Stage) → (ℕ → Place) → ℕ → Type 0
IsPriced S s j = (j < S.columns) × (j < S.entering) × (s j ≢ Basic) × (s j ≢ Absent)

-- m is the greatest of 0 and of -d2/d1 over the columns that are priced and have d1 other than 0.
pub record IsFactor (S : Stage) (s : ℕ → Place) (d1 d2 : ℕ → ℚ) (m : ℚ) : Type 0 where
  pub not_negative : m <ℚ zero_ℚ → ⊥
  pub not_less : (j : ℕ) → IsPriced S s j → d1 j ≢ zero_ℚ → m <ℚ neg_ℚ (d2 j) *ℚ inv_ℚ (d1 j) → ⊥
  pub attained : (m ≡ zero_ℚ) ⊎ ((j : ℕ) × IsPriced S s j × (d1 j ≢ zero_ℚ) × (m ≡ neg_ℚ (d2 j) *ℚ inv_ℚ (d1 j)))

-- The printed duals: those of phase two, and m times those of phase one.
abbrev pub printed : (ℕ → ℚ) → (ℕ → ℚ) → ℚ → ℕ → ℚ
printed y1 y2 m i = y2 i +ℚ m *ℚ y1 i
