-- The rows of terms of an inverse and of basic values, over the numbers that are handed in.
-- The causes of Passed of `Inverse`, of `exchange_values` and of `flip_values` name them.
use Rattle.std.specs.Prelude.{◌≡◌, ◌⊎◌, ℕ, ◌<◌, Bool, true, false, not, List, length}
use Rattle.nf_num.specs.Rational.{ℚ, one_ℚ, ◌-ℚ◌}
use Rattle.nf_frac.specs.declared.Passed.{Passed}
use Rattle.nf_sums.specs.Terms.{Terms}
use Rattle.nf_sums.specs.Rows.{inverse_terms, difference_terms, quotient_terms, update_terms, flip_terms}
use Rattle.nf_sums.specs.Steps.{AddsProduct, SubtractsProduct}
use Rattle.nf_inverse.specs.Weights.{at, weight}

-- By the inverse, for one slot: weight times what a has at each row.
abbrev pub EntryTerms : List (List ℚ) → (ℕ → ℚ) → Terms → Type 0
EntryTerms w a t = (s : ℕ) × (s < length w) × (t ≡ inverse_terms (length w) (weight w s) a)

-- By the inverse, for one row: weight times the cost of each slot.
abbrev pub DualTerms : List (List ℚ) → (ℕ → ℚ) → Terms → Type 0
DualTerms w cost t = (i : ℕ) × (i < length w) × (t ≡ inverse_terms (length w) (λ s. weight w s i) cost)

-- A ratio: a value less a bound, and this divided by an entry.
abbrev pub RatioTerms : ℚ → ℚ → ℚ → Terms → Type 0
RatioTerms value bound entry t = (t ≡ difference_terms value bound) ⊎ (t ≡ quotient_terms (value -ℚ bound) entry)

-- An exchange: a weight of the leaving slot divided by its entry; and a weight of another slot less that slot's entry
-- times such a quotient.
pub data ExchangeTerms (w : List (List ℚ)) (entry : ℕ → ℚ) (leaving : ℕ) : Terms → Type 0 where
  scaled : (i : ℕ) → i < length w → ExchangeTerms w entry leaving (quotient_terms (weight w leaving i) (entry leaving))
  update : (s i : ℕ) → s < length w → i < length w → ExchangeTerms w entry leaving (update_terms (weight w s i) true (entry s) (weight w leaving i) (entry leaving))

-- The values of an exchange: the leaving slot's ratio; a value less its entry times that; and the entering value and that.
pub data ValueTerms (values : List ℚ) (entry : ℕ → ℚ) (leaving : ℕ) (bound start : ℚ) : Terms → Type 0 where
  difference : ValueTerms values entry leaving bound start (difference_terms (at values leaving) bound)
  quotient : ValueTerms values entry leaving bound start (quotient_terms (at values leaving -ℚ bound) (entry leaving))
  update : (s : ℕ) → s < length values → ValueTerms values entry leaving bound start (update_terms (at values s) true (entry s) (at values leaving -ℚ bound) (entry leaving))
  enter : ValueTerms values entry leaving bound start (update_terms start false one_ℚ (at values leaving -ℚ bound) (entry leaving))

-- The values of a flip: a value less its entry times the distance, or with it where the number falls.
abbrev pub FlipTerms : List ℚ → (ℕ → ℚ) → Bool → ℚ → Terms → Type 0
FlipTerms values entry falls distance t = (s : ℕ) × (s < length values) × (t ≡ flip_terms (at values s) (not falls) (entry s) distance)

-- ---- the same for one row
-- A weight divided by an entry.
abbrev pub ScaledTerms : List ℚ → ℚ → Terms → Type 0
ScaledTerms row entry t = (i : ℕ) × (i < length row) × (t ≡ quotient_terms (at row i) entry)

-- One step of adding a multiple of n numbers to those of a list.
abbrev pub AddsMultiple : List ℚ → ℕ → (ℕ → ℚ) → ℚ → Passed → Type 0
AddsMultiple total n a factor p = (k : ℕ) × (k < n) × AddsProduct (at total k) (a k) factor p

-- One step of taking a multiple of n numbers from those of a list.
abbrev pub SubtractsMultiple : List ℚ → ℕ → (ℕ → ℚ) → ℚ → Passed → Type 0
SubtractsMultiple total n a factor p = (k : ℕ) × (k < n) × SubtractsProduct (at total k) (a k) factor p
