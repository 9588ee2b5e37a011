-- What an exchange does to the weights by the product form (G. B. Dantzig and W. Orchard-Hays, 1954), and to the values.
-- The clauses on values of `Inverse::exchange`, `exchange_values` and `flip_values` rest on it.
use Rattle.std.specs.Prelude.{◌≡◌, ◌≢◌, ℕ, ◌<◌, List, length}
use Rattle.nf_num.specs.Rational.{ℚ, ◌+ℚ◌, ◌-ℚ◌, ◌*ℚ◌, inv_ℚ}
use Rattle.nf_inverse.specs.Weights.{at, weight}

-- The leaving slot's weights are divided by its entry, and each other slot's weights are less its entry times these.
pub record IsExchanged (old new : List (List ℚ)) (entry : ℕ → ℚ) (leaving : ℕ) : Type 0 where
  pub leaving_slot : (i : ℕ) → i < length old → weight new leaving i ≡ weight old leaving i *ℚ inv_ℚ (entry leaving)
  pub other_slots : (s i : ℕ) → s < length old → i < length old → s ≢ leaving → weight new s i ≡ weight old s i -ℚ entry s *ℚ weight new leaving i

-- The entering column moves by the leaving slot's ratio, and each other slot's value is less its entry times that.
pub record AreExchanged (old new : List ℚ) (entry : ℕ → ℚ) (leaving : ℕ) (bound start : ℚ) : Type 0 where
  pub entering : at new leaving ≡ start +ℚ (at old leaving -ℚ bound) *ℚ inv_ℚ (entry leaving)
  pub others : (s : ℕ) → s < length old → s ≢ leaving → at new s ≡ at old s -ℚ entry s *ℚ ((at old leaving -ℚ bound) *ℚ inv_ℚ (entry leaving))

-- Each number of a list is one of another, divided by an entry.
abbrev pub IsScaled : List ℚ → List ℚ → ℚ → Type 0
IsScaled scaled row entry = (i : ℕ) → i < length row → at scaled i ≡ at row i *ℚ inv_ℚ entry

-- One weight is another number, and all others are as they were.
pub record IsPut (old new : List (List ℚ)) (slot row : ℕ) (number : ℚ) : Type 0 where
  pub there : weight new slot row ≡ number
  pub same_slot : (i : ℕ) → i ≢ row → weight new slot i ≡ weight old slot i
  pub other_slots : (s i : ℕ) → s ≢ slot → weight new s i ≡ weight old s i
