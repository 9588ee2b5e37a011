-- The rows of terms of a working inverse, over its weights and the numbers handed in.
-- The causes of Passed of `Work` and of `rank_check` name them.
use Rattle.std.specs.Prelude.{◌≡◌, ◌≢◌, ℕ, ◌<◌, List, length, slice_index_or}
use Rattle.nf_num.specs.Rational.{ℚ, zero_ℚ, ◌*ℚ◌, neg_ℚ}
use Rattle.nf_num.specs.Sum.{sum_ℚ}
use Rattle.nf_sums.specs.Terms.{Terms}
use Rattle.nf_inverse.specs.Weights.{weight}
use Rattle.nf_inverse.specs.Causes.{EntryTerms, DualTerms, ExchangeTerms}

-- A list's numbers by place, from 0, and 0 past its end.
abbrev pub numbers : List ℚ → ℕ → ℚ
numbers xs k = slice_index_or xs k zero_ℚ

-- The entries of a column by the inverse: its weights in a combination of the matrix's columns.
abbrev pub entries : List (List ℚ) → (ℕ → ℚ) → ℕ → ℚ
entries w c a = sum_ℚ (length w) (λ i. weight w a i *ℚ c i)

-- The column c is put in place `at`: its entries by the inverse, and the update by them.
pub data ReplaceTerms (w : List (List ℚ)) (at : ℕ) (c : ℕ → ℚ) : Terms → Type 0 where
  entry : (t : Terms) → EntryTerms w c t → ReplaceTerms w at c t
  update : (t : Terms) → ExchangeTerms w (entries w c) at t → ReplaceTerms w at c t

-- The weights after the change by `row`: those of place `at` are minus the sum of each place's weight times its number in `row`, and all others stay.
pub record IsChangedByRow (old new : List (List ℚ)) (row : ℕ → ℚ) (at : ℕ) : Type 0 where
  pub size : length new ≡ length old
  pub there : (r : ℕ) → r < length old → weight new at r ≡ sum_ℚ (length old) (λ b. weight old b r *ℚ neg_ℚ (row b))
  pub others : (a r : ℕ) → a ≢ at → weight new a r ≡ weight old a r

-- The change by `row`, and then the column c in place `at`: the new weights of the place, and the rows of the replacement by the changed inverse.
pub data RowColumnTerms (w : List (List ℚ)) (row : ℕ → ℚ) (at : ℕ) (c : ℕ → ℚ) : Terms → Type 0 where
  by_row : (t : Terms) → DualTerms w (λ b. neg_ℚ (row b)) t → RowColumnTerms w row at c t
  replaced : (changed : List (List ℚ)) → IsChangedByRow w changed row at → (t : Terms) → ReplaceTerms changed at c t → RowColumnTerms w row at c t
