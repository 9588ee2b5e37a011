-- Columns that are listed one after the other, and a matrix that has taken some of them.
-- `rank_check` goes from one such matrix to the next.
use Rattle.std.specs.Prelude.{◌≡◌, ℕ, ◌+◌, ◌*◌, ◌<◌, ◌≤◌, List, length}
use Rattle.nf_num.specs.Rational.{ℚ, zero_ℚ, ◌*ℚ◌}
use Rattle.nf_num.specs.Sum.{sum_ℚ, delta}
use Rattle.nf_work.specs.Matrix.{Matrix}
use Rattle.nf_work.specs.Causes.{entries}
use Rattle.nf_work.specs.Changed.{IsInverseOf}

-- Column a of those of k numbers each that xs lists, by row.
abbrev pub column_at : ℕ → (ℕ → ℚ) → ℕ → ℕ → ℚ
column_at k xs a r = xs (a * k + r)

-- The weights z combine the columns below n to b.
abbrev pub CombinesBelow : ℕ → (ℕ → ℚ) → ℕ → (ℕ → ℚ) → (ℕ → ℚ) → Type 0
CombinesBelow k xs n z b = (r : ℕ) → r < k → sum_ℚ n (λ a. z a *ℚ column_at k xs a r) ≡ b r

-- The columns below n are independent if only zeros combine them to zeros.
abbrev pub IsIndependentBelow : ℕ → (ℕ → ℚ) → ℕ → Type 0
IsIndependentBelow k xs n = (z : ℕ → ℚ) → CombinesBelow k xs n z (λ _. zero_ℚ) → (a : ℕ) → a < n → z a ≡ zero_ℚ

-- Q has the columns below n in their places, and a unit column in each other place.
pub record IsMixed (k : ℕ) (xs : ℕ → ℚ) (n : ℕ) (Q : Matrix) : Type 0 where
  pub taken : (r a : ℕ) → r < k → a < n → Q r a ≡ column_at k xs a r
  pub unit : (a : ℕ) → a < k → n ≤ a → (p : ℕ) × (p < k) × ((r : ℕ) → r < k → Q r a ≡ delta p r)

-- w is the inverse of such a matrix.
pub record HasTaken (k : ℕ) (xs : ℕ → ℚ) (n : ℕ) (w : List (List ℚ)) : Type 0 where
  pub matrix : Matrix
  pub size : length w ≡ k
  pub mixed : IsMixed k xs n matrix
  pub inverse : IsInverseOf matrix w

-- All entries from place n on are 0.
abbrev pub NoneFrom : ℕ → ℕ → (ℕ → ℚ) → Type 0
NoneFrom k n e = (a : ℕ) → a < k → n ≤ a → e a ≡ zero_ℚ

-- Column n has no place of its own: its entries are e, and from place n on they are 0.
pub record IsSpanned (k : ℕ) (c : ℕ → ℚ) (n : ℕ) (w : List (List ℚ)) (e : ℕ → ℚ) : Type 0 where
  pub is_entries : (a : ℕ) → a < k → e a ≡ entries w c a
  pub none : NoneFrom k n e
