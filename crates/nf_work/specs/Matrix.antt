-- Square matrices as functions of row and column, their inverses, and the two changes of columns that a working inverse follows.
-- The clauses on values of `Work` and of `rank_check` rest on it.
use Rattle.std.specs.Prelude.{◌≡◌, ◌≢◌, ℕ, ◌<◌}
use Rattle.nf_num.specs.Rational.{ℚ, zero_ℚ, ◌+ℚ◌, ◌*ℚ◌, neg_ℚ}
use Rattle.nf_num.specs.Sum.{sum_ℚ, delta}

-- The number at a row, in a column.
abbrev pub Matrix : Type 0
Matrix = ℕ → ℕ → ℚ

-- Q is regular if only zeros combine its columns to zeros.
abbrev pub IsRegular : ℕ → Matrix → Type 0
IsRegular k Q = (z : ℕ → ℚ) → ((r : ℕ) → r < k → sum_ℚ k (λ a. z a *ℚ Q r a) ≡ zero_ℚ) → (a : ℕ) → a < k → z a ≡ zero_ℚ

-- M is the inverse of Q, on both sides: M a r is the weight of column a in the combination that gives the unit column of row r.
pub record AreInverses (k : ℕ) (Q M : Matrix) : Type 0 where
  pub right : (i r : ℕ) → i < k → r < k → sum_ℚ k (λ a. M a r *ℚ Q i a) ≡ delta r i
  pub left : (b a : ℕ) → b < k → a < k → sum_ℚ k (λ r. M b r *ℚ Q r a) ≡ delta b a

-- The weights z combine the columns of Q to b.
abbrev pub Combines : ℕ → Matrix → (ℕ → ℚ) → (ℕ → ℚ) → Type 0
Combines k Q z b = (r : ℕ) → r < k → sum_ℚ k (λ a. z a *ℚ Q r a) ≡ b r

-- The multipliers y of the rows give each column of Q its number in c.
abbrev pub Prices : ℕ → Matrix → (ℕ → ℚ) → (ℕ → ℚ) → Type 0
Prices k Q y c = (a : ℕ) → a < k → sum_ℚ k (λ r. y r *ℚ Q r a) ≡ c a

-- Column `at` of Q becomes c.
pub record IsColumnReplaced (k : ℕ) (Q : Matrix) (at : ℕ) (c : ℕ → ℚ) (Q' : Matrix) : Type 0 where
  pub there : at < k
  pub new : (r : ℕ) → r < k → Q' r at ≡ c r
  pub others : (r a : ℕ) → r < k → a < k → a ≢ at → Q' r a ≡ Q r a

-- Q' is Q·E, where E is the identity but for its row `at`: -1/row[at] in place `at`, and -row[a]/row[at] in each other place a.
pub record IsRowChanged (k : ℕ) (Q : Matrix) (row : ℕ → ℚ) (at : ℕ) (Q' : Matrix) : Type 0 where
  pub there : at < k
  pub not_zero : row at ≢ zero_ℚ
  pub new : (r : ℕ) → r < k → Q' r at *ℚ row at ≡ neg_ℚ (Q r at)
  pub others : (r a : ℕ) → r < k → a < k → a ≢ at → Q' r a ≡ Q r a +ℚ row a *ℚ Q' r at
