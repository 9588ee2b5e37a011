-- The inverse of a square matrix as weights by slot and row, and what a closure tells of entries, costs and signs.
-- The contracts of `Inverse` speak of it so, over plain numbers.
use Rattle.std.specs.Prelude.{◌≡◌, ◌≢◌, ℕ, ◌<◌, Bool, List, [], length, map, slice_index_or, nat_eq, if◌then◌else◌}
use Rattle.std.specs.declared.alloc.Global.{Global}
use Rattle.std.specs.declared.vec.Vec.{Vec}
use Rattle.nf_num.specs.Rational.{ℚ, zero_ℚ, one_ℚ}
use Rattle.nf_frac.specs.declared.frac.Frac.{Frac}
use Rattle.nf_sums.specs.Terms.{with_sign}

-- The number of a list at a place, and 0 past its end.
abbrev pub at : List ℚ → ℕ → ℚ
at x k = slice_index_or x k zero_ℚ

-- The weights of slot s, by row.
abbrev pub weights_of : List (List ℚ) → ℕ → List ℚ
weights_of w s = slice_index_or w s []

-- The weight of slot s at row i.
abbrev pub weight : List (List ℚ) → ℕ → ℕ → ℚ
weight w s i = at (weights_of w s) i

-- Each slot has as many weights as there are slots.
abbrev pub IsSquare : List (List ℚ) → Type 0
IsSquare w = (s : ℕ) → s < length w → length (weights_of w s) ≡ length w

-- The lists of numbers that stored rows are.
abbrev pub rows_of : List (Vec Frac Global) → List (List ℚ)
rows_of rows = map (λ v. v.items) rows

-- Stored rows are square, and the room for one more row is as long.
pub record AreStored (rows : List (List ℚ)) (room : List ℚ) : Type 0 where
  pub square : IsSquare rows
  pub one_more : length room ≡ length rows

-- The diagonal of 1 and -1.
pub record IsDiagonal (n : ℕ) (negative : ℕ → Bool) (w : List (List ℚ)) : Type 0 where
  pub size : length w ≡ n
  pub weights : (s i : ℕ) → s < n → i < n → weight w s i ≡ (if nat_eq s i then with_sign (negative s) one_ℚ else zero_ℚ)

-- Each number below n gives the sign there.
abbrev pub GivesSign : (ℕ → Bool → Type 0) → ℕ → (ℕ → Bool) → Type 0
GivesSign gives n negative = (k : ℕ) (t : Bool) → k < n → gives k t → t ≡ negative k

-- The numbers below count give the entries of a, over n rows: a row and what a has there. No row comes twice, and a is
-- 0 at all others.
pub record GivesEntries (gives : ℕ → ℕ × ℚ → Type 0) (count n : ℕ) (a : ℕ → ℚ) : Type 0 where
  pub row : ℕ → ℕ
  pub entries : (k : ℕ) (t : ℕ × ℚ) → k < count → gives k t → (t.0 ≡ row k) × (t.1 ≡ a (row k))
  pub within : (k : ℕ) → k < count → row k < n
  pub apart : (j k : ℕ) → j < count → k < count → row j ≡ row k → j ≡ k
  pub rest : (i : ℕ) → i < n → ((k : ℕ) → k < count → row k ≢ i) → a i ≡ zero_ℚ
