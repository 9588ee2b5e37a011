-- The linear program of a stage: rows that are equations, and columns by number.
-- What the numbers of a state are, and what a step is, is said over it.
use Rattle.std.specs.Prelude.{ℕ, ◌+◌, ◌-◌, Option, cond, ltb}
use Rattle.nf_num.specs.Rational.{ℚ}

-- A stage has so many rows and columns, numbered from 0. Its last `sides` rows are side rows. The columns below
-- `entering` are given columns and slacks, which can enter, and the others are artificials. `entry j i` is the entry of
-- column j at row i.
pub record Stage : Type 0 where
  pub rows : ℕ
  pub sides : ℕ
  pub columns : ℕ
  pub entering : ℕ
  pub entry : ℕ → ℕ → ℚ
  pub right : ℕ → ℚ
  pub lower : ℕ → Option ℚ
  pub upper : ℕ → Option ℚ

-- The k-th row where the side rows come first, and then the node rows.
abbrev pub side_first : ℕ → ℕ → ℕ → ℕ
side_first nodes sides k = cond (ltb k sides) (nodes + k) (k - sides)

-- The order of the rows in a column's vector: the side rows come first.
abbrev pub order : Stage → ℕ → ℕ
order S k = side_first (S.rows - S.sides) S.sides k
