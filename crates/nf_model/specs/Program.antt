-- A linear program in general form: its columns and rows, which lists of numbers are feasible, what they cost,
-- and which are best. What a check accepts, and every verdict on a program, rests on it.
-- Columns, rows and nodes count from 0. A program is minimised; that it maximises is only recorded.
use Rattle.std.specs.Prelude.{◌≡◌, ℕ, ◌<◌, Bool, List, [], length, Option, Some, None, slice_index_or, nat_eq, if◌then◌else◌}
use Rattle.nf_num.specs.Rational.{ℚ, zero_ℚ, ◌*ℚ◌, ◌≤ℚ◌}
use Rattle.nf_num.specs.Sum.{sum_ℚ}
use Rattle.nf_model.specs.declared.RowKind.{RowKind}
use Rattle.nf_model.specs.declared.RowKind.TheVariants.{Eq, Le, Ge}

-- An entry is a number at a row.
pub record Entry : Type 0 where
  pub row : ℕ
  pub value : ℚ

-- A row has a kind and a right side.
pub record Row : Type 0 where
  pub kind : RowKind
  pub right : ℚ

-- The ends of an arc are the nodes that it leads from and to.
pub record Ends : Type 0 where
  pub tail : ℕ
  pub head : ℕ

-- A column has what one unit of it costs, the bounds that it has, its ends where it is an arc, and its entries.
pub record Column : Type 0 where
  pub cost : ℚ
  pub lower : Option ℚ
  pub upper : Option ℚ
  pub ends : Option Ends
  pub entries : List Entry

-- A program has columns and rows. The first `nodes` rows are node rows, and the others are side rows; the first
-- `arcs` columns are arcs, and the others are nonarc variables.
pub record LinearProgram : Type 0 where
  pub columns : List Column
  pub rows : List Row
  pub nodes : ℕ
  pub arcs : ℕ
  pub maximizes : Bool

-- P holds of each number below n.
abbrev pub HoldsBelow : ℕ → (ℕ → Type 0) → Type 0
HoldsBelow n P = (k : ℕ) → k < n → P k

-- ---- the parts of a program
-- Column j.
abbrev pub column : LinearProgram → ℕ → Column
column p j = slice_index_or p.columns j (record { cost = zero_ℚ; lower = None; upper = None; ends = None; entries = [] })

-- Row i.
abbrev pub row : LinearProgram → ℕ → Row
row p i = slice_index_or p.rows i (record { kind = Eq; right = zero_ℚ })

-- The lower bound that a column has, and the upper bound.
abbrev pub lower_of : Column → Option ℚ
lower_of c = c.lower

abbrev pub upper_of : Column → Option ℚ
upper_of c = c.upper

-- The k-th entry of a list.
abbrev pub entry : List Entry → ℕ → Entry
entry es k = slice_index_or es k (record { row = 0; value = zero_ℚ })

-- What a list of entries has at row i: the sum of the values of those at this row.
unfoldable pub entry_at : List Entry → ℕ → ℚ
entry_at es i = sum_ℚ (length es) (λ k. if nat_eq (entry es k).row i then (entry es k).value else zero_ℚ)

-- The coefficient of row i in column j.
abbrev pub coefficient : LinearProgram → ℕ → ℕ → ℚ
coefficient p i j = entry_at (column p j).entries i

-- The number of a list at a place.
abbrev pub at : List ℚ → ℕ → ℚ
at x j = slice_index_or x j zero_ℚ

-- The sum of one list of numbers times another, over all columns.
abbrev pub over_columns : LinearProgram → (ℕ → ℚ) → List ℚ → ℚ
over_columns p w x = sum_ℚ (length p.columns) (λ j. w j *ℚ at x j)

-- ---- feasible, cost, best
-- A number is at least the lower bound, where there is one.
abbrev pub IsAtLeast : Option ℚ → ℚ → Type 0
IsAtLeast None v = Unit {0}
IsAtLeast (Some l) v = l ≤ℚ v

-- A number is at most the upper bound, where there is one.
abbrev pub IsAtMost : Option ℚ → ℚ → Type 0
IsAtMost None v = Unit {0}
IsAtMost (Some u) v = v ≤ℚ u

-- Column j's number is within the column's bounds.
abbrev pub IsInBounds : LinearProgram → List ℚ → ℕ → Type 0
IsInBounds p x j = IsAtLeast (lower_of (column p j)) (at x j) × IsAtMost (upper_of (column p j)) (at x j)

-- There is one number for each column, and each is within its column's bounds.
pub record IsWithinBounds (p : LinearProgram) (x : List ℚ) : Type 0 where
  pub one_each : length x ≡ length p.columns
  pub in_bounds : HoldsBelow (length p.columns) (IsInBounds p x)

-- A sum stands in a row's relation to a number.
abbrev pub Stands : RowKind → ℚ → ℚ → Type 0
Stands Eq s b = s ≡ b
Stands Le s b = s ≤ℚ b
Stands Ge s b = b ≤ℚ s

-- The sum of row i: its coefficients times the numbers.
abbrev pub row_sum : LinearProgram → List ℚ → ℕ → ℚ
row_sum p x i = over_columns p (coefficient p i) x

-- Row i's sum stands in the row's relation to its right side.
abbrev pub RowHolds : LinearProgram → List ℚ → ℕ → Type 0
RowHolds p x i = Stands (row p i).kind (row_sum p x i) (row p i).right

-- A list is feasible where its numbers are within the bounds and every row holds.
pub record IsFeasible (p : LinearProgram) (x : List ℚ) : Type 0 where
  pub within : IsWithinBounds p x
  pub rows_hold : HoldsBelow (length p.rows) (RowHolds p x)

-- The cost of a list is the sum of cost times number.
abbrev pub cost_of : LinearProgram → List ℚ → ℚ
cost_of p x = over_columns p (λ j. (column p j).cost) x

-- A list is best where it is feasible and every feasible list costs at least as much.
pub record IsBest (p : LinearProgram) (x : List ℚ) : Type 0 where
  pub feasible : IsFeasible p x
  pub least : (other : List ℚ) → IsFeasible p other → cost_of p x ≤ℚ cost_of p other
