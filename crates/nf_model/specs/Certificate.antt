-- When values and duals are a valid certificate that the values are best, and the law that they then are.
-- A check accepts exactly the valid certificates.
use Rattle.std.specs.Prelude.{◌≡◌, ◌≢◌, ℕ, List, length, Option, Some}
use Rattle.nf_num.specs.Rational.{ℚ, zero_ℚ, ◌*ℚ◌, ◌-ℚ◌, ◌≤ℚ◌, ◌<ℚ◌}
use Rattle.nf_num.specs.Sum.{sum_ℚ}
use Rattle.nf_model.specs.declared.RowKind.{RowKind}
use Rattle.nf_model.specs.declared.RowKind.TheVariants.{Eq, Le, Ge}
use Rattle.nf_model.specs.Program.{LinearProgram, column, row, lower_of, upper_of, coefficient, at, row_sum, IsFeasible, IsBest, HoldsBelow}

-- Column j of the rows' combination by y.
abbrev pub combined : LinearProgram → List ℚ → ℕ → ℚ
combined p y j = sum_ℚ (length p.rows) (λ i. at y i *ℚ coefficient p i j)

-- The reduced cost of column j: its cost less its column of the combination.
abbrev pub reduced_cost : LinearProgram → List ℚ → ℕ → ℚ
reduced_cost p y j = (column p j).cost -ℚ combined p y j

-- A dual has the sign of its row's kind: at most 0 at an LE row, at least 0 at a GE row.
abbrev pub IsSigned : RowKind → ℚ → Type 0
IsSigned Eq y = Unit {0}
IsSigned Le y = y ≤ℚ zero_ℚ
IsSigned Ge y = zero_ℚ ≤ℚ y

-- d is positive only where v stands at a lower bound, and negative only where it stands at an upper bound.
abbrev pub IsSignedByBounds : ℚ → Option ℚ → Option ℚ → ℚ → Type 0
IsSignedByBounds d lower upper v = (zero_ℚ <ℚ d → lower ≡ Some v) × (d <ℚ zero_ℚ → upper ≡ Some v)

-- So is the reduced cost of column j, for the column's number.
abbrev pub CostFits : LinearProgram → List ℚ → List ℚ → ℕ → Type 0
CostFits p x y j = IsSignedByBounds (reduced_cost p y j) (lower_of (column p j)) (upper_of (column p j)) (at x j)

-- A dual has its sign, and at an LE or GE row it is not 0 only where the row's sum is its right side.
abbrev pub IsComplementary : RowKind → ℚ → ℚ → ℚ → Type 0
IsComplementary kind sum right y = IsSigned kind y × (kind ≢ Eq → y ≢ zero_ℚ → sum ≡ right)

-- So is the dual of row i.
abbrev pub DualFits : LinearProgram → List ℚ → List ℚ → ℕ → Type 0
DualFits p x y i = IsComplementary (row p i).kind (row_sum p x i) (row p i).right (at y i)

-- Values x and duals y are valid where x is feasible, each reduced cost fits its column's number, and each dual
-- fits its row.
pub record IsValidBest (p : LinearProgram) (x y : List ℚ) : Type 0 where
  pub feasible : IsFeasible p x
  pub one_each : length y ≡ length p.rows
  pub costs_fit : HoldsBelow (length p.columns) (CostFits p x y)
  pub duals_fit : HoldsBelow (length p.rows) (DualFits p x y)

-- The law: the values of a valid certificate are best.
abbrev pub ValidBestIsBest : Type 0
ValidBestIsBest = (p : LinearProgram) (x y : List ℚ) → IsValidBest p x y → IsBest p x
