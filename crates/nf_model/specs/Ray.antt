-- When feasible values and a direction are a valid certificate that costs have no least, and the law that then they
-- have none.
-- A check accepts exactly the valid certificates, and UNBOUNDED is told with one.
use Rattle.std.specs.Prelude.{◌≡◌, ℕ, List, length, Option, None}
use Rattle.nf_num.specs.Rational.{ℚ, zero_ℚ, ◌<ℚ◌}
use Rattle.nf_model.specs.Program.{LinearProgram, column, row, lower_of, upper_of, at, Stands, row_sum, IsFeasible, cost_of, HoldsBelow}

-- The costs of feasible lists have no least: there is one below each number.
abbrev pub HasNoLeastCost : LinearProgram → Type 0
HasNoLeastCost p = (bound : ℚ) → (x : List ℚ) × IsFeasible p x × (cost_of p x <ℚ bound)

-- d is positive only where there is no upper bound, and negative only where there is no lower bound.
abbrev pub IsUnstopped : ℚ → Option ℚ → Option ℚ → Type 0
IsUnstopped d lower upper = (zero_ℚ <ℚ d → upper ≡ None) × (d <ℚ zero_ℚ → lower ≡ None)

-- No bound of column j stops the direction r.
abbrev pub IsFree : LinearProgram → List ℚ → ℕ → Type 0
IsFree p r j = IsUnstopped (at r j) (lower_of (column p j)) (upper_of (column p j))

-- The direction r keeps row i: its sum stands to 0 in the row's relation.
abbrev pub RowKeeps : LinearProgram → List ℚ → ℕ → Type 0
RowKeeps p r i = Stands (row p i).kind (row_sum p r i) zero_ℚ

-- Values x and a direction r are valid where x is feasible, no bound stops r, r keeps every row and lowers the cost.
pub record IsValidRay (p : LinearProgram) (x r : List ℚ) : Type 0 where
  pub feasible : IsFeasible p x
  pub one_each : length r ≡ length p.columns
  pub free : HoldsBelow (length p.columns) (IsFree p r)
  pub rows_keep : HoldsBelow (length p.rows) (RowKeeps p r)
  pub lowers : cost_of p r <ℚ zero_ℚ

-- The law: where there is a valid certificate, costs have no least.
abbrev pub ValidRayMeansNoLeast : Type 0
ValidRayMeansNoLeast = (p : LinearProgram) (x r : List ℚ) → IsValidRay p x r → HasNoLeastCost p
