-- When duals are a valid certificate that nothing is feasible, its gap, and the law that then nothing is.
-- A check accepts exactly the valid certificates, and INFEASIBLE is told with one.
use Rattle.std.specs.Prelude.{◌≡◌, ◌≢◌, ℕ, List, length, Option, None}
use Rattle.nf_num.specs.Rational.{ℚ, zero_ℚ, ◌*ℚ◌, ◌-ℚ◌, ◌≤ℚ◌, ◌<ℚ◌}
use Rattle.nf_num.specs.Sum.{sum_ℚ}
use Rattle.nf_model.specs.Program.{LinearProgram, column, row, lower_of, upper_of, at, over_columns, IsWithinBounds, IsFeasible, HoldsBelow}
use Rattle.nf_model.specs.Certificate.{combined, IsSigned}

-- No list is feasible.
abbrev pub HasNoFeasible : LinearProgram → Type 0
HasNoFeasible p = (x : List ℚ) → IsFeasible p x → ⊥

-- The right sides' combination by y.
abbrev pub combined_right : LinearProgram → List ℚ → ℚ
combined_right p y = sum_ℚ (length p.rows) (λ i. at y i *ℚ (row p i).right)

-- The dual of row i has the sign of the row's kind.
abbrev pub DualIsSigned : LinearProgram → List ℚ → ℕ → Type 0
DualIsSigned p y i = IsSigned (row p i).kind (at y i)

-- v is the greatest value that the sum of w j times the number of column j has within the bounds.
pub record IsGreatest (p : LinearProgram) (w : ℕ → ℚ) (v : ℚ) : Type 0 where
  pub bound : (x : List ℚ) → IsWithinBounds p x → over_columns p w x ≤ℚ v
  pub reached : (x : List ℚ) × IsWithinBounds p x × (over_columns p w x ≡ v)

-- Duals y are valid where each has its sign, and the combined right sides are greater than the greatest value of the
-- combined rows within the bounds.
pub record IsValidFarkas (p : LinearProgram) (y : List ℚ) : Type 0 where
  pub one_each : length y ≡ length p.rows
  pub signed : HoldsBelow (length p.rows) (DualIsSigned p y)
  pub beyond : (v : ℚ) × IsGreatest p (combined p y) v × (v <ℚ combined_right p y)

-- The gap is by how much they are greater.
abbrev pub IsGap : LinearProgram → List ℚ → ℚ → Type 0
IsGap p y gap = (v : ℚ) × IsGreatest p (combined p y) v × (gap ≡ combined_right p y -ℚ v)

-- ---- the greatest value by columns
-- The multiples by w of numbers within these bounds have a greatest one.
abbrev pub IsBounded : Option ℚ → Option ℚ → ℚ → Type 0
IsBounded lower upper w = (zero_ℚ <ℚ w → upper ≢ None) × (w <ℚ zero_ℚ → lower ≢ None)

-- So have the multiples of the numbers of column j.
abbrev pub ColumnIsBounded : LinearProgram → (ℕ → ℚ) → ℕ → Type 0
ColumnIsBounded p w j = IsBounded (lower_of (column p j)) (upper_of (column p j)) (w j)

-- The law: where there is a valid certificate, nothing is feasible.
abbrev pub ValidFarkasMeansNone : Type 0
ValidFarkasMeansNone = (p : LinearProgram) (y : List ℚ) → IsValidFarkas p y → HasNoFeasible p
