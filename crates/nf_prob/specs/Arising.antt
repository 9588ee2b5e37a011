-- The rows of terms that count in a check: rests of rows, reduced costs, sums of rows, and totals, with the
-- certificate's numbers. `verify` answers Passed only for an operation that arises in one of them.
use Rattle.std.specs.Prelude.{◌≡◌, ℕ, ◌<◌, List, length}
use Rattle.nf_num.specs.Rational.{ℚ}
use Rattle.nf_model.specs.Program.{LinearProgram, column, row, coefficient, at}
use Rattle.nf_model.specs.Certificate.{combined}
use Rattle.nf_prob.specs.declared.cert.Cert.{Cert}
use Rattle.nf_prob.specs.declared.cert.Cert.TheVariants.{Best, Farkas, Ray}
use Rattle.nf_prob.specs.Highest.{highest_at}
use Rattle.nf_sums.specs.Terms.{Terms}
use Rattle.nf_sums.specs.Rows.{gap_terms, product_terms, rest_terms, reduced_cost_terms, total_terms}

-- The reduced cost of column j by the duals y: its cost, and -y * a for each row.
abbrev pub cost_row : LinearProgram → List ℚ → ℕ → Terms
cost_row p y j = reduced_cost_terms (column p j).cost (length p.rows) (at y) (λ i. coefficient p i j)

-- The total cost of x: cost times number for each column.
abbrev pub total_row : LinearProgram → List ℚ → Terms
total_row p x = total_terms (length p.columns) (λ j. (column p j).cost) (at x)

-- One of the rows that count in a check of values x and duals y.
pub data BestTerms (p : LinearProgram) (x y : List ℚ) : Terms → Type 0 where
  rest : (i : ℕ) → i < length p.rows → BestTerms p x y (rest_terms (row p i).right (length p.columns) (coefficient p i) (at x))
  reduced_cost : (j : ℕ) → j < length p.columns → BestTerms p x y (cost_row p y j)
  cost : BestTerms p x y (total_row p x)

-- The gap of the duals y: y times the right side for each row, and for each column the negated combination times the
-- place at which the combination's multiple is greatest.
abbrev pub gap_row : LinearProgram → List ℚ → Terms
gap_row p y = gap_terms (length p.rows) (at y) (λ i. (row p i).right) (length p.columns) (combined p y) (highest_at p (combined p y))

-- Column j of the rows' combination by the duals y: y times the coefficient for each row.
abbrev pub combined_row : LinearProgram → List ℚ → ℕ → Terms
combined_row p y j = total_terms (length p.rows) (at y) (λ i. coefficient p i j)

-- One of the rows that count in a check of Farkas duals y.
pub data FarkasTerms (p : LinearProgram) (y : List ℚ) : Terms → Type 0 where
  combination : (j : ℕ) → j < length p.columns → FarkasTerms p y (combined_row p y j)
  gap : FarkasTerms p y (gap_row p y)

-- One of the rows that count in a check of values x and a ray r.
pub data RayTerms (p : LinearProgram) (x r : List ℚ) : Terms → Type 0 where
  rest : (i : ℕ) → i < length p.rows → RayTerms p x r (rest_terms (row p i).right (length p.columns) (coefficient p i) (at x))
  ray_row : (i : ℕ) → i < length p.rows → RayTerms p x r (total_terms (length p.columns) (coefficient p i) (at r))
  rate : RayTerms p x r (total_row p r)

-- One of the rows that count in a check of a certificate.
abbrev pub CheckTerms : LinearProgram → Cert → Terms → Type 0
CheckTerms p (Best x y) = BestTerms p x y
CheckTerms p (Farkas y) = FarkasTerms p y
CheckTerms p (Ray x r) = RayTerms p x r

-- ---- the same for the parts of a check
-- The products of a row's coefficients and x.
abbrev pub RowTerms : LinearProgram → List ℚ → Terms → Type 0
RowTerms p x t = (i : ℕ) × (i < length p.rows) × (t ≡ product_terms (length p.columns) (coefficient p i) (at x))

-- The reduced cost of a column.
abbrev pub CostTerms : LinearProgram → List ℚ → Terms → Type 0
CostTerms p y t = (j : ℕ) × (j < length p.columns) × (t ≡ cost_row p y j)

-- A column of the rows' combination.
abbrev pub CombinedTerms : LinearProgram → List ℚ → Terms → Type 0
CombinedTerms p y t = (j : ℕ) × (j < length p.columns) × (t ≡ combined_row p y j)

-- The total cost.
abbrev pub TotalTerms : LinearProgram → List ℚ → Terms → Type 0
TotalTerms p x t = t ≡ total_row p x

-- The combined right sides.
abbrev pub RightTerms : LinearProgram → List ℚ → Terms → Type 0
RightTerms p y t = t ≡ product_terms (length p.rows) (at y) (λ i. (row p i).right)
