-- What a check of a certificate answers: yes with the number that it proves, or the first thing that fails.
use Rattle.std.specs.Prelude.{◌≡◌, ◌-◌, ◌<◌, ℕ, List, length}
use Rattle.nf_num.specs.Rational.{ℚ, zero_ℚ, ◌≤ℚ◌}
use Rattle.nf_model.specs.Program.{LinearProgram, HoldsBelow, IsInBounds, RowHolds, IsFeasible, cost_of, IsBest}
use Rattle.nf_model.specs.Certificate.{combined, CostFits, DualFits, IsValidBest}
use Rattle.nf_model.specs.Farkas.{ColumnIsBounded, DualIsSigned, HasNoFeasible, IsGap, IsValidFarkas}
use Rattle.nf_model.specs.Ray.{HasNoLeastCost, IsFree, IsValidRay, RowKeeps}
use Rattle.nf_model.specs.Failure.{IsFirstFailure}
use Rattle.nf_prob.specs.declared.cert.Cert.{Cert}
use Rattle.nf_prob.specs.declared.cert.Cert.TheVariants.{Best, Farkas, Ray}
use Rattle.nf_prob.specs.declared.cert.Why.{Why}
use Rattle.nf_prob.specs.declared.cert.Why.TheVariants.{Bound, Row, ReducedCost, Dual, Column, Gap, RayColumn, RayRow, Rate}
use Rattle.nf_prob.specs.declared.cert.Checked.{Checked}
use Rattle.nf_prob.specs.declared.cert.Checked.TheVariants.{Yes, No}

-- The lists of a certificate have the program's lengths.
abbrev pub HasLengths : LinearProgram → Cert → Type 0
HasLengths p (Best x y) = (length x ≡ length p.columns) × (length y ≡ length p.rows)
HasLengths p (Farkas y) = length y ≡ length p.rows
HasLengths p (Ray x r) = (length x ≡ length p.columns) × (length r ≡ length p.columns)

-- j is the number from 1 of the first of n places at which P fails.
abbrev pub IsFirst : ℕ → (ℕ → Type 0) → ℕ → Type 0
IsFirst n P j = (0 < j) × IsFirstFailure n P (j - 1)

-- The first thing that makes values infeasible: bounds, then rows, each by number.
abbrev pub FailsFeasible : LinearProgram → List ℚ → Why → Type 0
FailsFeasible p x (Bound j) = IsFirst (length p.columns) (IsInBounds p x) j
FailsFeasible p x (Row i) = HoldsBelow (length p.columns) (IsInBounds p x) × IsFirst (length p.rows) (RowHolds p x) i
FailsFeasible p x _ = ⊥

-- The first thing that fails of values and duals: that the values are feasible, then reduced costs, then duals.
abbrev pub FailsBest : LinearProgram → List ℚ → List ℚ → Why → Type 0
FailsBest p x y (ReducedCost j) = IsFeasible p x × IsFirst (length p.columns) (CostFits p x y) j
FailsBest p x y (Dual i) = IsFeasible p x × HoldsBelow (length p.columns) (CostFits p x y) × IsFirst (length p.rows) (DualFits p x y) i
FailsBest p x y why = FailsFeasible p x why

-- Of Farkas duals: signs, then columns of which the combined rows grow without end, then the gap.
abbrev pub FailsFarkas : LinearProgram → List ℚ → Why → Type 0
FailsFarkas p y (Dual i) = IsFirst (length p.rows) (DualIsSigned p y) i
FailsFarkas p y (Column j) = HoldsBelow (length p.rows) (DualIsSigned p y) × IsFirst (length p.columns) (ColumnIsBounded p (combined p y)) j
FailsFarkas p y (Gap v) = HoldsBelow (length p.rows) (DualIsSigned p y) × IsGap p y v × (v ≤ℚ zero_ℚ)
FailsFarkas p y _ = ⊥

-- Of values and a ray: that the values are feasible, then columns and rows of the ray, then its rate.
abbrev pub FailsRay : LinearProgram → List ℚ → List ℚ → Why → Type 0
FailsRay p x r (RayColumn j) = IsFeasible p x × IsFirst (length p.columns) (IsFree p r) j
FailsRay p x r (RayRow i) = IsFeasible p x × HoldsBelow (length p.columns) (IsFree p r) × IsFirst (length p.rows) (RowKeeps p r) i
FailsRay p x r (Rate v) = IsFeasible p x × HoldsBelow (length p.columns) (IsFree p r) × HoldsBelow (length p.rows) (RowKeeps p r) × (v ≡ cost_of p r) × (zero_ℚ ≤ℚ v)
FailsRay p x r why = FailsFeasible p x why

-- Yes: the values and duals are a valid certificate, so the values are best, and this is their cost.
-- No: they are not valid, and this is the first thing that fails.
abbrev pub IsBestAnswer : LinearProgram → List ℚ → List ℚ → Checked → Type 0
IsBestAnswer p x y (Yes cost) = IsValidBest p x y × IsBest p x × (cost ≡ cost_of p x)
IsBestAnswer p x y (No why) = (IsValidBest p x y → ⊥) × FailsBest p x y why

-- Yes: the duals are a valid Farkas certificate, so nothing is feasible, and this is their gap. No likewise.
abbrev pub IsFarkasAnswer : LinearProgram → List ℚ → Checked → Type 0
IsFarkasAnswer p y (Yes gap) = IsValidFarkas p y × HasNoFeasible p × IsGap p y gap
IsFarkasAnswer p y (No why) = (IsValidFarkas p y → ⊥) × FailsFarkas p y why

-- Yes: the values and the ray are a valid Ray certificate, so feasible costs have no least, and this is the rate.
-- No likewise.
abbrev pub IsRayAnswer : LinearProgram → List ℚ → List ℚ → Checked → Type 0
IsRayAnswer p x r (Yes rate) = IsValidRay p x r × HasNoLeastCost p × (rate ≡ cost_of p r)
IsRayAnswer p x r (No why) = (IsValidRay p x r → ⊥) × FailsRay p x r why

-- So for a certificate.
abbrev pub IsAnswer : LinearProgram → Cert → Checked → Type 0
IsAnswer p (Best x y) = IsBestAnswer p x y
IsAnswer p (Farkas y) = IsFarkasAnswer p y
IsAnswer p (Ray x r) = IsRayAnswer p x r
