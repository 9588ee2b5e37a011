-- The lists that prove how a state has ended: values, printed duals, the duals of an infeasible state, and the ray of
-- an unbounded one.
-- The certificates of the verdicts are these lists, and they are valid.
use Rattle.std.specs.Prelude.{◌≡◌, ℕ, List, length, Bool}
use Rattle.nf_num.specs.Rational.{ℚ, ◌*ℚ◌, ◌-ℚ◌}
use Rattle.nf_num.specs.Sum.{sum_ℚ, delta}
use Rattle.nf_model.specs.Program.{LinearProgram, HoldsBelow}
use Rattle.nf_model.specs.Lists.{list_of}
use Rattle.nf_simplex.specs.Lists.{padded}
use Rattle.nf_simplex.specs.Step.{signed}
use Rattle.nf_simplex.specs.Ends.{IsFactor, printed}
use Rattle.nf_simplex.specs.Layout.{layout_of}
use Rattle.nf_simplex.specs.Columns.{Col, all_columns}
use Rattle.nf_simplex.specs.Standing.{Standing, number_in, place_at, stage_of, rows_of, PhaseOne, PhaseTwo, costs_of, AreValuesOf, AreEntriesOf, AreDualsOf, reduced_in}
use Rattle.nf_simplex.specs.Moves.{Prices}

-- The sum of the artificials.
abbrev pub artificial_sum : LinearProgram → (ℕ → ℚ) → ℚ
artificial_sum p x = sum_ℚ (all_columns (layout_of p)) (λ j. costs_of p PhaseOne j *ℚ x j)

-- m is the factor of the phase-one duals in the printed duals of a state that has ended optimal.
abbrev pub IsFactorIn : LinearProgram → Standing → ℚ → Type 0
IsFactorIn p s m = (n : Prices p s) × IsFactor (stage_of p s) (place_at s) (reduced_in p s PhaseOne n.one) (reduced_in p s PhaseTwo n.two) m

-- y are the printed duals by row, with this factor.
abbrev pub ArePrintedIn : LinearProgram → Standing → ℚ → (ℕ → ℚ) → Type 0
ArePrintedIn p s m y = (n : Prices p s) × HoldsBelow (rows_of p s) (λ i. y i ≡ printed n.one n.two m i)

-- The list of the values of the given columns.
abbrev pub AreGivenValues : LinearProgram → Standing → List ℚ → Type 0
AreGivenValues p s xs = (x : ℕ → ℚ) × AreValuesOf p s x × (xs ≡ list_of (length p.columns) x)

-- A list with a number for each row of the program: y, and 0 for the rows that the stage lacks.
abbrev pub IsRowList : LinearProgram → Standing → (ℕ → ℚ) → List ℚ → Type 0
IsRowList p s y ys = ys ≡ list_of (length p.rows) (padded (rows_of p s) y)

-- The list of the printed duals of a state that has ended optimal.
abbrev pub ArePrintedDuals : LinearProgram → Standing → List ℚ → Type 0
ArePrintedDuals p s ys = (m : ℚ) × IsFactorIn p s m × ((y : ℕ → ℚ) × ArePrintedIn p s m y × IsRowList p s y ys)

-- The list of the phase-one duals.
abbrev pub AreFarkasDuals : LinearProgram → Standing → List ℚ → Type 0
AreFarkasDuals p s ys = (y : ℕ → ℚ) × AreDualsOf p s PhaseOne y × IsRowList p s y ys

-- What column j does while column c moves by 1 in this direction: c itself moves, basic columns by their weights w in
-- it, and the others stand.
abbrev pub move_of : LinearProgram → Col → Bool → (ℕ → ℚ) → ℕ → ℚ
move_of p c down w j = signed down (delta (number_in p c) j -ℚ w j)

-- The list of what the given columns do so.
abbrev pub AreMoves : LinearProgram → Standing → Col → Bool → List ℚ → Type 0
AreMoves p s c down rs = (w : ℕ → ℚ) × AreEntriesOf p s c w × (rs ≡ list_of (length p.columns) (move_of p c down w))
