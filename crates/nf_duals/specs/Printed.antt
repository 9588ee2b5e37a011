-- What is printed of a state besides its values: its duals, and its total.
-- `printed_duals` and `total` promise it.
use Rattle.std.specs.Prelude.{◌≡◌, ℕ, Bool, true, false, List, length}
use Rattle.nf_num.specs.Rational.{ℚ, zero_ℚ, ◌*ℚ◌}
use Rattle.nf_num.specs.Sum.{sum_ℚ}
use Rattle.nf_model.specs.Program.{LinearProgram, column, at}
use Rattle.nf_sums.specs.Terms.{with_sign}
use Rattle.nf_simplex.specs.Standing.{Standing, PhaseTwo, AreValuesOf, AreDualsOf}
use Rattle.nf_simplex.specs.Verdicts.{IsFactorIn, ArePrintedIn}

-- The duals by row as they are printed, with the factor of the phase-one duals in them: in a state that has ended
-- optimal its factor, and in any other 0, where they are the duals of phase two.
abbrev pub ArePrintedBy : LinearProgram → Standing → Bool → ℚ → List ℚ → Type 0
ArePrintedBy p s true m duals = IsFactorIn p s m × ArePrintedIn p s m (at duals)
ArePrintedBy p s false m duals = (m ≡ zero_ℚ) × AreDualsOf p s PhaseTwo (at duals)

-- t is the cost of the state's values in the program's own sense: a program that maximises has the costs negated.
abbrev pub IsTotalOf : LinearProgram → Standing → ℚ → Type 0
IsTotalOf p s t = (x : ℕ → ℚ) × AreValuesOf p s x × (t ≡ with_sign p.maximizes (sum_ℚ (length p.columns) (λ j. (column p j).cost *ℚ x j)))
