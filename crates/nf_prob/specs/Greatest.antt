-- What the check of a Farkas certificate finds of the greatest value of the combined rows.
-- The gap that `verify` answers rests on it, and the column that it tells where there is no greatest value.
use Rattle.std.specs.Prelude.{◌≡◌, ℕ, List, length}
use Rattle.nf_num.specs.Rational.{ℚ}
use Rattle.nf_model.specs.Program.{LinearProgram}
use Rattle.nf_model.specs.Certificate.{combined}
use Rattle.nf_model.specs.Farkas.{ColumnIsBounded, IsGreatest}
use Rattle.nf_prob.specs.declared.farkas.Greatest.{Greatest}
use Rattle.nf_prob.specs.declared.farkas.Greatest.TheVariants.{Value, Missing}
use Rattle.nf_prob.specs.declared.farkas.Share.{Share}
use Rattle.nf_prob.specs.Highest.{highest_at, highest_sum}
use Rattle.nf_prob.specs.Verdict.{IsFirst}

-- The share is w j, and the place at which w j times the number of column j is greatest.
pub record IsShare (p : LinearProgram) (w : ℕ → ℚ) (j : ℕ) (s : Share) : Type 0 where
  pub bounded : ColumnIsBounded p w j
  pub weight : s.weight ≡ w j
  pub place : s.place ≡ highest_at p w j

-- The greatest value, which is the sum of the columns' greatest multiples; or the first column that is not bounded.
abbrev pub IsGreatestAnswer : LinearProgram → List ℚ → Greatest → Type 0
IsGreatestAnswer p y (Value v) = IsGreatest p (combined p y) v × (v ≡ highest_sum p (combined p y))
IsGreatestAnswer p y (Missing j) = IsFirst (length p.columns) (ColumnIsBounded p (combined p y)) j
