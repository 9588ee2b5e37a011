-- States of a program's stage by number, with the columns that the stage has.
-- The laws of the starts, of steps and of verdicts are proved over them.
use Rattle.std.specs.Prelude.{◌≡◌, ◌≢◌, ℕ, ◌<◌, Bool}
use Rattle.nf_num.specs.Rational.{ℚ}
use Rattle.nf_model.specs.Program.{IsAtLeast, IsAtMost}
use Rattle.nf_simplex.specs.Place.{Place, Absent}
use Rattle.nf_simplex.specs.Numbers.{IsValues}
use Rattle.nf_simplex.specs.Lex.{IsLexFeasible}
use Rattle.nf_simplex.specs.Layout.{Layout}
use Rattle.nf_simplex.specs.Columns.{all_columns, col_at, col_lower, col_upper}
use Rattle.nf_simplex.specs.StageOf.{StageNumber, stage_in, IsPresent}

-- Exactly the columns of the stage are present, and the state is lexicographically feasible.
pub record IsState (p : Layout) (n : StageNumber) (negative : ℕ → Bool) (s : ℕ → Place) : Type 0 where
  pub present : (j : ℕ) → j < all_columns p → IsPresent p n (col_at p j) → s j ≢ Absent
  pub absent : (j : ℕ) → j < all_columns p → (IsPresent p n (col_at p j) → ⊥) → s j ≡ Absent
  pub feasible : IsLexFeasible (stage_in p n negative) s

-- Exactly the columns of the stage are present, and x are values within the bounds.
pub record HasValues (p : Layout) (n : StageNumber) (negative : ℕ → Bool) (s : ℕ → Place) (x : ℕ → ℚ) : Type 0 where
  pub present : (j : ℕ) → j < all_columns p → IsPresent p n (col_at p j) → s j ≢ Absent
  pub absent : (j : ℕ) → j < all_columns p → (IsPresent p n (col_at p j) → ⊥) → s j ≡ Absent
  pub are_values : IsValues (stage_in p n negative) s x
  pub within : (j : ℕ) → j < all_columns p → s j ≢ Absent → IsAtLeast (col_lower p (col_at p j)) (x j) × IsAtMost (col_upper p (col_at p j)) (x j)
