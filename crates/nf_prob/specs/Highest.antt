-- Where a sum over the columns is greatest within the bounds, column by column.
-- The gap that `verify` answers for Farkas duals rests on it, and the row of terms that the gap comes from.
use Rattle.std.specs.Prelude.{ℕ, length, Option, Some, None}
use Rattle.std.proofs.Common.{⊎_elim}
use Rattle.nf_num.specs.Rational.{ℚ, zero_ℚ, ◌*ℚ◌}
use Rattle.nf_num.specs.Sum.{sum_ℚ}
use Rattle.nf_num.proofs.Laws.{le_or_lt}
use Rattle.nf_model.specs.Program.{LinearProgram, column, lower_of, upper_of}

-- A bound, and 0 where there is none.
abbrev pub bound_or_zero : Option ℚ → ℚ
bound_or_zero None = zero_ℚ
bound_or_zero (Some b) = b

-- Where w times a number within these bounds is greatest: at the upper bound for a positive w, at the lower bound for
-- a negative w, and say at 0 where w is 0.
unfoldable pub highest : Option ℚ → Option ℚ → ℚ → ℚ
highest lower upper w = ⊎_elim (λ _. ⊎_elim (λ _. zero_ℚ) (λ _. bound_or_zero lower) (le_or_lt zero_ℚ w)) (λ _. bound_or_zero upper) (le_or_lt w zero_ℚ)

-- Where w j times the number of column j is greatest.
abbrev pub highest_at : LinearProgram → (ℕ → ℚ) → ℕ → ℚ
highest_at p w j = highest (lower_of (column p j)) (upper_of (column p j)) (w j)

-- The sum of these greatest multiples.
abbrev pub highest_sum : LinearProgram → (ℕ → ℚ) → ℚ
highest_sum p w = sum_ℚ (length p.columns) (λ j. w j *ℚ highest_at p w j)
