-- Lists of numbers by row, where a stage may lack rows.
-- The duals of a certificate are such lists.
use Rattle.std.specs.Prelude.{ℕ, cond, ltb}
use Rattle.nf_num.specs.Rational.{ℚ, zero_ℚ}

-- y below m, and 0 from there on.
abbrev pub padded : ℕ → (ℕ → ℚ) → ℕ → ℚ
padded m y i = cond (ltb i m) (y i) zero_ℚ
