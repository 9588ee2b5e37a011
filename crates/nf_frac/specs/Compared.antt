-- What a comparison says of two numbers.
-- The promises of `Frac::cmp` and of `==` rest on these words.
use Rattle.std.specs.Prelude.{ℕ, ◌<◌, ℤ, ◌<ℤ◌, ◌≡◌, ◌==◌, ◌&&◌, Bool}
use Rattle.std.specs.Ordering.{int_eq}
use Rattle.std.specs.declared.cmp.Ordering.{Ordering}
use Rattle.std.specs.declared.cmp.Ordering.TheVariants.{Less, Equal, Greater}
use Rattle.nf_num.specs.Rational.{ℚ, numer, denom, ◌<ℚ◌}

-- An order of two numbers.
abbrev pub IsOrder : Ordering → ℚ → ℚ → Type 0
IsOrder Less x y = x <ℚ y
IsOrder Equal x y = x ≡ y
IsOrder Greater x y = y <ℚ x

-- An order of two natural numbers.
abbrev pub IsNatOrder : Ordering → ℕ → ℕ → Type 0
IsNatOrder Less m n = m < n
IsNatOrder Equal m n = m ≡ n
IsNatOrder Greater m n = n < m

-- An order of two whole numbers.
abbrev pub IsIntOrder : Ordering → ℤ → ℤ → Type 0
IsIntOrder Less m n = m <ℤ n
IsIntOrder Equal m n = m ≡ n
IsIntOrder Greater m n = n <ℤ m

-- Whether two numbers are the same, by their parts.
abbrev pub is_same : ℚ → ℚ → Bool
is_same x y = int_eq (numer x) (numer y) && denom x == denom y
