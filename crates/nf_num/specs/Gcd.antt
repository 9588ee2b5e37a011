-- The greatest common divisor, by Euclid (Elements, VII.2).
-- That fractions stand in lowest terms rests on it.
use Rattle.std.specs.Prelude.{ℕ, zero, suc, ◌%◌}

-- Euclid's rule, so many times at most: the divisors of a and b are those of b and the rest of a by b. A fuel above b is enough.
unfoldable pub gcd_in : ℕ → ℕ → ℕ → ℕ
gcd_in zero a b = a
gcd_in (suc fuel) a zero = a
gcd_in (suc fuel) a (suc b) = gcd_in fuel (suc b) (a % suc b)

-- The greatest common divisor of a and b; that of 0 and 0 is 0.
unfoldable pub gcd : ℕ → ℕ → ℕ
gcd a b = gcd_in (suc b) a b
