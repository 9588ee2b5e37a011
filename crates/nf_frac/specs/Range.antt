-- The range of a fraction's parts, and when an operation on two fractions leaves it.
-- That `Frac::add`, `sub`, `mul` and `div` answer `Passed` exactly where they must rests on these words.
use Rattle.std.specs.Prelude.{ℕ, ◌*◌, ◌/◌, ◌^◌, ◌<◌, ◌≡◌, ℤ, pos, ◌+ℤ◌, ◌*ℤ◌, unsigned_abs, int_div}
use Rattle.nf_num.specs.Gcd.{gcd}
use Rattle.nf_num.specs.Rational.{ℚ, numer, denom, neg_ℚ, inv_ℚ}
use Rattle.nf_frac.specs.declared.passed.Op.{Op}
use Rattle.nf_frac.specs.declared.passed.Op.TheVariants.{Add, Sub, Mul, Div}

-- A magnitude of at most 2^127 - 1.
abbrev pub InRange : ℤ → Type 0
InRange z = unsigned_abs z < 2 ^ 127

-- A fraction's parts: in range, and in lowest terms with a denominator above 0.
pub record AreParts (n : ℤ) (d : ℕ) : Type 0 where
  pub num_in_range : InRange n
  pub den_in_range : d < 2 ^ 127
  pub positive : 0 < d
  pub lowest : gcd (unsigned_abs n) d ≡ 1

-- a * d + c * b: both products and their sum stay in range.
pub record CrossFits (a : ℤ) (d : ℕ) (c : ℤ) (b : ℕ) : Type 0 where
  pub left : InRange (a *ℤ pos d)
  pub right : InRange (c *ℤ pos b)
  pub sum : InRange (a *ℤ pos d +ℤ c *ℤ pos b)

-- x + y is in range: for a/b + c/d with g = gcd(b, d) the numbers a * (d/g), c * (b/g), their sum and (b/g) * d are.
pub record SumFits (x y : ℚ) : Type 0 where
  pub numerator : CrossFits (numer x) (denom y / gcd (denom x) (denom y)) (numer y) (denom x / gcd (denom x) (denom y))
  pub denominator : denom x / gcd (denom x) (denom y) * denom y < 2 ^ 127

-- x * y is in range: for a/b * c/d, with a and d, and c and b, divided by their gcd, the products of the numerators and of the denominators are.
pub record ProductFits (x y : ℚ) : Type 0 where
  pub numerator : InRange (int_div (numer x) (pos (gcd (unsigned_abs (numer x)) (denom y))) *ℤ int_div (numer y) (pos (gcd (unsigned_abs (numer y)) (denom x))))
  pub denominator : denom x / gcd (unsigned_abs (numer y)) (denom x) * (denom y / gcd (unsigned_abs (numer x)) (denom y)) < 2 ^ 127

-- The operation on x and y leaves the range. A difference is the sum with -y, a quotient the product with 1/y.
abbrev pub Passes : Op → ℚ → ℚ → Type 0
Passes Add x y = ¬ (SumFits x y)
Passes Sub x y = ¬ (SumFits x (neg_ℚ y))
Passes Mul x y = ¬ (ProductFits x y)
Passes Div x y = ¬ (ProductFits x (inv_ℚ y))
