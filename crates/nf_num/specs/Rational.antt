-- The rational numbers: a numerator, and a denominator above 0, in lowest terms. So equal numbers have equal parts.
-- Every promise about numbers rests on them. That they are an ordered field is the contract of `ordered_field`.
-- The fields are private: what is known of a number are the laws below and in proofs/.
use Rattle.std.specs.Prelude.{ℕ, zero, suc, ◌*◌, ◌/◌, ◌≡◌, Bool, true, false, ◌&&◌, T, eqb, ltb, ℤ, pos, negsuc, ◌+ℤ◌, ◌*ℤ◌, neg_ℤ, nat_abs, int_div, ◌≤ℤ◌, ◌<ℤ◌, ◌↔◌}
use mathlib.Core.Path.{refl, sym, subst, ap}
use mathlib.Core.HLevel.{is_prop→PathP}
use lib.Dec.{T_prop}
use lib.Signed.{le_z, lt_z}
use Rattle.nf_num.specs.Gcd.{gcd, gcd_in}

-- Whether n / d is in lowest terms with d above 0.
unfoldable pub is_lowest : ℤ → ℕ → Bool
is_lowest n d = ltb 0 d && eqb (gcd (nat_abs n) d) 1

-- A rational number.
pub record ℚ : Type 0 where
  top : ℤ
  bottom : ℕ
  lowest : T (is_lowest top bottom)

-- The numerator.
pub numer : ℚ → ℤ
numer q = q.top

-- The denominator, above 0.
pub denom : ℚ → ℕ
denom q = q.bottom

-- Each number is in lowest terms.
pub lowest_of : (q : ℚ) → T (is_lowest (numer q) (denom q))
unfolding numer denom
lowest_of q = q.lowest

-- The number of a numerator and a denominator in lowest terms.
pub lowest_terms : (n : ℤ) (d : ℕ) → T (is_lowest n d) → ℚ
lowest_terms n d h = record { top = n; bottom = d; lowest = h }

-- It has this numerator,
pub numer-lowest_terms : (n : ℤ) (d : ℕ) (h : T (is_lowest n d)) → numer (lowest_terms n d h) ≡ n
unfolding numer lowest_terms
numer-lowest_terms n d h = refl

-- and this denominator.
pub denom-lowest_terms : (n : ℤ) (d : ℕ) (h : T (is_lowest n d)) → denom (lowest_terms n d h) ≡ d
unfolding denom lowest_terms
denom-lowest_terms n d h = refl

-- Numbers of equal parts are equal.
pub same_parts : (x y : ℚ) → numer x ≡ numer y → denom x ≡ denom y → x ≡ y
unfolding numer denom
same_parts x y p q = λ i. record { top = p i; bottom = q i; lowest = is_prop→PathP (λ j. T (is_lowest (p j) (q j))) (λ j. T_prop (is_lowest (p j) (q j))) x.lowest y.lowest i }

-- n divided by k, rounded toward 0.
abbrev pub quotient_ℤ : ℤ → ℕ → ℤ
quotient_ℤ n k = int_div n (pos k)

-- n / d where a test has found it in lowest terms, and else 0.
from_test : (n : ℤ) (d : ℕ) (b : Bool) → is_lowest n d ≡ b → ℚ
unfolding is_lowest gcd gcd_in
from_test n d true e = lowest_terms n d (subst T (sym e) tt)
from_test n d false e = lowest_terms (pos 0) 1 tt

-- n / d in lowest terms, and 0 where d is 0.
pub frac : ℤ → ℕ → ℚ
frac n d =
    let g : ℕ = gcd (nat_abs n) d in
    from_test (quotient_ℤ n g) (d / g) (is_lowest (quotient_ℤ n g) (d / g)) refl

-- Its parts are n and d divided by their greatest common divisor.
pub frac-parts : (n : ℤ) (d : ℕ) → T (is_lowest (quotient_ℤ n (gcd (nat_abs n) d)) (d / gcd (nat_abs n) d)) → (numer (frac n d) ≡ quotient_ℤ n (gcd (nat_abs n) d)) × (denom (frac n d) ≡ d / gcd (nat_abs n) d)
unfolding frac from_test
frac-parts n d h = go (quotient_ℤ n (gcd (nat_abs n) d)) (d / gcd (nat_abs n) d) (is_lowest (quotient_ℤ n (gcd (nat_abs n) d)) (d / gcd (nat_abs n) d)) refl h
  where
    go : (m : ℤ) (k : ℕ) (b : Bool) (e : is_lowest m k ≡ b) → T (is_lowest m k) → (numer (from_test m k b e) ≡ m) × (denom (from_test m k b e) ≡ k)
    go m k true e t = (numer-lowest_terms m k (subst T (sym e) tt), denom-lowest_terms m k (subst T (sym e) tt))
    go m k false e t = absurd (subst T e t)

-- A whole number.
unfoldable pub of_ℤ : ℤ → ℚ
of_ℤ n = frac n 1

-- 0.
abbrev pub zero_ℚ : ℚ
zero_ℚ = of_ℤ (pos 0)

-- 1.
abbrev pub one_ℚ : ℚ
one_ℚ = of_ℤ (pos 1)

infixl 60 ◌+ℚ◌ ◌-ℚ◌
infixl 70 ◌*ℚ◌
infix 50 ◌≤ℚ◌ ◌<ℚ◌
-- The sum.
unfoldable pub ◌+ℚ◌ : ℚ → ℚ → ℚ
x +ℚ y = frac (numer x *ℤ pos (denom y) +ℤ numer y *ℤ pos (denom x)) (denom x * denom y)

-- The product.
unfoldable pub ◌*ℚ◌ : ℚ → ℚ → ℚ
x *ℚ y = frac (numer x *ℤ numer y) (denom x * denom y)

-- The negation.
unfoldable pub neg_ℚ : ℚ → ℚ
neg_ℚ x = frac (neg_ℤ (numer x)) (denom x)

-- The difference.
abbrev pub ◌-ℚ◌ : ℚ → ℚ → ℚ
x -ℚ y = x +ℚ neg_ℚ y

-- d / n, with the sign on top.
inverted : ℤ → ℕ → ℚ
inverted (pos zero) d = frac (pos 0) 1
inverted (pos (suc n)) d = frac (pos d) (suc n)
inverted (negsuc n) d = frac (neg_ℤ (pos d)) (suc n)

-- 1 / x, and 0 where x is 0.
pub inv_ℚ : ℚ → ℚ
inv_ℚ x = inverted (numer x) (denom x)

-- What it is above 0, and below.
pub inv_ℚ-is : (x : ℚ) → ((n : ℕ) → numer x ≡ pos (suc n) → inv_ℚ x ≡ frac (pos (denom x)) (suc n)) × ((n : ℕ) → numer x ≡ negsuc n → inv_ℚ x ≡ frac (neg_ℤ (pos (denom x))) (suc n))
unfolding inv_ℚ inverted
inv_ℚ-is x = (λ n e. ap (λ (z : ℤ). inverted z (denom x)) e, λ n e. ap (λ (z : ℤ). inverted z (denom x)) e)

-- x is at most y, by the products crosswise. A type of its own, so that `x ≤ℚ y` shows x and y.
pub record ◌≤ℚ◌ (x y : ℚ) : Type 0 where
  crosswise : (numer x *ℤ pos (denom y)) ≤ℤ (numer y *ℤ pos (denom x))

-- x is less than y.
pub record ◌<ℚ◌ (x y : ℚ) : Type 0 where
  crosswise : (numer x *ℤ pos (denom y)) <ℤ (numer y *ℤ pos (denom x))

-- The order is that of the products crosswise.
pub le_cross : (x y : ℚ) → (x ≤ℚ y) ↔ ((numer x *ℤ pos (denom y)) ≤ℤ (numer y *ℤ pos (denom x)))
le_cross x y = (λ h. h.crosswise, λ h. record { crosswise = h })

pub lt_cross : (x y : ℚ) → (x <ℚ y) ↔ ((numer x *ℤ pos (denom y)) <ℤ (numer y *ℤ pos (denom x)))
lt_cross x y = (λ h. h.crosswise, λ h. record { crosswise = h })

-- There is at most one proof of an order.
pub le_prop : (x y : ℚ) → IsProp (x ≤ℚ y)
le_prop x y h k = λ i. record { crosswise = record { le = T_prop (le_z (numer x *ℤ pos (denom y)) (numer y *ℤ pos (denom x))) h.crosswise.le k.crosswise.le i } }

pub lt_prop : (x y : ℚ) → IsProp (x <ℚ y)
lt_prop x y h k = λ i. record { crosswise = record { lt = T_prop (lt_z (numer x *ℤ pos (denom y)) (numer y *ℤ pos (denom x))) h.crosswise.lt k.crosswise.lt i } }
