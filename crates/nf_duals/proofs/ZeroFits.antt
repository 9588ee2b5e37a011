-- A product with a factor 0 is in range.
use Rattle.std.proofs.Common.{◌≡◌, ℕ, ◌*◌, ◌/◌, ◌<◌, ◌≤◌, ◌^◌, refl, sym, ◌∙◌, ap, ap₂, subst, ℤ, pos, nat_abs, int_div, ◌*ℤ◌, arith, lit<, div-le_self, div-one}
use Rattle.std.specs.Prelude.{unsigned_abs}
use Rattle.std.proofs.lemmas.Int.{unsigned_abs-mul}
use Rattle.std.proofs.Math.Nat.{div_self}
use Rattle.nf_num.specs.Gcd.{gcd, gcd_in}
use Rattle.nf_num.specs.Rational.{ℚ, numer, denom, of_ℤ, zero_ℚ}
use Rattle.nf_num.proofs.Gcd.{gcd_comm, gcd-zero, gcd_pos, gcd_bound}
use Rattle.nf_num.proofs.Parts.{numer-frac, denom-frac, denom_pos, nat_abs-quotient}
use Rattle.nf_frac.specs.Range.{ProductFits}

numer-zero : numer zero_ℚ ≡ pos 0
unfolding of_ℤ gcd gcd_in
numer-zero = numer-frac (pos 0) 1 (omega arith) refl

denom-zero : denom zero_ℚ ≡ 1
unfolding of_ℤ gcd gcd_in
denom-zero = denom-frac (pos 0) 1 (omega arith) refl

-- a divisor of 1
gcd-one : (n : ℕ) → gcd n 1 ≡ 1
gcd-one n = let p : 0 < gcd n 1 = gcd_pos n 1 (omega arith) in let q : gcd n 1 ≤ 1 = gcd_bound n 1 (omega arith) in omega arith

-- a quotient of 0 has the magnitude 0
quotient-zero : (z : ℤ) (g : ℕ) → z ≡ pos 0 → unsigned_abs (int_div z (pos g)) ≡ 0
quotient-zero z g e = nat_abs-quotient z g ∙ (let s : nat_abs z / g ≤ nat_abs z = div-le_self (nat_abs z) g in let n : nat_abs z ≡ 0 = ap nat_abs e in omega (arith, s, n))

small : (n : ℕ) → n ≡ 0 → n < 2 ^ 127
small n e = subst (λ m. m < 2 ^ 127) (sym e) (lit< tt)

one_small : (n : ℕ) → n ≡ 1 → n < 2 ^ 127
one_small n e = subst (λ m. m < 2 ^ 127) (sym e) (lit< tt)

-- the denominator of such a product is 1
ones : (n d : ℕ) → 0 < d → 1 / gcd n 1 * (d / gcd 0 d) ≡ 1
ones n d h =
    ap₂ ◌*◌ (ap (λ g. 1 / g) (gcd-one n)) (ap (λ g. d / g) (gcd_comm 0 d ∙ gcd-zero d 0 refl))
    ∙ ap₂ ◌*◌ (div-one 1) (div_self h)

-- the magnitude of a product with a factor of magnitude 0
left_zero : (a b : ℤ) → unsigned_abs a ≡ 0 → unsigned_abs (a *ℤ b) ≡ 0
left_zero a b e = unsigned_abs-mul a b ∙ ap (λ n. n * unsigned_abs b) e ∙ omega arith

right_zero : (a b : ℤ) → unsigned_abs b ≡ 0 → unsigned_abs (a *ℤ b) ≡ 0
right_zero a b e = unsigned_abs-mul a b ∙ ap (λ n. unsigned_abs a * n) e ∙ omega arith

pub zero_fits : (x y : ℚ) → x ≡ zero_ℚ → ProductFits x y
zero_fits x y e = subst (λ z. ProductFits z y) (sym e) (record {
  numerator = small (unsigned_abs (int_div (numer zero_ℚ) (pos (gcd (unsigned_abs (numer zero_ℚ)) (denom y))) *ℤ int_div (numer y) (pos (gcd (unsigned_abs (numer y)) (denom zero_ℚ)))))
      (left_zero (int_div (numer zero_ℚ) (pos (gcd (unsigned_abs (numer zero_ℚ)) (denom y)))) (int_div (numer y) (pos (gcd (unsigned_abs (numer y)) (denom zero_ℚ)))) (quotient-zero (numer zero_ℚ) (gcd (unsigned_abs (numer zero_ℚ)) (denom y)) numer-zero));
  denominator = one_small _ (ap₂ (λ d n. d / gcd (unsigned_abs (numer y)) d * (denom y / gcd n (denom y))) denom-zero (ap unsigned_abs numer-zero) ∙ ones (unsigned_abs (numer y)) (denom y) (denom_pos y));
})

pub fits_zero : (x y : ℚ) → y ≡ zero_ℚ → ProductFits x y
fits_zero x y e = subst (λ z. ProductFits x z) (sym e) (record {
  numerator = small (unsigned_abs (int_div (numer x) (pos (gcd (unsigned_abs (numer x)) (denom zero_ℚ))) *ℤ int_div (numer zero_ℚ) (pos (gcd (unsigned_abs (numer zero_ℚ)) (denom x)))))
      (right_zero (int_div (numer x) (pos (gcd (unsigned_abs (numer x)) (denom zero_ℚ)))) (int_div (numer zero_ℚ) (pos (gcd (unsigned_abs (numer zero_ℚ)) (denom x)))) (quotient-zero (numer zero_ℚ) (gcd (unsigned_abs (numer zero_ℚ)) (denom x)) numer-zero));
  denominator = one_small _ (ap₂ (λ d n. denom x / gcd n (denom x) * (d / gcd (unsigned_abs (numer x)) d)) denom-zero (ap unsigned_abs numer-zero) ∙ turned);
})
  where
    turned : denom x / gcd 0 (denom x) * (1 / gcd (unsigned_abs (numer x)) 1) ≡ 1
    turned =
        ap₂ ◌*◌ (ap (λ g. denom x / g) (gcd_comm 0 (denom x) ∙ gcd-zero (denom x) 0 refl)) (ap (λ g. 1 / g) (gcd-one (unsigned_abs (numer x))))
        ∙ ap₂ ◌*◌ (div_self (denom_pos x)) (div-one 1)
