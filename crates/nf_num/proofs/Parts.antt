-- The parts of a rational number: `frac` gives its parts back, its value is crosswise the fraction's, and equal products crosswise are equal numbers.
use Rattle.std.proofs.Common.{◌≡◌, ℕ, zero, suc, ◌*◌, ◌/◌, ◌<◌, refl, sym, ◌∙◌, ap, ap₂, subst, arith, Bool, true, false, ◌&&◌, T, eqb, ltb, ltb→lt, lt→ltb, eqb→eq, ℤ, pos, negsuc, ◌*ℤ◌, neg_ℤ, nat_abs, eq-eqb, div-one, pos_of_ne-zero, [], ◌∷◌}
use Prim.Native.Nat.{◌∣◌}
use native.Mathlib.Nat.{dvd_antisymm, dvd-mul_left, div-mul_cancel}
use Rattle.std.proofs.lemmas.Int.{unsigned_abs-mul}
use Rattle.nf_num.specs.Gcd.{gcd}
use Rattle.nf_num.specs.Rational.{ℚ, numer, denom, frac, is_lowest, lowest_of, frac-parts, same_parts, quotient_ℤ}
use Rattle.nf_num.proofs.Gcd.{gcd-dvd_left, gcd-dvd_right, gcd-div, gauss}
use Rattle.nf_num.proofs.IntRing.{cancel_pos, ring_ℤ, z_codes}

and_out : (a b : Bool) → T (a && b) → T a × T b
and_out true b h = (tt, h)
and_out false b h = absurd h

and_in : (a b : Bool) → T a → T b → T (a && b)
and_in true b p q = q
and_in false b p q = absurd p

pub lowest_out : (n : ℤ) (d : ℕ) → T (is_lowest n d) → (0 < d) × (gcd (nat_abs n) d ≡ 1)
unfolding is_lowest
lowest_out n d h =
    let p : T (ltb 0 d) × T (eqb (gcd (nat_abs n) d) 1) = and_out (ltb 0 d) (eqb (gcd (nat_abs n) d) 1) h in
    (ltb→lt 0 d p.0, eqb→eq (gcd (nat_abs n) d) 1 p.1)

pub lowest_in : (n : ℤ) (d : ℕ) → 0 < d → gcd (nat_abs n) d ≡ 1 → T (is_lowest n d)
unfolding is_lowest
lowest_in n d p q = and_in (ltb 0 d) (eqb (gcd (nat_abs n) d) 1) (lt→ltb 0 d p) (subst T (sym (eq-eqb (gcd (nat_abs n) d) 1 q)) tt)

pub denom_pos : (x : ℚ) → 0 < denom x
denom_pos x = (lowest_out (numer x) (denom x) (lowest_of x)).0

pub numer-denom_coprime : (x : ℚ) → gcd (nat_abs (numer x)) (denom x) ≡ 1
numer-denom_coprime x = (lowest_out (numer x) (denom x) (lowest_of x)).1

nat_abs-neg : (n : ℕ) → nat_abs (neg_ℤ (pos n)) ≡ n
nat_abs-neg zero = refl
nat_abs-neg (suc n) = refl

pub nat_abs-quotient : (n : ℤ) (k : ℕ) → nat_abs (quotient_ℤ n k) ≡ nat_abs n / k
nat_abs-quotient (pos a) k = refl
nat_abs-quotient (negsuc a) k = nat_abs-neg (suc a / k)

pub quotient_cancel : (n : ℤ) (k : ℕ) → k ∣ nat_abs n → quotient_ℤ n k *ℤ pos k ≡ n
quotient_cancel (pos a) k h = ap pos (div-mul_cancel k h)
quotient_cancel (negsuc a) k h = negated (suc a / k) ∙ ap (λ (m : ℕ). neg_ℤ (pos m)) (div-mul_cancel k h)
  where
    negated : (m : ℕ) → neg_ℤ (pos m) *ℤ pos k ≡ neg_ℤ (pos (m * k))
    negated m = ring_ℤ (pos m ∷ pos k ∷ []) (search z_codes) refl

quotient_is_lowest : (n : ℤ) (d : ℕ) → 0 < d → T (is_lowest (quotient_ℤ n (gcd (nat_abs n) d)) (d / gcd (nat_abs n) d))
quotient_is_lowest n d h =
    let g : ℕ = gcd (nat_abs n) d in
    lowest_in (quotient_ℤ n g) (d / g)
    (pos_of_ne-zero (λ (e : d / g ≡ 0). let f : d / g * g ≡ d = div-mul_cancel g (gcd-dvd_right (nat_abs n) d) in let f' : 0 * g ≡ d = subst (λ (m : ℕ). m * g ≡ d) e f in omega arith))
    (ap (λ (m : ℕ). gcd m (d / g)) (nat_abs-quotient n g) ∙ gcd-div (nat_abs n) d h)

pub numer-frac-is : (n : ℤ) (d : ℕ) → 0 < d → numer (frac n d) ≡ quotient_ℤ n (gcd (nat_abs n) d)
numer-frac-is n d h = (frac-parts n d (quotient_is_lowest n d h)).0

pub denom-frac-is : (n : ℤ) (d : ℕ) → 0 < d → denom (frac n d) ≡ d / gcd (nat_abs n) d
denom-frac-is n d h = (frac-parts n d (quotient_is_lowest n d h)).1

-- the value of a fraction, crosswise
pub frac_cross : (n : ℤ) (d : ℕ) → 0 < d → numer (frac n d) *ℤ pos d ≡ n *ℤ pos (denom (frac n d))
frac_cross n d h =
    let g : ℕ = gcd (nat_abs n) d in
    let q : quotient_ℤ n g *ℤ pos g ≡ n = quotient_cancel n g (gcd-dvd_left (nat_abs n) d) in
    let r : d / g * g ≡ d = div-mul_cancel g (gcd-dvd_right (nat_abs n) d) in
    ap₂ (λ (a : ℤ) (m : ℕ). a *ℤ pos m) (numer-frac-is n d h) (sym r)
    ∙ swapped (quotient_ℤ n g) g (d / g)
    ∙ ap₂ (λ (a : ℤ) (m : ℕ). a *ℤ pos m) q (sym (denom-frac-is n d h))
  where
    swapped : (a : ℤ) (g k : ℕ) → a *ℤ pos (k * g) ≡ a *ℤ pos g *ℤ pos k
    swapped a g k = ring_ℤ (a ∷ pos g ∷ pos k ∷ []) (search z_codes) refl

-- equal products crosswise are equal numbers
pub same_cross : (x y : ℚ) → numer x *ℤ pos (denom y) ≡ numer y *ℤ pos (denom x) → x ≡ y
same_cross x y e =
    let abs : nat_abs (numer x) * denom y ≡ nat_abs (numer y) * denom x = sym (unsigned_abs-mul (numer x) (pos (denom y))) ∙ ap nat_abs e ∙ unsigned_abs-mul (numer y) (pos (denom x)) in
    let xy : denom x ∣ denom y = gauss (nat_abs (numer x)) (denom x) (denom y) (numer-denom_coprime x) (subst (λ (m : ℕ). denom x ∣ m) (sym abs) (dvd-mul_left (denom x) (nat_abs (numer y)))) in
    let yx : denom y ∣ denom x = gauss (nat_abs (numer y)) (denom y) (denom x) (numer-denom_coprime y) (subst (λ (m : ℕ). denom y ∣ m) abs (dvd-mul_left (denom y) (nat_abs (numer x)))) in
    let d : denom x ≡ denom y = dvd_antisymm xy yx in
    same_parts x y (cancel_pos (numer x) (numer y) (denom y) (denom_pos y) (e ∙ ap (λ (m : ℕ). numer y *ℤ pos m) d)) d

pub quotient-one : (n : ℤ) → quotient_ℤ n 1 ≡ n
quotient-one (pos a) = ap pos (div-one a)
quotient-one (negsuc a) = ap (λ (m : ℕ). neg_ℤ (pos m)) (div-one (suc a))

-- a fraction in lowest terms has its own parts
pub numer-frac : (n : ℤ) (d : ℕ) → 0 < d → gcd (nat_abs n) d ≡ 1 → numer (frac n d) ≡ n
numer-frac n d h e = numer-frac-is n d h ∙ ap (quotient_ℤ n) e ∙ quotient-one n

pub denom-frac : (n : ℤ) (d : ℕ) → 0 < d → gcd (nat_abs n) d ≡ 1 → denom (frac n d) ≡ d
denom-frac n d h e = denom-frac-is n d h ∙ ap (λ (g : ℕ). d / g) e ∙ div-one d

pub frac-numer-denom : (x : ℚ) → frac (numer x) (denom x) ≡ x
frac-numer-denom x = same_parts (frac (numer x) (denom x)) x (numer-frac (numer x) (denom x) (denom_pos x) (numer-denom_coprime x)) (denom-frac (numer x) (denom x) (denom_pos x) (numer-denom_coprime x))

-- what holds of each fraction holds of each number
pub by_frac {ℓ} : (P : ℚ → Type ℓ) → ((n : ℤ) (d : ℕ) → 0 < d → P (frac n d)) → (x : ℚ) → P x
by_frac P h x = subst P (frac-numer-denom x) (h (numer x) (denom x) (denom_pos x))
