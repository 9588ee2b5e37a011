-- Signs of entries: what a numerator tells, and that a column that moves to a bound has an entry.
use Rattle.std.proofs.Common.{◌≡◌, ℕ, suc, ℤ, pos, negsuc, ◌*ℤ◌, ◌<ℤ◌, Bool, Some, None, refl, sym, ap, ◌∙◌, subst, subst₂, arith, rules}
use Rattle.nf_num.specs.Gcd.{gcd, gcd_in}
use Rattle.nf_num.specs.Rational.{ℚ, numer, denom, of_ℤ, zero_ℚ, ◌<ℚ◌, lt_cross}
use Rattle.nf_num.proofs.Parts.{numer-frac, denom-frac}
use Rattle.nf_basis.specs.declared.col.Place.{Place}
use Rattle.nf_ratio.specs.Loops.{place_ahead, place_by}

pub numer-zero : numer zero_ℚ ≡ pos 0
unfolding of_ℤ gcd gcd_in
numer-zero = numer-frac (pos 0) 1 (omega arith) refl

pub none_at_zero : (down : Bool) (w : ℚ) → w ≡ zero_ℚ → place_ahead down w ≡ None
none_at_zero down w e = ap (place_by down) (ap numer e ∙ numer-zero)

-- A column that moves to a bound has an entry.
pub entry_there : (down : Bool) (w : ℚ) (a : Place) → place_ahead down w ≡ Some a → w ≡ zero_ℚ → ⊥
entry_there down w a h e = let x : None ≡ Some a = sym (none_at_zero down w e) ∙ h in cc

pub denom-zero : denom zero_ℚ ≡ 1
unfolding of_ℤ gcd gcd_in
denom-zero = denom-frac (pos 0) 1 (omega arith) refl

-- A number is positive, 0 or negative as its numerator is.
pub positive_is : (w : ℚ) (n : ℕ) → numer w ≡ pos (suc n) → zero_ℚ <ℚ w
positive_is w n h = (lt_cross zero_ℚ w).1 (subst₂ (λ (a : ℤ) (d : ℕ). (a *ℤ pos (denom w)) <ℤ (numer w *ℤ pos d)) (sym numer-zero) (sym denom-zero) (subst (λ (a : ℤ). (pos 0 *ℤ pos (denom w)) <ℤ (a *ℤ pos 1)) (sym h) (search rules)))

pub negative_is : (w : ℚ) (n : ℕ) → numer w ≡ negsuc n → w <ℚ zero_ℚ
negative_is w n h = (lt_cross w zero_ℚ).1 (subst₂ (λ (a : ℤ) (d : ℕ). (numer w *ℤ pos d) <ℤ (a *ℤ pos (denom w))) (sym numer-zero) (sym denom-zero) (subst (λ (a : ℤ). (a *ℤ pos 1) <ℤ (pos 0 *ℤ pos (denom w))) (sym h) (search rules)))
