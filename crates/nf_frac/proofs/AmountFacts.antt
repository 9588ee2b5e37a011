-- The size of an amount.
use Rattle.std.proofs.Common.{◌≡◌, ℕ, zero, suc, ◌-◌, ◌*◌, ◌^◌, ◌<◌, ◌≤◌, List, [], ◌∷◌, ℤ, pos, ◌+ℤ◌, ◌*ℤ◌, true, length, arith, lit<, refl, sym, ap, ◌∙◌}
use Rattle.nf_num.specs.Rational.{frac, of_ℤ}
use Rattle.nf_num.proofs.IntRing.{ring_ℤ, z_codes}
use Rattle.nf_num.proofs.Laws.{frac_same}
use Rattle.nf_frac.specs.Digits.{are_digits, decimal_value}
use Rattle.nf_frac.proofs.DigitFacts.{digits_short}

scaled : (n k : ℕ) → n < 10 ^ k → k ≤ 3 → n * 10 ^ (3 - k) < 1000
scaled n zero h short = omega arith
scaled n (suc zero) h short = omega arith
scaled n (suc (suc zero)) h short = omega arith
scaled n (suc (suc (suc zero))) h short = omega arith
scaled n (suc (suc (suc (suc k)))) h short = absurd (omega arith)

-- three digits at most, as thousandths
pub rest_small : (ds : List ℕ) → are_digits ds ≡ true → length ds ≤ 3 → decimal_value ds * 10 ^ (3 - length ds) < 1000
rest_small ds h short = scaled (decimal_value ds) (length ds) (digits_short ds (length ds) h (omega arith)) short

-- nine digits at most
pub whole_small : (ds : List ℕ) → are_digits ds ≡ true → length ds ≤ 9 → decimal_value ds < 1_000_000_000
whole_small ds h short = digits_short ds 9 h short

-- thousandths that leave no rest are a whole number
pub whole_value : (a q r : ℤ) → q *ℤ pos 1000 +ℤ r ≡ a → r ≡ pos 0 → of_ℤ q ≡ frac a 1000
unfolding of_ℤ
whole_value a q r e none = frac_same q a 1 1000 (lit< tt) (lit< tt) (scaled_up q ∙ ap (λ z. q *ℤ pos 1000 +ℤ z) (sym none) ∙ e ∙ alone a)
  where
    scaled_up : (z : ℤ) → z *ℤ pos 1000 ≡ z *ℤ pos 1000 +ℤ pos 0
    scaled_up z = ring_ℤ (z ∷ pos 1000 ∷ []) (search z_codes) refl

    alone : (z : ℤ) → z ≡ z *ℤ pos 1
    alone z = ring_ℤ (z ∷ []) (search z_codes) refl
