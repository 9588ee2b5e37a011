-- For callers: what the answers of a comparison say.
use Rattle.std.proofs.Common.{◌≡◌, Ordering, Less, Equal, Greater, true, refl, arith, subst, not}
use Rattle.std.proofs.lemmas.Bool.Decides.{nat_tests}
use Rattle.nf_num.specs.Rational.{ℚ, numer, denom, same_parts, ◌≤ℚ◌}
use Rattle.nf_num.proofs.Laws.{le_of_lt}
use Rattle.nf_num.proofs.Order.{le_of_eq}
use Rattle.nf_frac.specs.Compared.{IsOrder, is_same}

pub le_of_order : (o : Ordering) (x y : ℚ) → IsOrder o x y → (o ≡ Greater → ⊥) → x ≤ℚ y
le_of_order Less x y h n = le_of_lt x y h
le_of_order Equal x y h n = le_of_eq x y h
le_of_order Greater x y h n = absurd (n refl)

-- `==` tells equal numbers
pub same_out : (x y : ℚ) → is_same x y ≡ true → x ≡ y
same_out x y h =
    let numers : numer x ≡ numer y = grind (arith, nat_tests, h) in
    let denoms : denom x ≡ denom y = grind (arith, nat_tests, h) in
    same_parts x y numers denoms

pub same_in : (x y : ℚ) → x ≡ y → is_same x y ≡ true
same_in x y e = subst (λ z. is_same x z ≡ true) e (same_self x)
  where
    same_self : (z : ℚ) → is_same z z ≡ true
    same_self z = grind (arith, nat_tests)

pub not_same : (x y : ℚ) → not (is_same x y) ≡ true → x ≡ y → ⊥
not_same x y h e = grind (arith, h, same_in x y e)
