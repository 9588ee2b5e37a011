-- A product of 0 adds nothing, and how a numerator tells that a number is 0.
use Rattle.std.proofs.Common.{◌≡◌, ◌↔◌, ℕ, ℤ, pos, sym, ◌∙◌, ap, IsTrue, refl, arith, []}
use Rattle.std.specs.Prelude.{nat_eq}
use Rattle.std.proofs.lemmas.Int.{to_z_pos}
use mir.Syntax.{w128}
use mir.Val.{to_z, of_z}
use Rattle.nf_num.specs.Rational.{ℚ, numer, zero_ℚ, ◌+ℚ◌, ◌-ℚ◌, ◌*ℚ◌, neg_ℚ}
use Rattle.nf_num.proofs.Laws.{zero_mul, mul_comm, zero_of_numer}
use Rattle.nf_num.proofs.Rewrites.{add_zero}
use Rattle.nf_num.proofs.Field.{ring, codes}
use Rattle.nf_frac.specs.Range.{InRange}
use Rattle.nf_frac.proofs.Fields.{back}
use Rattle.nf_frac.proofs.Order.{numer-zero}
use Rattle.nf_sums.proofs.Chosen.{eq_of_test}

-- the test of a stored numerator
pub zero_test : (n : ℤ) (x : ℚ) → n ≡ numer x → InRange (numer x) → IsTrue (nat_eq (of_z w128 n) 0) ↔ (x ≡ zero_ℚ)
zero_test n x e range = (to, from)
  where
    to : IsTrue (nat_eq (of_z w128 n) 0) → x ≡ zero_ℚ
    to t = zero_of_numer x (sym (back (numer x) range) ∙ ap (λ (z : ℤ). to_z w128 (of_z w128 z)) (sym e) ∙ ap (λ (k : ℕ). to_z w128 k) (eq_of_test (of_z w128 n) 0 t) ∙ to_z_pos w128 0 (omega arith))

    from : x ≡ zero_ℚ → IsTrue (nat_eq (of_z w128 n) 0)
    from h = ap (λ (z : ℤ). nat_eq (of_z w128 z) 0) (e ∙ ap numer h ∙ numer-zero)

pub zero_left : (t a b : ℚ) → a ≡ zero_ℚ → t ≡ t +ℚ a *ℚ b
zero_left t a b h = sym (ap (λ z. t +ℚ z *ℚ b) h ∙ ap (λ z. t +ℚ z) (zero_mul b) ∙ add_zero t)

pub zero_right : (t a b : ℚ) → b ≡ zero_ℚ → t ≡ t +ℚ a *ℚ b
zero_right t a b h = zero_left t b a h ∙ ap (λ z. t +ℚ z) (mul_comm b a)

pub neg-zero : neg_ℚ zero_ℚ ≡ zero_ℚ
neg-zero = ring [] (search codes) refl

pub zero_left_less : (t a b : ℚ) → a ≡ zero_ℚ → t ≡ t -ℚ a *ℚ b
zero_left_less t a b h = sym (ap (λ z. t -ℚ z *ℚ b) h ∙ ap (λ z. t -ℚ z) (zero_mul b) ∙ ap (λ z. t +ℚ z) neg-zero ∙ add_zero t)

pub zero_right_less : (t a b : ℚ) → b ≡ zero_ℚ → t ≡ t -ℚ a *ℚ b
zero_right_less t a b h = zero_left_less t b a h ∙ ap (λ z. t -ℚ z) (mul_comm b a)
