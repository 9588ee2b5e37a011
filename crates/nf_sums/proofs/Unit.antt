-- A product by 1 or -1, and a sum or a difference with 0.
use Rattle.std.proofs.Common.{◌≡◌, negsuc, sym, ◌∙◌, ap}
use Rattle.nf_num.specs.Rational.{ℚ, of_ℤ, zero_ℚ, one_ℚ, ◌+ℚ◌, ◌-ℚ◌, ◌*ℚ◌, neg_ℚ}
use Rattle.nf_num.proofs.Laws.{zero_add, one_mul, mul_comm, neg_is}
use Rattle.nf_num.proofs.Rewrites.{add_zero, neg_mul}
use Rattle.nf_sums.proofs.Zero.{neg-zero}

pub minus_one : of_ℤ (negsuc 0) ≡ neg_ℚ one_ℚ
minus_one = sym (neg_is one_ℚ ∙ mul_comm (of_ℤ (negsuc 0)) one_ℚ ∙ one_mul (of_ℤ (negsuc 0)))

pub one_left : (a b : ℚ) → a ≡ one_ℚ → b ≡ a *ℚ b
one_left a b h = sym (ap (λ z. z *ℚ b) h ∙ one_mul b)

pub one_right : (a b : ℚ) → b ≡ one_ℚ → a ≡ a *ℚ b
one_right a b h = one_left b a h ∙ mul_comm b a

pub minus_left : (a b r : ℚ) → a ≡ neg_ℚ one_ℚ → r ≡ neg_ℚ b → r ≡ a *ℚ b
minus_left a b r h e = e ∙ sym (ap (λ z. z *ℚ b) h ∙ neg_mul one_ℚ b ∙ ap neg_ℚ (one_mul b))

pub minus_right : (a b r : ℚ) → b ≡ neg_ℚ one_ℚ → r ≡ neg_ℚ a → r ≡ a *ℚ b
minus_right a b r h e = minus_left b a r h e ∙ mul_comm b a

pub sum_from_zero : (t a : ℚ) → t ≡ zero_ℚ → a ≡ t +ℚ a
sum_from_zero t a h = sym (ap (λ z. z +ℚ a) h ∙ zero_add a)

pub sum_with_zero : (t a : ℚ) → a ≡ zero_ℚ → t ≡ t +ℚ a
sum_with_zero t a h = sym (ap (λ z. t +ℚ z) h ∙ add_zero t)

pub less_from_zero : (t a r : ℚ) → t ≡ zero_ℚ → r ≡ neg_ℚ a → r ≡ t -ℚ a
less_from_zero t a r h e = e ∙ sum_from_zero t (neg_ℚ a) h

pub less_zero : (t a : ℚ) → a ≡ zero_ℚ → t ≡ t -ℚ a
less_zero t a h = sum_with_zero t (neg_ℚ a) (ap neg_ℚ h ∙ neg-zero)
