-- Two claims, one for a positive number and one for a negative, from a test of the one that the sign leaves.
use Rattle.std.proofs.Common.{◌≡◌, ◌∙◌, ◌↔◌, ◌⊎◌, inl, inr, sym, subst, IsTrue, Bool, true, false, refl, Option}
use Rattle.nf_num.specs.Rational.{ℚ, zero_ℚ, ◌≤ℚ◌, ◌<ℚ◌}
use Rattle.nf_model.specs.Ray.{IsUnstopped}
use Rattle.nf_num.proofs.Laws.{le_of_lt, le_or_lt, not_le_of_lt}
use Rattle.nf_num.proofs.Order.{lt_irrefl}

both_ways : (a b : ℚ) → a <ℚ b → b <ℚ a → ⊥
both_ways a b h k = not_le_of_lt a b h (le_of_lt b a k)

pub by_less : (P Q : Type 0) (d z : ℚ) (r : Bool) → z ≡ zero_ℚ → d <ℚ z → IsTrue r ↔ Q → IsTrue r ↔ ((zero_ℚ <ℚ d → P) × (d <ℚ zero_ℚ → Q))
by_less P Q d z r e h t =
    let lt : d <ℚ zero_ℚ = subst (λ u. d <ℚ u) e h in
    (λ b. (λ a. absurd (both_ways _ _ lt a), λ _. t.0 b), λ f. t.1 (f.1 lt))

pub by_equal : (P Q : Type 0) (d z : ℚ) → z ≡ zero_ℚ → d ≡ z → IsTrue true ↔ ((zero_ℚ <ℚ d → P) × (d <ℚ zero_ℚ → Q))
by_equal P Q d z e h = (λ b. (λ a. absurd (lt_irrefl zero_ℚ (subst (λ u. zero_ℚ <ℚ u) (h ∙ e) a)), λ a. absurd (lt_irrefl zero_ℚ (subst (λ u. u <ℚ zero_ℚ) (h ∙ e) a))), λ f. refl)

pub by_greater : (P Q : Type 0) (d z : ℚ) (r : Bool) → z ≡ zero_ℚ → z <ℚ d → IsTrue r ↔ P → IsTrue r ↔ ((zero_ℚ <ℚ d → P) × (d <ℚ zero_ℚ → Q))
by_greater P Q d z r e h t =
    let gt : zero_ℚ <ℚ d = subst (λ u. u <ℚ d) e h in
    (λ b. (λ _. t.0 b, λ a. absurd (both_ways _ _ gt a)), λ f. t.1 (f.0 gt))

-- the same test under other names of the numbers
pub unstopped_as : (d e : ℚ) (l m u v : Option ℚ) (b : Bool) → d ≡ e → l ≡ m → u ≡ v → IsTrue b ↔ IsUnstopped e m v → IsTrue b ↔ IsUnstopped d l u
unstopped_as d e l m u v b p q s t =
    subst (λ z. IsTrue b ↔ IsUnstopped z l u) (sym p) (subst (λ z. IsTrue b ↔ IsUnstopped e z u) (sym q) (subst (λ z. IsTrue b ↔ IsUnstopped e m z) (sym s) t))

pub not_less : (a b : ℚ) (t : Bool) → IsTrue t ↔ (a <ℚ b) → t ≡ false → b ≤ℚ a
not_less a b t h n = of (le_or_lt b a)
  where
    is_true : IsTrue t → ⊥
    is_true y = cc

    of : (b ≤ℚ a) ⊎ (a <ℚ b) → b ≤ℚ a
    of (inl k) = k
    of (inr k) = absurd (is_true (h.1 k))
