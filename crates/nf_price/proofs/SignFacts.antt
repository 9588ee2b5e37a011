-- Which signs of a reduced cost are right, from its comparison with 0.
use Rattle.std.proofs.Common.{◌≡◌, ◌≢◌, ◌⊎◌, inl, inr, Option, Some, None, refl, subst, Ordering, Less, Equal, Greater}
use Rattle.std.specs.Prelude.{IfNone, IfSome}
use Rattle.nf_num.specs.Rational.{ℚ, zero_ℚ, ◌<ℚ◌}
use Rattle.nf_num.proofs.Order.{lt_irrefl}
use Rattle.nf_frac.specs.Compared.{IsOrder}
use Rattle.nf_simplex.specs.Pricing.{IsMagnitude}
use Rattle.nf_simplex.proofs.FieldLaws.{less_cases, less_trans}
use Rattle.nf_price.specs.declared.candidate.Candidate.{Candidate}

both_ways : (a b : ℚ) → a <ℚ b → b <ℚ a → ⊥
both_ways a b h k = lt_irrefl a (less_trans a b a h k)

pub not_below : (d : ℚ) (o : Ordering) → IsOrder o d zero_ℚ → (o ≡ Equal) ⊎ (o ≡ Greater) → d <ℚ zero_ℚ → ⊥
not_below d o h (inl k) l = let same : d ≡ zero_ℚ = subst (λ q. IsOrder q d zero_ℚ) k h in lt_irrefl zero_ℚ (subst (λ y. y <ℚ zero_ℚ) same l)
not_below d o h (inr k) l = let more : zero_ℚ <ℚ d = subst (λ q. IsOrder q d zero_ℚ) k h in both_ways d zero_ℚ l more

pub not_above : (d : ℚ) (o : Ordering) → IsOrder o d zero_ℚ → (o ≡ Less) ⊎ (o ≡ Equal) → zero_ℚ <ℚ d → ⊥
not_above d o h (inl k) l = let less : d <ℚ zero_ℚ = subst (λ q. IsOrder q d zero_ℚ) k h in both_ways d zero_ℚ less l
not_above d o h (inr k) l = let same : d ≡ zero_ℚ = subst (λ q. IsOrder q d zero_ℚ) k h in lt_irrefl zero_ℚ (subst (λ y. zero_ℚ <ℚ y) same l)

pub positive_magnitude : (d z : ℚ) → z ≡ zero_ℚ → z <ℚ d → IsMagnitude d d
positive_magnitude d z n h = inl ((λ l. both_ways d zero_ℚ l (subst (λ y. y <ℚ d) n h)), refl)

-- ---- at zero
pub below_not_zero : (d : ℚ) → d <ℚ zero_ℚ → d ≢ zero_ℚ
below_not_zero d h e = lt_irrefl zero_ℚ (subst (λ y. y <ℚ zero_ℚ) e h)

above_not_zero : (d : ℚ) → zero_ℚ <ℚ d → d ≢ zero_ℚ
above_not_zero d h e = lt_irrefl zero_ℚ (subst (λ y. zero_ℚ <ℚ y) e h)

pub not_zero_after : (d : ℚ) (r : Option Candidate) → IfSome r (λ x. zero_ℚ <ℚ d) → IfSome r (λ x. d ≢ zero_ℚ)
not_zero_after d (Some c) h = above_not_zero d h
not_zero_after d None h = h

pub neither : (d : ℚ) (r : Option Candidate) → (d <ℚ zero_ℚ → ⊥) → IfNone r (zero_ℚ <ℚ d → ⊥) → IfNone r (d ≢ zero_ℚ → ⊥)
neither d (Some c) a b = b
neither d None a b = λ n. of n (less_cases d zero_ℚ)
  where
    of : d ≢ zero_ℚ → (d <ℚ zero_ℚ) ⊎ ((d ≡ zero_ℚ) ⊎ (zero_ℚ <ℚ d)) → ⊥
    of n (inl l) = a l
    of n (inr (inl e)) = n e
    of n (inr (inr l)) = b l
