-- The order of numbers, and vectors that are lexicographically positive.
use Rattle.std.proofs.Common.{◌≡◌, ◌≢◌, ℕ, zero, suc, ◌<◌, ◌⊎◌, inl, inr, [], ◌∷◌, refl, sym, ap, ap₂, ◌∙◌, subst, arith}
use Rattle.nf_num.specs.Rational.{ℚ, zero_ℚ, one_ℚ, ◌+ℚ◌, ◌*ℚ◌, neg_ℚ, inv_ℚ, ◌<ℚ◌}
use Rattle.nf_simplex.specs.Lex.{IsLexPositive}
use Rattle.nf_simplex.proofs.FieldLaws.{add-zero, add-neg, mul-inverse, one-positive, less_irrefl, less_trans, less_cases, add-less, mul-positive}
use Rattle.nf_simplex.proofs.Sum.{by_one, neg-zero}
use Rattle.nf_simplex.proofs.Terms.{v, nought, minus, ◌:+◌, ◌:*◌, ◌:-◌, ring, mul-zero, zero-mul, zero-add}

order_of : (a b : ℕ) → (a < b) ⊎ ((a ≡ b) ⊎ (b < a))
order_of a b = grind arith

pub add-positive : (a b : ℚ) → zero_ℚ <ℚ a → zero_ℚ <ℚ b → zero_ℚ <ℚ a +ℚ b
add-positive a b p q = less_trans zero_ℚ b (a +ℚ b) q (subst (λ x. x <ℚ a +ℚ b) (zero-add b) (add-less zero_ℚ a b p))

pub neg_positive : (a : ℚ) → a <ℚ zero_ℚ → zero_ℚ <ℚ neg_ℚ a
neg_positive a h = subst (λ x. x <ℚ neg_ℚ a) (add-neg a) (subst (λ x. a +ℚ neg_ℚ a <ℚ x) (zero-add (neg_ℚ a)) (add-less a zero_ℚ (neg_ℚ a) h))

pub positive_neg : (a : ℚ) → zero_ℚ <ℚ neg_ℚ a → a <ℚ zero_ℚ
positive_neg a h = subst (λ x. x <ℚ zero_ℚ) (zero-add a) (subst (λ x. zero_ℚ +ℚ a <ℚ x) (ring (a ∷ []) (minus (v 0) :+ v 0) nought refl) (add-less zero_ℚ (neg_ℚ a) a h))

pub less_difference : (a b : ℚ) → a <ℚ b → zero_ℚ <ℚ b +ℚ neg_ℚ a
less_difference a b h = subst (λ x. x <ℚ b +ℚ neg_ℚ a) (add-neg a) (add-less a b (neg_ℚ a) h)

pub sign_cases : (a : ℚ) → (zero_ℚ <ℚ a) ⊎ ((a ≡ zero_ℚ) ⊎ (zero_ℚ <ℚ neg_ℚ a))
sign_cases a = of (less_cases a zero_ℚ)
  where
    of : (a <ℚ zero_ℚ) ⊎ ((a ≡ zero_ℚ) ⊎ (zero_ℚ <ℚ a)) → (zero_ℚ <ℚ a) ⊎ ((a ≡ zero_ℚ) ⊎ (zero_ℚ <ℚ neg_ℚ a))
    of (inl h) = inr (inr (neg_positive a h))
    of (inr (inl h)) = inr (inl h)
    of (inr (inr h)) = inl h

pub not_zero : (a : ℚ) → zero_ℚ <ℚ a → a ≡ zero_ℚ → ⊥
not_zero a p e = less_irrefl zero_ℚ (subst (λ x. zero_ℚ <ℚ x) e p)

pub not_both : (a : ℚ) → zero_ℚ <ℚ a → zero_ℚ <ℚ neg_ℚ a → ⊥
not_both a p q = not_zero (a +ℚ neg_ℚ a) (add-positive a (neg_ℚ a) p q) (add-neg a)

pub inverse-positive : (a : ℚ) → zero_ℚ <ℚ a → zero_ℚ <ℚ inv_ℚ a
inverse-positive a h = of (sign_cases (inv_ℚ a))
  where
    nz : a ≢ zero_ℚ
    nz e = not_zero a h e

    of : (zero_ℚ <ℚ inv_ℚ a) ⊎ ((inv_ℚ a ≡ zero_ℚ) ⊎ (zero_ℚ <ℚ neg_ℚ (inv_ℚ a))) → zero_ℚ <ℚ inv_ℚ a
    of (inl p) = p
    of (inr (inl z)) = absurd (not_zero one_ℚ one-positive (sym (mul-inverse a nz) ∙ (ap (λ x. a *ℚ x) z ∙ mul-zero a)))
    of (inr (inr p)) =
        absurd (not_both one_ℚ one-positive (subst (λ x. zero_ℚ <ℚ x) (ring (a ∷ inv_ℚ a ∷ []) (v 0 :* minus (v 1)) (minus (v 0 :* v 1)) refl ∙ ap neg_ℚ (mul-inverse a nz)) (mul-positive a (neg_ℚ (inv_ℚ a)) h p)))

pub lex_ext : (n : ℕ) (u t : ℕ → ℚ) → ((k : ℕ) → k < n → u k ≡ t k) → IsLexPositive n u → IsLexPositive n t
lex_ext n u t e p = record {
  first = p.first;
  within = p.within;
  positive = subst (λ x. zero_ℚ <ℚ x) (e p.first p.within) p.positive;
  zeros = λ i h. sym (e i (let w = p.within in omega arith)) ∙ p.zeros i h;
}

pub lex_zero : (n : ℕ) (u : ℕ → ℚ) → IsLexPositive n u → ((k : ℕ) → k < n → u k ≡ zero_ℚ) → ⊥
lex_zero n u p z = not_zero (u p.first) p.positive (z p.first p.within)

pub lex_add : (n : ℕ) (u t : ℕ → ℚ) → IsLexPositive n u → IsLexPositive n t → IsLexPositive n (λ k. u k +ℚ t k)
lex_add n u t p q = of (order_of p.first q.first)
  where
    sum_zeros : (k : ℕ) → u k ≡ zero_ℚ → t k ≡ zero_ℚ → u k +ℚ t k ≡ zero_ℚ
    sum_zeros k a b = ap₂ (λ x y. x +ℚ y) a b ∙ add-zero zero_ℚ

    of : (p.first < q.first) ⊎ ((p.first ≡ q.first) ⊎ (q.first < p.first)) → IsLexPositive n (λ k. u k +ℚ t k)
    of (inl h) = record {
      first = p.first;
      within = p.within;
      positive = subst (λ x. zero_ℚ <ℚ x) (sym (add-zero (u p.first)) ∙ ap (λ x. u p.first +ℚ x) (sym (q.zeros p.first h))) p.positive;
      zeros = λ i l. sum_zeros i (p.zeros i l) (q.zeros i (omega arith));
    }
    of (inr (inl h)) = record {
      first = p.first;
      within = p.within;
      positive = add-positive (u p.first) (t p.first) p.positive (subst (λ i. zero_ℚ <ℚ t i) (sym h) q.positive);
      zeros = λ i l. sum_zeros i (p.zeros i l) (q.zeros i (omega arith));
    }
    of (inr (inr h)) = record {
      first = q.first;
      within = q.within;
      positive = subst (λ x. zero_ℚ <ℚ x) (sym (zero-add (t q.first)) ∙ ap (λ x. x +ℚ t q.first) (sym (p.zeros q.first h))) q.positive;
      zeros = λ i l. sum_zeros i (p.zeros i (omega arith)) (q.zeros i l);
    }

pub lex_scale : (n : ℕ) (u : ℕ → ℚ) (c : ℚ) → zero_ℚ <ℚ c → IsLexPositive n u → IsLexPositive n (λ k. u k *ℚ c)
lex_scale n u c h p = record {
  first = p.first;
  within = p.within;
  positive = mul-positive (u p.first) c p.positive h;
  zeros = λ i l. ap (λ x. x *ℚ c) (p.zeros i l) ∙ zero-mul c;
}

pub lex_not_both : (n : ℕ) (u : ℕ → ℚ) → IsLexPositive n u → IsLexPositive n (λ k. neg_ℚ (u k)) → ⊥
lex_not_both n u p q = lex_zero n (λ k. u k +ℚ neg_ℚ (u k)) (lex_add n u (λ k. neg_ℚ (u k)) p q) (λ k h. add-neg (u k))

-- One of three: positive, zero, negative.
pub LexCases : ℕ → (ℕ → ℚ) → Type 0
LexCases n u = IsLexPositive n u ⊎ (((k : ℕ) → k < n → u k ≡ zero_ℚ) ⊎ IsLexPositive n (λ k. neg_ℚ (u k)))

lex_more : (n : ℕ) (u : ℕ → ℚ) → IsLexPositive n u → IsLexPositive (suc n) u
lex_more n u p = record { first = p.first; within = (let w = p.within in omega arith); positive = p.positive; zeros = p.zeros }

pub lex_cases : (n : ℕ) (u : ℕ → ℚ) → IsLexPositive n u ⊎ (((k : ℕ) → k < n → u k ≡ zero_ℚ) ⊎ IsLexPositive n (λ k. neg_ℚ (u k)))
lex_cases zero u = inr (inl (λ k h. absurd (omega arith)))
lex_cases (suc n) u = of (lex_cases n u)
  where
    at_last : ((k : ℕ) → k < n → u k ≡ zero_ℚ) → (zero_ℚ <ℚ u n) ⊎ ((u n ≡ zero_ℚ) ⊎ (zero_ℚ <ℚ neg_ℚ (u n))) → IsLexPositive (suc n) u ⊎ (((k : ℕ) → k < suc n → u k ≡ zero_ℚ) ⊎ IsLexPositive (suc n) (λ k. neg_ℚ (u k)))
    at_last z (inl h) = inl record { first = n; within = omega arith; positive = h; zeros = z }
    at_last z (inr (inl h)) = inr (inl (λ k l. upto k (last k l)))
      where
        last : (k : ℕ) → k < suc n → (k < n) ⊎ (k ≡ n)
        last k l = grind arith

        upto : (k : ℕ) → (k < n) ⊎ (k ≡ n) → u k ≡ zero_ℚ
        upto k (inl a) = z k a
        upto k (inr a) = ap u a ∙ h
    at_last z (inr (inr h)) = inr (inr record { first = n; within = omega arith; positive = h; zeros = λ i l. ap neg_ℚ (z i l) ∙ neg-zero })

    of : IsLexPositive n u ⊎ (((k : ℕ) → k < n → u k ≡ zero_ℚ) ⊎ IsLexPositive n (λ k. neg_ℚ (u k))) → IsLexPositive (suc n) u ⊎ (((k : ℕ) → k < suc n → u k ≡ zero_ℚ) ⊎ IsLexPositive (suc n) (λ k. neg_ℚ (u k)))
    of (inl p) = inl (lex_more n u p)
    of (inr (inl z)) = at_last z (sign_cases (u n))
    of (inr (inr p)) = inr (inr (lex_more n (λ k. neg_ℚ (u k)) p))

-- u moves by t·d and comes to 0 at t: then d is negative.
pub slope_negative : (n : ℕ) (u t : ℕ → ℚ) (d : ℚ) → IsLexPositive n u → IsLexPositive n t → ((k : ℕ) → k < n → u k +ℚ t k *ℚ d ≡ zero_ℚ) → zero_ℚ <ℚ neg_ℚ d
slope_negative n u t d pu pt z = of (sign_cases d)
  where
    of : (zero_ℚ <ℚ d) ⊎ ((d ≡ zero_ℚ) ⊎ (zero_ℚ <ℚ neg_ℚ d)) → zero_ℚ <ℚ neg_ℚ d
    of (inl h) = absurd (lex_zero n (λ k. u k +ℚ t k *ℚ d) (lex_add n u (λ k. t k *ℚ d) pu (lex_scale n t d h pt)) z)
    of (inr (inl h)) = absurd (lex_zero n u pu (λ k l. by_one (u k) zero_ℚ (u k +ℚ t k *ℚ d) zero_ℚ (z k l) (rw (h, mul-zero (t k)) (ring (u k ∷ []) (v 0 :+ nought) (nought :+ (v 0 :+ nought)) refl))))
    of (inr (inr h)) = h

-- u moves by t·d and comes to 0 at t; then at a larger r it is negative.
pub beyond : (n : ℕ) (u t r : ℕ → ℚ) (d : ℚ)
    → IsLexPositive n u → IsLexPositive n t → ((k : ℕ) → k < n → u k +ℚ t k *ℚ d ≡ zero_ℚ)
    → IsLexPositive n (λ k. r k +ℚ neg_ℚ (t k)) → IsLexPositive n (λ k. neg_ℚ (u k +ℚ r k *ℚ d))
beyond n u t r d pu pt z more =
    lex_ext n (λ k. (r k +ℚ neg_ℚ (t k)) *ℚ neg_ℚ d) (λ k. neg_ℚ (u k +ℚ r k *ℚ d))
    (λ k l. by_one _ _ (u k +ℚ t k *ℚ d) zero_ℚ (z k l)
    (ring (u k ∷ t k ∷ r k ∷ d ∷ []) ((v 2 :- v 1) :* minus (v 3) :+ nought) (minus (v 0 :+ v 2 :* v 3) :+ (v 0 :+ v 1 :* v 3)) refl))
    (lex_scale n (λ k. r k +ℚ neg_ℚ (t k)) (neg_ℚ d) (slope_negative n u t d pu pt z) more)
