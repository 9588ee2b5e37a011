-- Finite sums, and what follows for numbers by the solver.
use Rattle.std.proofs.Common.{◌≡◌, ◌≢◌, ℕ, zero, suc, ◌+◌, ◌-◌, ◌<◌, ◌≤◌, ◌⊎◌, inl, inr, cond, [], ◌∷◌, refl, sym, ap, ap₂, ◌∙◌, arith, eq-eqb, ne_eqb}
use Rattle.nf_num.specs.Rational.{ℚ, zero_ℚ, one_ℚ, ◌+ℚ◌, ◌*ℚ◌, neg_ℚ}
use Rattle.nf_num.specs.Sum.{sum_ℚ, delta}
use Rattle.nf_simplex.proofs.FieldLaws.{add-zero, add-neg, mul_comm}
use Rattle.nf_simplex.proofs.Terms.{v, nought, minus, ◌:+◌, ◌:-◌, ring, zero-mul, zero-add, one-mul, add_four, add-mul, add_left_cancel}

pub equal_or_not : (a b : ℕ) → (a ≡ b) ⊎ (a ≢ b)
equal_or_not a b = grind arith

pub below_or_past : (i n k : ℕ) → i < n + k → (i < n) ⊎ ((m : ℕ) × (i ≡ n + m) × (m < k))
below_or_past i n k h = of (decide i n)
  where
    decide : (i n : ℕ) → (i < n) ⊎ (n ≤ i)
    decide i n = grind arith

    of : (i < n) ⊎ (n ≤ i) → (i < n) ⊎ ((m : ℕ) × (i ≡ n + m) × (m < k))
    of (inl a) = inl a
    of (inr a) = inr (i - n, omega arith, omega arith)

pub below_last : (k n : ℕ) → k < suc n → (k < n) ⊎ (k ≡ n)
below_last k n h = grind arith

-- an equation from another one, p ≡ q, where the two differ by as much
pub by_one : (a b p q : ℚ) → p ≡ q → a +ℚ q ≡ b +ℚ p → a ≡ b
by_one a b p q h r =
    add_left_cancel q a b (ring (a ∷ q ∷ []) (v 1 :+ v 0) (v 0 :+ v 1) refl ∙ (r ∙ (ap (λ z. b +ℚ z) h ∙ ring (b ∷ q ∷ []) (v 0 :+ v 1) (v 1 :+ v 0) refl)))

pub neg-zero : neg_ℚ zero_ℚ ≡ zero_ℚ
neg-zero = ring [] (minus nought) nought refl

pub difference_zero : (a b : ℚ) → a +ℚ neg_ℚ b ≡ zero_ℚ → a ≡ b
difference_zero a b h = by_one a b (a +ℚ neg_ℚ b) zero_ℚ h (ring (a ∷ b ∷ []) (v 0 :+ nought) (v 1 :+ (v 0 :- v 1)) refl)

pub zero_difference : (a b : ℚ) → a ≡ b → a +ℚ neg_ℚ b ≡ zero_ℚ
zero_difference a b h = rw h (add-neg b)

pub sum_ext : (n : ℕ) (f g : ℕ → ℚ) → ((k : ℕ) → k < n → f k ≡ g k) → sum_ℚ n f ≡ sum_ℚ n g
unfolding sum_ℚ
sum_ext zero f g e = refl
sum_ext (suc n) f g e = ap₂ (λ x y. x +ℚ y) (sum_ext n f g (λ k h. e k (omega arith))) (e n (omega arith))

pub sum_zero : (n : ℕ) (f : ℕ → ℚ) → ((k : ℕ) → k < n → f k ≡ zero_ℚ) → sum_ℚ n f ≡ zero_ℚ
unfolding sum_ℚ
sum_zero zero f e = refl
sum_zero (suc n) f e = ap₂ (λ x y. x +ℚ y) (sum_zero n f (λ k h. e k (omega arith))) (e n (omega arith)) ∙ add-zero zero_ℚ

pub sum_add : (n : ℕ) (f g : ℕ → ℚ) → sum_ℚ n (λ k. f k +ℚ g k) ≡ sum_ℚ n f +ℚ sum_ℚ n g
unfolding sum_ℚ
sum_add zero f g = sym (add-zero zero_ℚ)
sum_add (suc n) f g = ap (λ x. x +ℚ (f n +ℚ g n)) (sum_add n f g) ∙ add_four _ _ _ _

pub sum_scale : (n : ℕ) (f : ℕ → ℚ) (c : ℚ) → sum_ℚ n (λ k. f k *ℚ c) ≡ sum_ℚ n f *ℚ c
unfolding sum_ℚ
sum_scale zero f c = sym (zero-mul c)
sum_scale (suc n) f c = ap (λ x. x +ℚ f n *ℚ c) (sum_scale n f c) ∙ sym (add-mul _ _ _)

pub scale_sum : (n : ℕ) (f : ℕ → ℚ) (c : ℚ) → sum_ℚ n (λ k. c *ℚ f k) ≡ c *ℚ sum_ℚ n f
scale_sum n f c = sum_ext n (λ k. c *ℚ f k) (λ k. f k *ℚ c) (λ k h. mul_comm c (f k)) ∙ (sum_scale n f c ∙ mul_comm _ c)

pub sum_neg : (n : ℕ) (f : ℕ → ℚ) → sum_ℚ n (λ k. neg_ℚ (f k)) ≡ neg_ℚ (sum_ℚ n f)
unfolding sum_ℚ
sum_neg zero f = sym neg-zero
sum_neg (suc n) f = ap (λ x. x +ℚ neg_ℚ (f n)) (sum_neg n f) ∙ ring (sum_ℚ n f ∷ f n ∷ []) (minus (v 0) :- v 1) (minus (v 0 :+ v 1)) refl

pub sum_exchange : (n m : ℕ) (f : ℕ → ℕ → ℚ) → sum_ℚ n (λ j. sum_ℚ m (λ i. f j i)) ≡ sum_ℚ m (λ i. sum_ℚ n (λ j. f j i))
unfolding sum_ℚ
sum_exchange zero m f = sym (sum_zero m (λ i. zero_ℚ) (λ k h. refl))
sum_exchange (suc n) m f = ap (λ x. x +ℚ sum_ℚ m (λ i. f n i)) (sum_exchange n m f) ∙ sym (sum_add m (λ i. sum_ℚ n (λ j. f j i)) (λ i. f n i))

pub unit_same : (p : ℕ) → delta p p ≡ one_ℚ
unfolding delta
unit_same p = ap (λ b. cond b one_ℚ zero_ℚ) (eq-eqb p p refl)

pub unit_other : (p i : ℕ) → p ≢ i → delta p i ≡ zero_ℚ
unfolding delta
unit_other p i h = ap (λ b. cond b one_ℚ zero_ℚ) (ne_eqb p i h)

pub sum_unit : (n : ℕ) (f : ℕ → ℚ) (p : ℕ) → p < n → sum_ℚ n (λ k. delta p k *ℚ f k) ≡ f p
unfolding sum_ℚ
sum_unit zero f p h = absurd (omega arith)
sum_unit (suc n) f p h = of (below_last p n h) (sum_unit n f p)
  where
    of : (p < n) ⊎ (p ≡ n) → (p < n → sum_ℚ n (λ k. delta p k *ℚ f k) ≡ f p) → sum_ℚ n (λ k. delta p k *ℚ f k) +ℚ delta p n *ℚ f n ≡ f p
    of (inl l) below = rw (unit_other p n (omega arith), below l) (rw (zero-mul (f n)) (add-zero (f p)))
    of (inr e) below =
        let z = sum_zero n (λ k. delta p k *ℚ f k) (λ k l. ap (λ x. x *ℚ f k) (unit_other p k (omega arith)) ∙ zero-mul (f k)) in
        rw z (zero-add _ ∙ (ap (λ x. delta p x *ℚ f x) (sym e) ∙ (ap (λ x. x *ℚ f p) (unit_same p) ∙ one-mul (f p))))
