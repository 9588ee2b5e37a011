-- Rows whose dual is 0 play no part in a gap: what passes in it passes in the gap without them.
use Rattle.std.proofs.Common.{◌≡◌, inl, inr, ⊎_elim, ◌⊎◌, ℕ, ◌<◌, ◌≤◌, ◌+◌, ◌-◌, refl, sym, ◌∙◌, ap, ap₂, subst, arith, Bool, true, false, IsTrue, lt-ltb, le-ltb}
use Rattle.std.specs.Prelude.{if◌then◌else◌, nat_lt}
use Rattle.nf_num.specs.Rational.{ℚ, zero_ℚ, ◌+ℚ◌, ◌*ℚ◌, neg_ℚ}
use Rattle.nf_num.proofs.Laws.{zero_mul}
use Rattle.nf_num.proofs.Rewrites.{add_zero}
use Rattle.nf_num.proofs.Sums.{sum-split, sum_same, sum_of_zeros}
use Rattle.nf_frac.specs.declared.Op.{Op}
use Rattle.nf_frac.specs.declared.Op.TheVariants.{Add, Sub, Mul, Div}
use Rattle.nf_frac.specs.declared.Passed.{Passed}
use Rattle.nf_frac.specs.Range.{Passes}
use Rattle.nf_simplex.proofs.Orders.{less_or_not}
use Rattle.nf_sums.specs.Terms.{Terms, value_of, chosen_sum, with_sign, IsOnFactors, AreSums, ArisesIn, PassesIn, Is}
use Rattle.nf_sums.specs.Terms.Term.{Product}
use Rattle.nf_sums.specs.Rows.{gap_terms}
use Rattle.nf_duals.proofs.Trailing.{no_zero_factor}

-- the choice of a gap's terms, where k rows behind the first m are left out
abbrev without : ℕ → ℕ → (ℕ → Bool) → ℕ → Bool
without m k chosen t = if nat_lt t m then chosen t else chosen (t + k)

without_low : (m k : ℕ) (chosen : ℕ → Bool) (t : ℕ) → t < m → without m k chosen t ≡ chosen t
without_low m k chosen t h = ap (λ c. if c then chosen t else chosen (t + k)) (lt-ltb t m h)

without_high : (m k : ℕ) (chosen : ℕ → Bool) (t : ℕ) → m ≤ t → without m k chosen t ≡ chosen (t + k)
without_high m k chosen t h = ap (λ c. if c then chosen t else chosen (t + k)) (le-ltb t m h)

module _ (y right : ℕ → ℚ) (n : ℕ) (f bound : ℕ → ℚ) where
  abbrev gap : ℕ → Terms
  gap m = gap_terms m y right n f bound

  first_term : (m t : ℕ) → t < m → (gap m).term t ≡ Product (y t) (right t)
  first_term m t h = ap (λ c. if c then Product (y t) (right t) else Product (neg_ℚ (f (t - m))) (bound (t - m))) (lt-ltb t m h)

  second_term : (m i t : ℕ) → t ≡ m + i → (gap m).term t ≡ Product (neg_ℚ (f i)) (bound i)
  second_term m i t e =
      ap (λ c. if c then Product (y t) (right t) else Product (neg_ℚ (f (t - m))) (bound (t - m))) (le-ltb t m (omega arith))
      ∙ ap (λ j. Product (neg_ℚ (f j)) (bound j)) (let same : t - m ≡ i = omega arith in same)

  -- what a term adds to a sum of chosen ones
  abbrev part : ℕ → (ℕ → Bool) → ℕ → ℚ
  part m chosen t = if chosen t then value_of ((gap m).term t) else zero_ℚ

  module _ (m k : ℕ) (zeros : (i : ℕ) → m ≤ i → y i ≡ zero_ℚ) where
    low_same : (chosen : ℕ → Bool) (t : ℕ) → t < m → part (m + k) chosen t ≡ part m (without m k chosen) t
    low_same chosen t h =
        ap (λ z. if chosen t then value_of z else zero_ℚ) (first_term (m + k) t (omega arith))
        ∙ sym (ap₂ (λ c z. if c then value_of z else zero_ℚ) (without_low m k chosen t h) (first_term m t h))

    high_same : (chosen : ℕ → Bool) (i : ℕ) → part (m + k) chosen (m + k + i) ≡ part m (without m k chosen) (m + i)
    high_same chosen i =
        ap (λ z. if chosen (m + k + i) then value_of z else zero_ℚ) (second_term (m + k) i (m + k + i) refl)
        ∙ sym (ap₂ (λ c z. if c then value_of z else zero_ℚ) (without_high m k chosen (m + i) (omega arith) ∙ ap chosen (let e : m + i + k ≡ m + k + i = omega arith in e)) (second_term m i (m + i) refl))

    middle_zero : (chosen : ℕ → Bool) (i : ℕ) → i < k → part (m + k) chosen (m + i) ≡ zero_ℚ
    middle_zero chosen i h =
        ap (λ z. if chosen (m + i) then value_of z else zero_ℚ) (first_term (m + k) (m + i) (omega arith))
        ∙ sides (chosen (m + i))
      where
        sides : (c : Bool) → (if c then y (m + i) *ℚ right (m + i) else zero_ℚ) ≡ zero_ℚ
        sides true = ap (λ z. z *ℚ right (m + i)) (zeros (m + i) (omega arith)) ∙ zero_mul (right (m + i))
        sides false = refl

    chosen_cut : (chosen : ℕ → Bool) → chosen_sum (gap (m + k)) chosen ≡ chosen_sum (gap m) (without m k chosen)
    chosen_cut chosen =
        sum-split (m + k) n (part (m + k) chosen)
        ∙ (ap₂ (λ a b. a +ℚ b)
        (sum-split m k (part (m + k) chosen)
        ∙ (ap₂ (λ a b. a +ℚ b) (sum_same m _ _ (λ t h. low_same chosen t h)) (sum_of_zeros k (λ i. part (m + k) chosen (m + i)) (λ i h. middle_zero chosen i h))
        ∙ add_zero _))
        (sum_same n _ _ (λ i h. high_same chosen i))
        ∙ sym (sum-split m n (part m (without m k chosen))))

    sums_cut : (u v : ℚ) → AreSums (gap (m + k)) u v → AreSums (gap m) u v
    sums_cut u v s = record {
      some = without m k s.some;
      others = without m k s.others;
      apart = λ t a b. both t a b (less_or_not t m);
      turned = s.turned;
      left_is = s.left_is ∙ ap (with_sign s.turned) (chosen_cut s.some);
      right_is = s.right_is ∙ ap (with_sign s.turned) (chosen_cut s.others);
    }
      where
        both : (t : ℕ) → IsTrue (without m k s.some t) → IsTrue (without m k s.others t) → (t < m) ⊎ (m ≤ t) → ⊥
        both t a b (inl h) = s.apart t (sym (without_low m k s.some t h) ∙ a) (sym (without_low m k s.others t h) ∙ b)
        both t a b (inr h) = s.apart (t + k) (sym (without_high m k s.some t h) ∙ a) (sym (without_high m k s.others t h) ∙ b)

    factors_cut : (u v : ℚ) → Passes Mul u v → (t : ℕ) → t < m + k + n → IsOnFactors ((gap (m + k)).term t) Mul u v → (r : ℕ) × (r < m + n) × IsOnFactors ((gap m).term r) Mul u v
    factors_cut u v passes t h w = ⊎_elim low (λ a. ⊎_elim (middle a) (high a) (less_or_not t (m + k))) (less_or_not t m)
      where
        low : t < m → (r : ℕ) × (r < m + n) × IsOnFactors ((gap m).term r) Mul u v
        low a = (t, omega arith, subst (λ z. IsOnFactors z Mul u v) (first_term (m + k) t (omega arith) ∙ sym (first_term m t a)) w)

        middle : m ≤ t → t < m + k → (r : ℕ) × (r < m + n) × IsOnFactors ((gap m).term r) Mul u v
        middle a b = absurd (no_zero_factor (y t) (right t) u v (zeros t a) (subst (λ z. IsOnFactors z Mul u v) (first_term (m + k) t b) w) passes)

        high : m ≤ t → m + k ≤ t → (r : ℕ) × (r < m + n) × IsOnFactors ((gap m).term r) Mul u v
        high a b =
            let e : t ≡ m + k + (t - (m + k)) = omega arith in
            (m + (t - (m + k)), omega arith, subst (λ z. IsOnFactors z Mul u v) (second_term (m + k) (t - (m + k)) t e ∙ sym (second_term m (t - (m + k)) (m + (t - (m + k))) refl)) w)

    -- a gap divides nothing
    quotient_none : (u v : ℚ) (t : ℕ) → t < m + k + n → IsOnFactors ((gap (m + k)).term t) Div u v → ⊥
    quotient_none u v t h w = ⊎_elim low high (less_or_not t (m + k))
      where
        low : t < m + k → ⊥
        low a = subst (λ z. IsOnFactors z Div u v) (first_term (m + k) t a) w

        high : m + k ≤ t → ⊥
        high a = let e : t ≡ m + k + (t - (m + k)) = omega arith in subst (λ z. IsOnFactors z Div u v) (second_term (m + k) (t - (m + k)) t e) w

    arises_cut : (op : Op) (u v : ℚ) → Passes op u v → ArisesIn (gap (m + k)) op u v → ArisesIn (gap m) op u v
    arises_cut Add u v p s = sums_cut u v s
    arises_cut Sub u v p s = sums_cut u (neg_ℚ v) s
    arises_cut Mul u v p (t, h, w) = factors_cut u v p t h w
    arises_cut Div u v p (t, h, w) = absurd (quotient_none u v t h w)

    pub gap_without : (q : Passed) → PassesIn (Is (gap (m + k))) q → PassesIn (Is (gap m)) q
    gap_without q p = record {
      passes = p.passes;
      row = gap m;
      is_one = refl;
      arises = arises_cut q.op q.left q.right p.passes (subst (λ (t : Terms). ArisesIn t q.op q.left q.right) p.is_one p.arises);
    }
