-- The greatest value of a sum within the bounds, column by column.
use Rattle.std.proofs.Common.{◌≡◌, ◌≢◌, ℕ, ◌<◌, ◌⊎◌, inl, inr, [], ◌∷◌, List, length, Option, Some, None, refl, sym, ◌∙◌, ap, subst, subst₂, ⊎_elim, arith}
use Rattle.nf_num.specs.Rational.{ℚ, zero_ℚ, one_ℚ, ◌+ℚ◌, ◌*ℚ◌, neg_ℚ, ◌≤ℚ◌, ◌<ℚ◌}
use Rattle.nf_num.specs.Sum.{delta}
use Rattle.nf_num.proofs.Laws.{le_refl, le_antisymm, le_or_lt, le_of_lt, not_le_of_lt, zero_mul}
use Rattle.nf_num.proofs.Field.{ring, codes}
use Rattle.nf_num.proofs.Linear.{linear_le, le, lt}
use Rattle.nf_num.proofs.Linear as linear
use Rattle.nf_num.proofs.Sums.{sum_same, sum-add, sum_le, sum_one, delta_same, delta_other}
use Rattle.nf_model.specs.Program.{LinearProgram, column, lower_of, upper_of, at, over_columns, IsAtLeast, IsAtMost, IsWithinBounds, HoldsBelow}
use Rattle.nf_model.specs.Lists.{list_of}
use Rattle.nf_model.specs.Problem.{AreInOrder}
use Rattle.nf_model.specs.Farkas.{IsGreatest, IsBounded, ColumnIsBounded}
use Rattle.nf_model.proofs.Lists.{length-list_of, at-list_of}
use Rattle.nf_model.proofs.Products.{mul_le_left, mul_le_right_neg}

-- v is within the bounds, at the upper bound for a positive w, and at the lower one for a negative w
pub record IsGreatestPoint (lower upper : Option ℚ) (w v : ℚ) : Type 0 where
  pub within : IsAtLeast lower v × IsAtMost upper v
  pub at_upper : zero_ℚ <ℚ w → upper ≡ Some v
  pub at_lower : w <ℚ zero_ℚ → lower ≡ Some v

-- its multiple by w is the greatest
pub term_greatest : (lower upper : Option ℚ) (w v z : ℚ) → IsGreatestPoint lower upper w v → IsAtLeast lower z → IsAtMost upper z → w *ℚ z ≤ℚ w *ℚ v
term_greatest lower upper w v z g h k = ⊎_elim low high (le_or_lt w zero_ℚ)
  where
    none : zero_ℚ ≤ℚ w → w ≤ℚ zero_ℚ → w *ℚ z ≤ℚ w *ℚ v
    none a b = subst (λ c. c *ℚ z ≤ℚ c *ℚ v) (le_antisymm zero_ℚ w a b) (subst₂ (λ a b. a ≤ℚ b) (sym (zero_mul z)) (sym (zero_mul v)) (le_refl zero_ℚ))

    low : w ≤ℚ zero_ℚ → w *ℚ z ≤ℚ w *ℚ v
    low b = ⊎_elim (λ a. none a b) (λ a. mul_le_right_neg w v z b (subst (λ o. IsAtLeast o z) (g.at_lower a) h)) (le_or_lt zero_ℚ w)

    high : zero_ℚ <ℚ w → w *ℚ z ≤ℚ w *ℚ v
    high a = mul_le_left w z v (le_of_lt _ _ a) (subst (λ o. IsAtMost o z) (g.at_upper a) k)

-- where each column has such a number, the sum is the greatest
pub greatest_by_columns : (p : LinearProgram) (w : ℕ → ℚ) (x : List ℚ) → length x ≡ length p.columns
    → HoldsBelow (length p.columns) (λ j. IsGreatestPoint (lower_of (column p j)) (upper_of (column p j)) (w j) (at x j)) → IsGreatest p w (over_columns p w x)
greatest_by_columns p w x one points = record {
  bound = λ z h. sum_le (length p.columns) _ _ (λ j b. term_greatest (lower_of (column p j)) (upper_of (column p j)) (w j) (at x j) (at z j) (points j b) (h.in_bounds j b).0 (h.in_bounds j b).1);
  reached = (x, record { one_each = one; in_bounds = λ j b. (points j b).within }, refl);
}

-- a column whose multiples are bounded has such a number
pub greatest_point : (lower upper : Option ℚ) (w : ℚ) → AreInOrder lower upper → IsBounded lower upper w → (v : ℚ) × IsGreatestPoint lower upper w v
greatest_point lower upper w h b = of (le_or_lt w zero_ℚ) lower upper h b
  where
    Point : Option ℚ → Option ℚ → Type 0
    Point l u = (v : ℚ) × IsGreatestPoint l u w v

    low_first : w ≤ℚ zero_ℚ → (l u : Option ℚ) → AreInOrder l u → IsBounded l u w → Point l u
    low_first k (Some l) u i f = (l, record { within = (le_refl l, i); at_upper = λ a. absurd (not_le_of_lt zero_ℚ w a k); at_lower = λ a. refl })
    low_first k None (Some u) i f = (u, record { within = (tt, le_refl u); at_upper = λ a. absurd (not_le_of_lt zero_ℚ w a k); at_lower = λ a. absurd (f.1 a refl) })
    low_first k None None i f = (zero_ℚ, record { within = (tt, tt); at_upper = λ a. absurd (not_le_of_lt zero_ℚ w a k); at_lower = λ a. absurd (f.1 a refl) })

    high_first : zero_ℚ <ℚ w → (l u : Option ℚ) → AreInOrder l u → IsBounded l u w → Point l u
    high_first k (Some l) (Some u) i f = (u, record { within = (i, le_refl u); at_upper = λ a. refl; at_lower = λ a. absurd (not_le_of_lt w zero_ℚ a (le_of_lt zero_ℚ w k)) })
    high_first k None (Some u) i f = (u, record { within = (tt, le_refl u); at_upper = λ a. refl; at_lower = λ a. absurd (not_le_of_lt w zero_ℚ a (le_of_lt zero_ℚ w k)) })
    high_first k l None i f = absurd (f.0 k refl)

    of : (w ≤ℚ zero_ℚ) ⊎ (zero_ℚ <ℚ w) → (l u : Option ℚ) → AreInOrder l u → IsBounded l u w → Point l u
    of (inl k) = low_first k
    of (inr k) = high_first k

-- there is at most one greatest value
pub greatest_unique : (p : LinearProgram) (w : ℕ → ℚ) (v u : ℚ) → IsGreatest p w v → IsGreatest p w u → v ≡ u
greatest_unique p w v u g h =
    le_antisymm v u (subst (λ z. z ≤ℚ u) g.reached.2 (h.bound g.reached.0 g.reached.1)) (subst (λ z. z ≤ℚ v) h.reached.2 (g.bound h.reached.0 h.reached.1))

-- ---- there is a greatest value only where each column is bounded
-- x with d more at column j
raised : LinearProgram → List ℚ → ℕ → ℚ → List ℚ
raised p x j d = list_of (length p.columns) (λ k. at x k +ℚ d *ℚ delta j k)

equal_or_not : (a b : ℕ) → (a ≡ b) ⊎ (a ≢ b)
equal_or_not a b = grind arith

raised_sum : (p : LinearProgram) (w : ℕ → ℚ) (x : List ℚ) (j : ℕ) (d : ℚ) → j < length p.columns → over_columns p w (raised p x j d) ≡ over_columns p w x +ℚ w j *ℚ d
unfolding raised
raised_sum p w x j d b =
    sum_same n _ _ (λ k c. ap (λ z. w k *ℚ z) (at-list_of n _ k c) ∙ split (w k) (at x k) d (delta j k))
    ∙ (sum-add n (λ k. w k *ℚ at x k) (λ k. w k *ℚ d *ℚ delta j k)
    ∙ ap (λ z. over_columns p w x +ℚ z) (sum_one n j (λ k. w k *ℚ d *ℚ delta j k) b (λ k c e. ap (λ z. w k *ℚ d *ℚ z) (delta_other j k (λ q. e (sym q))) ∙ none (w k *ℚ d)) ∙ (ap (λ z. w j *ℚ d *ℚ z) (delta_same j) ∙ all (w j *ℚ d))))
  where
    n : ℕ
    n = length p.columns

    split : (a v e z : ℚ) → a *ℚ (v +ℚ e *ℚ z) ≡ a *ℚ v +ℚ a *ℚ e *ℚ z
    split a v e z = ring (a ∷ v ∷ e ∷ z ∷ []) (search codes depth 8) refl

    none : (a : ℚ) → a *ℚ zero_ℚ ≡ zero_ℚ
    none a = ring (a ∷ []) (search codes depth 8) refl

    all : (a : ℚ) → a *ℚ one_ℚ ≡ a
    all a = ring (a ∷ []) (search codes depth 8) refl

raised_within : (p : LinearProgram) (x : List ℚ) (j : ℕ) (d : ℚ) → IsWithinBounds p x → IsAtLeast (lower_of (column p j)) (at x j +ℚ d) → IsAtMost (upper_of (column p j)) (at x j +ℚ d) → IsWithinBounds p (raised p x j d)
unfolding raised
raised_within p x j d h low high = record {
  one_each = length-list_of n _;
  in_bounds = λ k b. subst (Between k) (sym (at-list_of n _ k b)) (each k (equal_or_not j k) (h.in_bounds k b));
}
  where
    n : ℕ
    n = length p.columns

    Between : ℕ → ℚ → Type 0
    Between k z = IsAtLeast (lower_of (column p k)) z × IsAtMost (upper_of (column p k)) z

    all : (v e : ℚ) → v +ℚ e ≡ v +ℚ e *ℚ one_ℚ
    all v e = ring (v ∷ e ∷ []) (search codes depth 8) refl

    none : (v e : ℚ) → v ≡ v +ℚ e *ℚ zero_ℚ
    none v e = ring (v ∷ e ∷ []) (search codes depth 8) refl

    each : (k : ℕ) → (j ≡ k) ⊎ (j ≢ k) → Between k (at x k) → Between k (at x k +ℚ d *ℚ delta j k)
    each k (inl e) other = subst (λ m. Between m (at x m +ℚ d *ℚ delta j m)) e (subst (λ z. Between j z) (all (at x j) d ∙ ap (λ z. at x j +ℚ d *ℚ z) (sym (delta_same j))) (low, high))
    each k (inr e) other = subst (Between k) (none (at x k) d ∙ ap (λ z. at x k +ℚ d *ℚ z) (sym (delta_other j k e))) other

-- where x reaches the greatest value, no step within the bounds adds to it
no_step_up : (p : LinearProgram) (w : ℕ → ℚ) (v : ℚ) (g : IsGreatest p w v) (j : ℕ) (d : ℚ) → j < length p.columns → IsAtLeast (lower_of (column p j)) (at g.reached.0 j +ℚ d) → IsAtMost (upper_of (column p j)) (at g.reached.0 j +ℚ d) → w j *ℚ d ≤ℚ zero_ℚ
no_step_up p w v g j d b low high =
    of (over_columns p w g.reached.0) v (w j *ℚ d) (subst₂ (λ y z. y ≤ℚ z) (raised_sum p w g.reached.0 j d b) (sym g.reached.2) (g.bound (raised p g.reached.0 j d) (raised_within p g.reached.0 j d g.reached.1 low high)))
  where
    of : (a v c : ℚ) → a +ℚ c ≤ℚ a → c ≤ℚ zero_ℚ
    of a v c h = linear_le (a ∷ c ∷ []) (le h ∷ []) (search linear.codes depth 12) tt

higher : (lower : Option ℚ) (v : ℚ) → IsAtLeast lower v → IsAtLeast lower (v +ℚ one_ℚ)
higher None v h = tt
higher (Some l) v h = linear_le (l ∷ v ∷ []) (le h ∷ []) (search linear.codes depth 12) tt

lower_still : (upper : Option ℚ) (v : ℚ) → IsAtMost upper v → IsAtMost upper (v +ℚ neg_ℚ one_ℚ)
lower_still None v h = tt
lower_still (Some u) v h = linear_le (u ∷ v ∷ []) (le h ∷ []) (search linear.codes depth 12) tt

pub greatest_needs_bounds : (p : LinearProgram) (w : ℕ → ℚ) (v : ℚ) → IsGreatest p w v → HoldsBelow (length p.columns) (ColumnIsBounded p w)
greatest_needs_bounds p w v g j b = (
  λ a e. not_le_of_lt zero_ℚ (w j) a (up (w j) (no_step_up p w v g j one_ℚ b (higher (lower_of (column p j)) _ (g.reached.1.in_bounds j b).0) (subst (λ u. IsAtMost u (at g.reached.0 j +ℚ one_ℚ)) (sym e) tt))),
  λ a e. not_le_of_lt (w j) zero_ℚ a (down (w j) (no_step_up p w v g j (neg_ℚ one_ℚ) b (subst (λ l. IsAtLeast l (at g.reached.0 j +ℚ neg_ℚ one_ℚ)) (sym e) tt) (lower_still (upper_of (column p j)) _ (g.reached.1.in_bounds j b).1))),
)
  where
    up : (a : ℚ) → a *ℚ one_ℚ ≤ℚ zero_ℚ → a ≤ℚ zero_ℚ
    up a h = linear_le (a ∷ []) (le h ∷ []) (search linear.codes depth 12) tt

    down : (a : ℚ) → a *ℚ neg_ℚ one_ℚ ≤ℚ zero_ℚ → zero_ℚ ≤ℚ a
    down a h = linear_le (a ∷ []) (le h ∷ []) (search linear.codes depth 12) tt
