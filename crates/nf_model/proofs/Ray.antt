-- A valid certificate shows that costs have no least: far enough along the direction the cost is below any number.
use Rattle.std.proofs.Common.{◌≡◌, ℕ, ◌⊎◌, inl, inr, [], ◌∷◌, List, length, Option, Some, None, refl, sym, ◌∙◌, ap, ap₂, subst, ⊎_elim}
use Rattle.nf_num.specs.Rational.{ℚ, zero_ℚ, one_ℚ, ◌+ℚ◌, ◌*ℚ◌, ◌-ℚ◌, inv_ℚ, ◌≤ℚ◌, ◌<ℚ◌}
use Rattle.nf_num.proofs.Laws.{le_refl, le_or_lt, le_of_lt, not_le_of_lt, zero_mul, mul_inv, mul_nonneg, zero_lt_one}
use Rattle.nf_num.proofs.Order.{lt_of_lt_of_le, ne_of_pos}
use Rattle.nf_num.proofs.Field.{ring, codes}
use Rattle.nf_num.proofs.Linear.{linear_le, linear_lt, le, lt}
use Rattle.nf_num.proofs.Linear as linear
use Rattle.nf_num.proofs.Sums.{sum_same, sum-add, sum-mul}
use Rattle.nf_model.specs.declared.RowKind.{RowKind}
use Rattle.nf_model.specs.declared.RowKind.TheVariants.{Eq, Le, Ge}
use Rattle.nf_model.specs.Program.{LinearProgram, column, row, lower_of, upper_of, entry_at, at, over_columns, IsAtLeast, IsAtMost, Stands, IsFeasible, cost_of}
use Rattle.nf_model.specs.Lists.{list_of}
use Rattle.nf_model.specs.Ray.{HasNoLeastCost, IsValidRay}
use Rattle.nf_model.proofs.Lists.{length-list_of, at-list_of}
use Rattle.nf_model.proofs.Products.{mul_le_left}

-- the inverse of a positive number
inv_positive : (r : ℚ) → zero_ℚ <ℚ r → zero_ℚ <ℚ inv_ℚ r
inv_positive r h = of (le_or_lt (inv_ℚ r) zero_ℚ)
  where
    none : r *ℚ zero_ℚ ≡ zero_ℚ
    none = ring (r ∷ []) (search codes depth 8) refl

    of : (inv_ℚ r ≤ℚ zero_ℚ) ⊎ (zero_ℚ <ℚ inv_ℚ r) → zero_ℚ <ℚ inv_ℚ r
    of (inr k) = k
    of (inl k) = absurd (not_le_of_lt zero_ℚ one_ℚ zero_lt_one (subst (λ z. z ≤ℚ zero_ℚ) (mul_inv r (ne_of_pos r h)) (subst (λ z. r *ℚ inv_ℚ r ≤ℚ z) none (mul_le_left r (inv_ℚ r) zero_ℚ (le_of_lt zero_ℚ r h) k))))

-- from x, t times the direction r
abbrev pub moved : LinearProgram → List ℚ → List ℚ → ℚ → List ℚ
moved p x r t = list_of (length p.columns) (λ j. at x j +ℚ t *ℚ at r j)

moved_term : (w v t d : ℚ) → w *ℚ (v +ℚ t *ℚ d) ≡ w *ℚ v +ℚ t *ℚ (w *ℚ d)
moved_term w v t d = ring (w ∷ v ∷ t ∷ d ∷ []) (search codes depth 8) refl

pub over_columns-moved : (p : LinearProgram) (w : ℕ → ℚ) (x r : List ℚ) (t : ℚ) → over_columns p w (moved p x r t) ≡ over_columns p w x +ℚ t *ℚ over_columns p w r
over_columns-moved p w x r t =
    sum_same n _ _ (λ j b. ap (λ z. w j *ℚ z) (at-list_of n _ j b) ∙ moved_term (w j) (at x j) t (at r j))
    ∙ sum-add n (λ j. w j *ℚ at x j) (λ j. t *ℚ (w j *ℚ at r j))
    ∙ ap (λ z. over_columns p w x +ℚ z) (sum-mul n t (λ j. w j *ℚ at r j))
  where
    n : ℕ
    n = length p.columns

above : (lower : Option ℚ) (v t d : ℚ) → IsAtLeast lower v → zero_ℚ ≤ℚ t → (d <ℚ zero_ℚ → lower ≡ None) → IsAtLeast lower (v +ℚ t *ℚ d)
above None v t d h a free = tt
above (Some l) v t d h a free = ⊎_elim (λ b. linear_le (l ∷ v ∷ t ∷ d ∷ []) (le h ∷ le (mul_nonneg t d a b) ∷ []) (search linear.codes depth 12) tt) (λ b. absurd (clash (free b))) (le_or_lt zero_ℚ d)
  where
    clash : Some l ≡ None → ⊥
    clash e = cc

below : (upper : Option ℚ) (v t d : ℚ) → IsAtMost upper v → zero_ℚ ≤ℚ t → (zero_ℚ <ℚ d → upper ≡ None) → IsAtMost upper (v +ℚ t *ℚ d)
below None v t d h a free = tt
below (Some u) v t d h a free = ⊎_elim (λ b. linear_le (u ∷ v ∷ t ∷ d ∷ []) (le h ∷ le (mul_le_left t d zero_ℚ a b) ∷ []) (search linear.codes depth 12) tt) (λ b. absurd (clash (free b))) (le_or_lt d zero_ℚ)
  where
    clash : Some u ≡ None → ⊥
    clash e = cc

row_kept : (k : RowKind) (s b q t : ℚ) → zero_ℚ ≤ℚ t → Stands k s b → Stands k q zero_ℚ → Stands k (s +ℚ t *ℚ q) b
row_kept Eq s b q t a h e = ap₂ (λ y z. y +ℚ t *ℚ z) h e ∙ ring (b ∷ t ∷ []) (search codes depth 8) refl
row_kept Le s b q t a h e = linear_le (s ∷ b ∷ q ∷ t ∷ []) (le h ∷ le (mul_le_left t q zero_ℚ a e) ∷ []) (search linear.codes depth 12) tt
row_kept Ge s b q t a h e = linear_le (s ∷ b ∷ q ∷ t ∷ []) (le h ∷ le (mul_le_left t zero_ℚ q a e) ∷ []) (search linear.codes depth 12) tt

pub moved_feasible : (p : LinearProgram) (x r : List ℚ) (t : ℚ) → IsValidRay p x r → zero_ℚ ≤ℚ t → IsFeasible p (moved p x r t)
moved_feasible p x r t v a = record {
  within = record {
    one_each = length-list_of n _;
    in_bounds = λ j b. (
      subst (IsAtLeast (lower_of (column p j))) (sym (at-list_of n _ j b)) (above _ _ _ _ (v.feasible.within.in_bounds j b).0 a (v.free j b).1),
      subst (IsAtMost (upper_of (column p j))) (sym (at-list_of n _ j b)) (below _ _ _ _ (v.feasible.within.in_bounds j b).1 a (v.free j b).0),
    );
  };
  rows_hold = λ i b. subst (λ z. Stands (row p i).kind z (row p i).right) (sym (over_columns-moved p (λ j. entry_at (column p j).entries i) x r t)) (row_kept (row p i).kind _ _ _ _ a (v.feasible.rows_hold i b) (v.rows_keep i b));
}
  where
    n : ℕ
    n = length p.columns

positive_rate : (rate : ℚ) → rate <ℚ zero_ℚ → zero_ℚ <ℚ zero_ℚ -ℚ rate
positive_rate rate h = linear_lt (rate ∷ []) (lt h ∷ []) (search linear.codes depth 12) tt

below_bound : (cost rate t bound : ℚ) → cost -ℚ bound <ℚ t *ℚ (zero_ℚ -ℚ rate) → cost +ℚ t *ℚ rate <ℚ bound
below_bound cost rate t bound h = linear_lt (cost ∷ rate ∷ t ∷ bound ∷ []) (lt h ∷ []) (search linear.codes depth 12) tt

-- some multiple of what is positive is above any number
pub archimedes : (a r : ℚ) → zero_ℚ <ℚ r → (t : ℚ) × (zero_ℚ ≤ℚ t) × (a <ℚ t *ℚ r)
archimedes a r h = of (le_or_lt zero_ℚ a)
  where
    i : ℚ
    i = inv_ℚ r

    one : r *ℚ i ≡ one_ℚ
    one = mul_inv r (λ e. ne_of_pos r h e)

    pos_i : zero_ℚ <ℚ i
    pos_i = inv_positive r h

    -- (a + 1) / r is enough
    above_it : a <ℚ ((a +ℚ one_ℚ) *ℚ i) *ℚ r
    above_it = subst (λ z. a <ℚ z) (sym (brought ∙ (ap (λ z. (a +ℚ one_ℚ) *ℚ z) one ∙ kept))) (linear_lt (a ∷ []) [] (search linear.codes depth 12) tt)
      where
        brought : ((a +ℚ one_ℚ) *ℚ i) *ℚ r ≡ (a +ℚ one_ℚ) *ℚ (r *ℚ i)
        brought = ring (a ∷ i ∷ r ∷ []) (search codes depth 8) refl

        kept : (a +ℚ one_ℚ) *ℚ one_ℚ ≡ a +ℚ one_ℚ
        kept = ring (a ∷ []) (search codes depth 8) refl

    of : (zero_ℚ ≤ℚ a) ⊎ (a <ℚ zero_ℚ) → (t : ℚ) × (zero_ℚ ≤ℚ t) × (a <ℚ t *ℚ r)
    of (inl k) = ((a +ℚ one_ℚ) *ℚ i, mul_nonneg (a +ℚ one_ℚ) i (linear_le (a ∷ []) (le k ∷ []) (search linear.codes depth 12) tt) (le_of_lt zero_ℚ i pos_i), above_it)
    of (inr k) = (zero_ℚ, le_refl zero_ℚ, lt_of_lt_of_le a zero_ℚ (zero_ℚ *ℚ r) k (subst (λ z. zero_ℚ ≤ℚ z) (sym (zero_mul r)) (le_refl zero_ℚ)))

-- a valid Ray certificate shows that feasible costs have no least
pub ray_unbounded : (p : LinearProgram) (x r : List ℚ) → IsValidRay p x r → HasNoLeastCost p
ray_unbounded p x r v bound =
    let t = archimedes (cost_of p x -ℚ bound) (zero_ℚ -ℚ cost_of p r) (positive_rate _ v.lowers) in (
      moved p x r t.0,
      moved_feasible p x r t.0 v t.1,
      subst (λ z. z <ℚ bound) (sym (over_columns-moved p (λ j. (column p j).cost) x r t.0)) (below_bound (cost_of p x) (cost_of p r) t.0 bound t.2),
    )
