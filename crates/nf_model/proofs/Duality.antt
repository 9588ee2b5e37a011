-- The law of duality: a cost is the sum of the reduced costs times the numbers and of the duals times the row
-- sums, and in a valid certificate each of these terms is the least.
use Rattle.std.proofs.Common.{◌≡◌, ◌≢◌, ℕ, [], ◌∷◌, List, length, Option, Some, refl, sym, ◌∙◌, ap, subst, subst₂, ⊎_elim}
use Rattle.nf_num.specs.Rational.{ℚ, zero_ℚ, ◌+ℚ◌, ◌*ℚ◌, ◌-ℚ◌, ◌≤ℚ◌, ◌<ℚ◌}
use Rattle.nf_num.specs.Sum.{sum_ℚ}
use Rattle.nf_num.proofs.Laws.{le_refl, le_antisymm, le_or_lt, le_of_lt, not_le_of_lt, mul_assoc, zero_mul}
use Rattle.nf_num.proofs.Order.{add_le_add}
use Rattle.nf_num.proofs.Field.{ring, codes}
use Rattle.nf_num.proofs.Sums.{sum_same, sum-add, sum-mul, sum-mul_right, sum_swap, sum_le}
use Rattle.nf_model.specs.declared.RowKind.{RowKind}
use Rattle.nf_model.specs.declared.RowKind.TheVariants.{Eq, Le, Ge}
use Rattle.nf_model.specs.Program.{LinearProgram, column, row, entry_at, at, over_columns, IsAtLeast, IsAtMost, Stands, row_sum, IsFeasible, cost_of, IsBest}
use Rattle.nf_model.specs.Certificate.{combined, reduced_cost, IsSigned, IsValidBest}
use Rattle.nf_model.proofs.Products.{mul_le_left, mul_le_right_neg}

-- combining rows and summing over columns come to one number in either order
pub exchanged : (n m : ℕ) (a : ℕ → ℕ → ℚ) (x y : ℕ → ℚ) → sum_ℚ n (λ j. sum_ℚ m (λ i. y i *ℚ a j i) *ℚ x j) ≡ sum_ℚ m (λ i. y i *ℚ sum_ℚ n (λ j. a j i *ℚ x j))
exchanged n m a x y =
    sum_same n _ _ (λ j b. sym (sum-mul_right m (x j) (λ i. y i *ℚ a j i)))
    ∙ sum_swap n m (λ j i. (y i *ℚ a j i) *ℚ x j)
    ∙ sum_same m _ _ (λ i b. sum_same n _ _ (λ j d. mul_assoc (y i) (a j i) (x j)) ∙ sum-mul n (y i) (λ j. a j i *ℚ x j))

-- the cost is the sum by reduced costs and the combined row sums
pub cost_split : (p : LinearProgram) (x y : List ℚ) → cost_of p x ≡ over_columns p (reduced_cost p y) x +ℚ sum_ℚ (length p.rows) (λ i. at y i *ℚ row_sum p x i)
cost_split p x y =
    sum_same n _ _ (λ j b. split (column p j).cost (combined p y j) (at x j))
    ∙ sum-add n (λ j. reduced_cost p y j *ℚ at x j) (λ j. combined p y j *ℚ at x j)
    ∙ ap (λ z. over_columns p (reduced_cost p y) x +ℚ z) (exchanged n (length p.rows) (λ j i. entry_at (column p j).entries i) (at x) (at y))
  where
    n : ℕ
    n = length p.columns

    split : (c w v : ℚ) → c *ℚ v ≡ (c -ℚ w) *ℚ v +ℚ w *ℚ v
    split c w v = ring (c ∷ w ∷ v ∷ []) (search codes depth 8) refl

-- ---- Best
pub best_column : (lower upper : Option ℚ) (d v w : ℚ) → (zero_ℚ <ℚ d → lower ≡ Some v) → (d <ℚ zero_ℚ → upper ≡ Some v) → IsAtLeast lower w → IsAtMost upper w → d *ℚ v ≤ℚ d *ℚ w
best_column lower upper d v w at_lower at_upper h k = ⊎_elim low high (le_or_lt d zero_ℚ)
  where
    none : zero_ℚ ≤ℚ d → d ≤ℚ zero_ℚ → d *ℚ v ≤ℚ d *ℚ w
    none a b = subst (λ z. z *ℚ v ≤ℚ z *ℚ w) (le_antisymm zero_ℚ d a b) (subst₂ (λ y z. y ≤ℚ z) (sym (zero_mul v)) (sym (zero_mul w)) (le_refl zero_ℚ))

    low : d ≤ℚ zero_ℚ → d *ℚ v ≤ℚ d *ℚ w
    low b = ⊎_elim (λ a. none a b) (λ a. mul_le_right_neg d w v b (subst (λ z. IsAtMost z w) (at_upper a) k)) (le_or_lt zero_ℚ d)

    high : zero_ℚ <ℚ d → d *ℚ v ≤ℚ d *ℚ w
    high a = mul_le_left d v w (le_of_lt _ _ a) (subst (λ z. IsAtLeast z w) (at_lower a) h)

pub best_row : (k : RowKind) (b y s t : ℚ) → Stands k s b → Stands k t b → IsSigned k y → (k ≢ Eq → y ≢ zero_ℚ → s ≡ b) → y *ℚ s ≤ℚ y *ℚ t
best_row Eq b y s t h k signed tight = subst (λ z. y *ℚ s ≤ℚ y *ℚ z) (h ∙ sym k) (le_refl (y *ℚ s))
best_row Le b y s t h k signed tight = ⊎_elim zero_dual negative (le_or_lt zero_ℚ y)
  where
    zero_dual : zero_ℚ ≤ℚ y → y *ℚ s ≤ℚ y *ℚ t
    zero_dual a = subst (λ z. z *ℚ s ≤ℚ z *ℚ t) (le_antisymm zero_ℚ y a signed) (subst₂ (λ y z. y ≤ℚ z) (sym (zero_mul s)) (sym (zero_mul t)) (le_refl zero_ℚ))

    negative : y <ℚ zero_ℚ → y *ℚ s ≤ℚ y *ℚ t
    negative a = mul_le_right_neg y t s signed (subst (λ z. t ≤ℚ z) (sym (tight (λ e. cc) (λ e. not_le_of_lt y zero_ℚ a (subst (λ z. zero_ℚ ≤ℚ z) (sym e) (le_refl zero_ℚ))))) k)
best_row Ge b y s t h k signed tight = ⊎_elim zero_dual positive (le_or_lt y zero_ℚ)
  where
    zero_dual : y ≤ℚ zero_ℚ → y *ℚ s ≤ℚ y *ℚ t
    zero_dual a = subst (λ z. z *ℚ s ≤ℚ z *ℚ t) (le_antisymm zero_ℚ y signed a) (subst₂ (λ y z. y ≤ℚ z) (sym (zero_mul s)) (sym (zero_mul t)) (le_refl zero_ℚ))

    positive : zero_ℚ <ℚ y → y *ℚ s ≤ℚ y *ℚ t
    positive a = mul_le_left y s t signed (subst (λ z. z ≤ℚ t) (sym (tight (λ e. cc) (λ e. not_le_of_lt zero_ℚ y a (subst (λ z. z ≤ℚ zero_ℚ) (sym e) (le_refl zero_ℚ))))) k)

-- a valid Best certificate shows that its list is best
pub best_is_best : (p : LinearProgram) (x y : List ℚ) → IsValidBest p x y → IsBest p x
best_is_best p x y v = record { feasible = v.feasible; least = least }
  where
    least : (other : List ℚ) → IsFeasible p other → cost_of p x ≤ℚ cost_of p other
    least z f =
        subst₂ (λ a b. a ≤ℚ b) (sym (cost_split p x y)) (sym (cost_split p z y))
        (add_le_add _ _ _ _
        (sum_le (length p.columns) _ _ (λ j b. best_column _ _ _ _ _ (v.costs_fit j b).0 (v.costs_fit j b).1 (f.within.in_bounds j b).0 (f.within.in_bounds j b).1))
        (sum_le (length p.rows) _ _ (λ i b. best_row (row p i).kind (row p i).right _ _ _ (v.feasible.rows_hold i b) (f.rows_hold i b) (v.duals_fit i b).0 (v.duals_fit i b).1)))
