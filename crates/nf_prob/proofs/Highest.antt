-- The greatest value of a sum over the columns within the bounds is the sum of the columns' greatest multiples.
use Rattle.std.proofs.Common.{◌≡◌, ◌≢◌, ◌⊎◌, inl, inr, ℕ, ◌<◌, length, Option, Some, None, refl, sym, ◌∙◌, ap, subst, ⊎_elim}
use Rattle.std.specs.Prelude.{MatchOption}
use Rattle.nf_num.specs.Rational.{ℚ, zero_ℚ, ◌*ℚ◌, ◌<ℚ◌}
use Rattle.nf_num.proofs.Laws.{le_refl, le_antisymm, le_or_lt, le_of_lt, not_le_of_lt, zero_mul}
use Rattle.nf_num.proofs.Order.{lt_irrefl}
use Rattle.nf_num.proofs.Sums.{sum_same}
use Rattle.nf_model.specs.Lists.{list_of}
use Rattle.nf_model.specs.Program.{LinearProgram, column, lower_of, upper_of, IsAtLeast, IsAtMost, HoldsBelow, over_columns}
use Rattle.nf_model.specs.Problem.{AreInOrder}
use Rattle.nf_model.specs.Farkas.{IsBounded, ColumnIsBounded, IsGreatest}
use Rattle.nf_model.proofs.Lists.{length-list_of, at-list_of}
use Rattle.nf_model.proofs.Greatest.{IsGreatestPoint, greatest_by_columns}
use Rattle.nf_prob.specs.Highest.{bound_or_zero, highest, highest_sum}

both_ways : (a b : ℚ) → a <ℚ b → b <ℚ a → ⊥
both_ways a b h k = not_le_of_lt a b h (le_of_lt b a k)

-- ---- what the place is, by the sign
pub highest-positive : (lower upper : Option ℚ) (w : ℚ) → zero_ℚ <ℚ w → highest lower upper w ≡ bound_or_zero upper
unfolding highest
highest-positive lower upper w h = elim (le_or_lt w zero_ℚ) as (λ c. ⊎_elim (λ _. ⊎_elim (λ _. zero_ℚ) (λ _. bound_or_zero lower) (le_or_lt zero_ℚ w)) (λ _. bound_or_zero upper) c ≡ bound_or_zero upper) [
  | inl k ↦ absurd (not_le_of_lt zero_ℚ w h k)
  | inr k ↦ refl
]

pub highest-negative : (lower upper : Option ℚ) (w : ℚ) → w <ℚ zero_ℚ → highest lower upper w ≡ bound_or_zero lower
unfolding highest
highest-negative lower upper w h = elim (le_or_lt w zero_ℚ) as (λ c. ⊎_elim (λ _. ⊎_elim (λ _. zero_ℚ) (λ _. bound_or_zero lower) (le_or_lt zero_ℚ w)) (λ _. bound_or_zero upper) c ≡ bound_or_zero lower) [
  | inl k ↦ elim (le_or_lt zero_ℚ w) as (λ c. ⊎_elim (λ _. zero_ℚ) (λ _. bound_or_zero lower) c ≡ bound_or_zero lower) [
    | inl m ↦ absurd (not_le_of_lt w zero_ℚ h m)
    | inr m ↦ refl
  ]
  | inr k ↦ absurd (both_ways w zero_ℚ h k)
]

pub highest-zero : (lower upper : Option ℚ) (w : ℚ) → w ≡ zero_ℚ → highest lower upper w ≡ zero_ℚ
unfolding highest
highest-zero lower upper w h = elim (le_or_lt w zero_ℚ) as (λ c. ⊎_elim (λ _. ⊎_elim (λ _. zero_ℚ) (λ _. bound_or_zero lower) (le_or_lt zero_ℚ w)) (λ _. bound_or_zero upper) c ≡ zero_ℚ) [
  | inl k ↦ elim (le_or_lt zero_ℚ w) as (λ c. ⊎_elim (λ _. zero_ℚ) (λ _. bound_or_zero lower) c ≡ zero_ℚ) [
    | inl m ↦ refl
    | inr m ↦ absurd (lt_irrefl zero_ℚ (subst (λ z. z <ℚ zero_ℚ) h m))
  ]
  | inr k ↦ absurd (lt_irrefl zero_ℚ (subst (λ z. zero_ℚ <ℚ z) h k))
]

-- ---- a test of the sign finds the place
abbrev pub Found : Option ℚ → Option ℚ → ℚ → Option ℚ → Type 0
Found lower upper w r = MatchOption r (IsBounded lower upper w → ⊥) (λ place. IsBounded lower upper w × (place ≡ highest lower upper w))

pub found_below : (lower upper : Option ℚ) (w z : ℚ) → z ≡ zero_ℚ → w <ℚ z → Found lower upper w lower
found_below lower upper w z e h = of lower
  where
    negative : w <ℚ zero_ℚ
    negative = subst (λ u. w <ℚ u) e h

    of : (l : Option ℚ) → Found l upper w l
    of None = λ b. b.1 negative refl
    of (Some l) = ((λ a. absurd (both_ways _ _ a negative), λ _ q. cc), sym (highest-negative (Some l) upper w negative))

pub found_above : (lower upper : Option ℚ) (w z : ℚ) → z ≡ zero_ℚ → z <ℚ w → Found lower upper w upper
found_above lower upper w z e h = of upper
  where
    positive : zero_ℚ <ℚ w
    positive = subst (λ u. u <ℚ w) e h

    of : (u : Option ℚ) → Found lower u w u
    of None = λ b. b.0 positive refl
    of (Some u) = ((λ _ q. cc, λ a. absurd (both_ways _ _ a positive)), sym (highest-positive lower (Some u) w positive))

pub found_at_zero : (lower upper : Option ℚ) (w z place : ℚ) → z ≡ zero_ℚ → w ≡ z → place ≡ zero_ℚ → IsBounded lower upper w × (place ≡ highest lower upper w)
found_at_zero lower upper w z place e h d =
    let none : w ≡ zero_ℚ = h ∙ e in
    ((λ a. absurd (lt_irrefl zero_ℚ (subst (λ u. zero_ℚ <ℚ u) none a)), λ a. absurd (lt_irrefl zero_ℚ (subst (λ u. u <ℚ zero_ℚ) none a))), d ∙ sym (highest-zero lower upper w none))

-- ---- numbers within the bounds at which the multiples are greatest
by_sign : (w : ℚ) → (w <ℚ zero_ℚ) ⊎ ((w ≡ zero_ℚ) ⊎ (zero_ℚ <ℚ w))
by_sign w = elim (le_or_lt w zero_ℚ) [
  | inl k ↦ elim (le_or_lt zero_ℚ w) [ inl m ↦ inr (inl (le_antisymm w zero_ℚ k m)) | inr m ↦ inl m ]
  | inr k ↦ inr (inr k)
]

either_bound : Option ℚ → Option ℚ → ℚ
either_bound (Some a) second = a
either_bound None second = bound_or_zero second

abbrev point_by : Option ℚ → Option ℚ → (w : ℚ) → (w <ℚ zero_ℚ) ⊎ ((w ≡ zero_ℚ) ⊎ (zero_ℚ <ℚ w)) → ℚ
point_by lower upper w c = ⊎_elim (λ _. bound_or_zero lower) (λ t. ⊎_elim (λ _. either_bound lower upper) (λ _. bound_or_zero upper) t) c

at_lower : (lower upper : Option ℚ) → AreInOrder lower upper → lower ≢ None → (IsAtLeast lower (bound_or_zero lower) × IsAtMost upper (bound_or_zero lower)) × (lower ≡ Some (bound_or_zero lower))
at_lower None upper h n = absurd (n refl)
at_lower (Some l) upper h n = ((le_refl l, h), refl)

at_upper : (lower upper : Option ℚ) → AreInOrder lower upper → upper ≢ None → (IsAtLeast lower (bound_or_zero upper) × IsAtMost upper (bound_or_zero upper)) × (upper ≡ Some (bound_or_zero upper))
at_upper lower None h n = absurd (n refl)
at_upper (Some l) (Some u) h n = ((h, le_refl u), refl)
at_upper None (Some u) h n = ((tt, le_refl u), refl)

at_either : (lower upper : Option ℚ) → AreInOrder lower upper → IsAtLeast lower (either_bound lower upper) × IsAtMost upper (either_bound lower upper)
unfolding either_bound
at_either (Some l) upper h = (le_refl l, h)
at_either None (Some u) h = (tt, le_refl u)
at_either None None h = (tt, tt)

-- a number within the bounds at which the multiple is greatest, and the multiple is the same as at the place
abbrev IsPoint : Option ℚ → Option ℚ → ℚ → ℚ → Type 0
IsPoint lower upper w v = IsGreatestPoint lower upper w v × (w *ℚ v ≡ w *ℚ highest lower upper w)

point_is : (lower upper : Option ℚ) (w : ℚ) → AreInOrder lower upper → IsBounded lower upper w → (c : (w <ℚ zero_ℚ) ⊎ ((w ≡ zero_ℚ) ⊎ (zero_ℚ <ℚ w))) → IsPoint lower upper w (point_by lower upper w c)
point_is lower upper w o b (inl s) =
    let p = at_lower lower upper o (b.1 s) in
    (record { within = p.0; at_upper = λ a. absurd (both_ways _ _ a s); at_lower = λ a. p.1 }, ap (λ z. w *ℚ z) (sym (highest-negative lower upper w s)))
point_is lower upper w o b (inr (inl s)) = (
  record {
    within = at_either lower upper o;
    at_upper = λ a. absurd (lt_irrefl zero_ℚ (subst (λ u. zero_ℚ <ℚ u) s a));
    at_lower = λ a. absurd (lt_irrefl zero_ℚ (subst (λ u. u <ℚ zero_ℚ) s a));
  },
  none (either_bound lower upper) ∙ sym (none (highest lower upper w)),
)
  where
    none : (u : ℚ) → w *ℚ u ≡ zero_ℚ
    none u = ap (λ z. z *ℚ u) s ∙ zero_mul u
point_is lower upper w o b (inr (inr s)) =
    let p = at_upper lower upper o (b.0 s) in
    (record { within = p.0; at_upper = λ a. p.1; at_lower = λ a. absurd (both_ways _ _ s a) }, ap (λ z. w *ℚ z) (sym (highest-positive lower upper w s)))

-- ---- the greatest value
pub highest_is_greatest : (p : LinearProgram) (w : ℕ → ℚ) → HoldsBelow (length p.columns) (λ j. AreInOrder (lower_of (column p j)) (upper_of (column p j))) → HoldsBelow (length p.columns) (ColumnIsBounded p w) → IsGreatest p w (highest_sum p w)
highest_is_greatest p w ordered bounded = subst (IsGreatest p w) total
    (greatest_by_columns p w (list_of n place) (length-list_of n place)
    (λ j b. subst (IsGreatestPoint (lower_of (column p j)) (upper_of (column p j)) (w j)) (sym (at-list_of n place j b)) (here j b).0))
  where
    n : ℕ
    n = length p.columns

    place : ℕ → ℚ
    place j = point_by (lower_of (column p j)) (upper_of (column p j)) (w j) (by_sign (w j))

    here : (j : ℕ) → j < n → IsPoint (lower_of (column p j)) (upper_of (column p j)) (w j) (place j)
    here j b = point_is (lower_of (column p j)) (upper_of (column p j)) (w j) (ordered j b) (bounded j b) (by_sign (w j))

    total : over_columns p w (list_of n place) ≡ highest_sum p w
    total = sum_same n _ _ (λ j b. ap (λ z. w j *ℚ z) (at-list_of n place j b) ∙ (here j b).1)
