-- A basis has its numbers, and what is said by them is said by any of them.
use Rattle.std.proofs.Common.{◌≡◌, ℕ, ◌+◌, ◌<◌, ◌⊎◌, inl, inr, List, ◌∷◌, Option, Some, None, refl, sym, ◌∙◌, subst}
use Rattle.nf_num.specs.Rational.{ℚ, zero_ℚ, ◌+ℚ◌, ◌*ℚ◌, neg_ℚ, ◌≤ℚ◌, ◌<ℚ◌}
use Rattle.nf_num.specs.Sum.{sum_ℚ}
use Rattle.nf_num.proofs.Order.{eq_or_lt_of_le}
use Rattle.nf_num.proofs.Sums.{sum_nonneg}
use Rattle.nf_model.specs.Program.{LinearProgram}
use Rattle.nf_model.specs.Problem.{IsProblem}
use Rattle.nf_simplex.specs.Place.{Place, Lower, Upper, Zero, Absent, Basic}
use Rattle.nf_simplex.specs.Stage.{Stage}
use Rattle.nf_simplex.specs.Numbers.{StandsAt}
use Rattle.nf_simplex.specs.Pricing.{Rule, First, Best, Bland, Queue, HasWrongSign, WantsOne, IsDeciding, HasSize, IsPickedBy, IsNextQueue, IsPicked}
use Rattle.nf_simplex.specs.Queue.{PricingState}
use Rattle.nf_simplex.specs.Layout.{Layout, layout_of}
use Rattle.nf_simplex.specs.Starts.{or_zero}
use Rattle.nf_simplex.specs.Columns.{Col, all_columns}
use Rattle.nf_simplex.specs.Standing.{Standing, number_in, column_in, lower_in, upper_in, place_at, is_negative, stage_of, rows_of, MayStandIn, IsStateOf, Phase, PhaseOne, PhaseTwo, costs_of, IsBasisOf, AreValuesOf, AreEntriesOf, IsInverseColumnOf, AreDualsOf, reduced_in, IsFeasibleState}
use Rattle.nf_simplex.specs.Moves.{Prices, IsEligibleBy, HasEndedInfeasibleIn, HasEndedOptimalIn}
use Rattle.nf_simplex.specs.Verdicts.{artificial_sum}
use Rattle.nf_simplex.proofs.Basis.{values_unique, duals_unique, values_by_inverse, duals_by_inverse}
use Rattle.nf_simplex.proofs.Dimension.{weights_of_basis, inverse_of_basis}
use Rattle.nf_simplex.proofs.Fits.{layout_fits}
use Rattle.nf_simplex.proofs.Queue.{front_same, tail_same, tidied_once, tidied_same}
use Rattle.nf_simplex.proofs.Rows.{ones_total}
use Rattle.nf_simplex.proofs.Same.{reduced_same, total_same}
use Rattle.nf_simplex.proofs.Standings.{state_of}
use Rattle.nf_simplex.proofs.Values.{values_of_state, artificial_nonneg}

-- ---- there are numbers
-- the number of a nonbasic column in its place
standing_number : Option ℚ → Option ℚ → Place → ℚ
standing_number l u Lower = or_zero l
standing_number l u Upper = or_zero u
standing_number l u Zero = zero_ℚ
standing_number l u Absent = zero_ℚ
standing_number l u Basic = zero_ℚ

may_stand : (l u : Option ℚ) (a : Place) → MayStandIn l u a ⊎ (a ≡ Absent) → StandsAt a l u (standing_number l u a)
unfolding standing_number
may_stand (Some l) u Lower h = refl
may_stand None u Lower (inl h) = absurd (h refl)
may_stand None u Lower (inr e) = absurd (let x : Lower ≡ Absent = e in cc)
may_stand l (Some u) Upper h = refl
may_stand l None Upper (inl h) = absurd (h refl)
may_stand l None Upper (inr e) = absurd (let x : Upper ≡ Absent = e in cc)
may_stand l u Zero (inr e) = absurd (let x : Zero ≡ Absent = e in cc)
may_stand l u Zero (inl h) = none l u h.0 h.1
  where
    none : (l u : Option ℚ) → l ≡ None → u ≡ None → StandsAt Zero l u zero_ℚ
    none None None a b = refl
    none (Some x) u a b = absurd (let e : Some x ≡ None = a in cc)
    none None (Some x) a b = absurd (let e : Some x ≡ None = b in cc)
may_stand l u Absent h = refl
may_stand l u Basic h = tt

-- whether a column may stand where it stands, or is absent, can be told by its place
fits_or_absent : (l u : Option ℚ) (a : Place) (here : Type 0) → (here → MayStandIn l u a) → ((here → ⊥) → a ≡ Absent) → MayStandIn l u a ⊎ (a ≡ Absent)
fits_or_absent (Some l) u Lower here f g = inl (λ e. cc)
fits_or_absent None u Lower here f g = inr (g (λ h. f h refl))
fits_or_absent l (Some u) Upper here f g = inl (λ e. cc)
fits_or_absent l None Upper here f g = inr (g (λ h. f h refl))
fits_or_absent None None Zero here f g = inl (refl, refl)
fits_or_absent (Some l) u Zero here f g = inr (g (λ h. let e : Some l ≡ None = (f h).0 in cc))
fits_or_absent None (Some u) Zero here f g = inr (g (λ h. let e : Some u ≡ None = (f h).1 in cc))
fits_or_absent l u Absent here f g = inr refl
fits_or_absent l u Basic here f g = inl tt

module _ (p : LinearProgram) (s : Standing) (b : IsBasisOf p s) where
  pub inverse_there : (W : ℕ → ℕ → ℚ) × ((r : ℕ) → r < rows_of p s → IsInverseColumnOf p s r (W r))
  inverse_there = inverse_of_basis (stage_of p s) (place_at s) b

  pub entries_there : (c : Col) → (w : ℕ → ℚ) × AreEntriesOf p s c w
  entries_there c = weights_of_basis (stage_of p s) (place_at s) b ((stage_of p s).entry (number_in p c))

  pub duals_there : (phase : Phase) → (y : ℕ → ℚ) × AreDualsOf p s phase y
  duals_there phase =
      let W = inverse_there in
      ((λ r. sum_ℚ (all_columns (layout_of p)) (λ j. costs_of p phase j *ℚ W.0 r j)), duals_by_inverse (stage_of p s) (place_at s) W.0 b.independent W.1 (costs_of p phase))

  pub values_there : IsStateOf p s → (x : ℕ → ℚ) × AreValuesOf p s x
  values_there st =
      let W = inverse_there in (
        (λ j. z j +ℚ sum_ℚ (stage_of p s).rows (λ r. ((stage_of p s).right r +ℚ neg_ℚ (sum_ℚ (stage_of p s).columns (λ q. z q *ℚ (stage_of p s).entry q r))) *ℚ W.0 r j)),
        values_by_inverse (stage_of p s) (place_at s) W.0 W.1 z (λ j h. may_stand _ _ (place_at s j) (fits_or_absent _ _ (place_at s j) _ (st.fits j h).present (st.fits j h).absent)),
      )
    where
      z : ℕ → ℚ
      z j = standing_number (lower_in p (column_in p j)) (upper_in p (column_in p j)) (place_at s j)

  -- A state that is a basis has the numbers by which its columns are priced.
  pub prices_there : IsStateOf p s → Prices p s
  prices_there st = record {
    values = (values_there st).0;
    one = (duals_there PhaseOne).0;
    two = (duals_there PhaseTwo).0;
    are_values = (values_there st).1;
    are_duals_one = (duals_there PhaseOne).1;
    are_duals_two = (duals_there PhaseTwo).1;
  }

  -- ---- any of them will do
  pub duals_any : (phase : Phase) (y z : ℕ → ℚ) → AreDualsOf p s phase y → AreDualsOf p s phase z → (i : ℕ) → i < rows_of p s → y i ≡ z i
  duals_any phase y z d e i h = let W = inverse_there in duals_unique (stage_of p s) (place_at s) W.0 W.1 (costs_of p phase) y z d e i h

  pub reduced_any : (phase : Phase) (y z : ℕ → ℚ) → AreDualsOf p s phase y → AreDualsOf p s phase z → (j : ℕ) → reduced_in p s phase y j ≡ reduced_in p s phase z j
  reduced_any phase y z d e j = reduced_same (stage_of p s) (place_at s) (costs_of p phase) y z (duals_any phase y z d e) j

  pub values_any : (x z : ℕ → ℚ) → AreValuesOf p s x → AreValuesOf p s z → (j : ℕ) → j < all_columns (layout_of p) → x j ≡ z j
  values_any x z v w j h = values_unique (stage_of p s) (place_at s) x z b.independent v w j h

  pub artificial_sum_any : (x z : ℕ → ℚ) → AreValuesOf p s x → AreValuesOf p s z → artificial_sum p x ≡ artificial_sum p z
  artificial_sum_any x z v w = total_same (stage_of p s) (place_at s) (costs_of p PhaseOne) x z (values_any x z v w)

  module _ (n m : Prices p s) where
    one_same : (j : ℕ) → reduced_in p s PhaseOne n.one j ≡ reduced_in p s PhaseOne m.one j
    one_same j = reduced_any PhaseOne n.one m.one n.are_duals_one m.are_duals_one j

    two_same : (j : ℕ) → reduced_in p s PhaseTwo n.two j ≡ reduced_in p s PhaseTwo m.two j
    two_same j = reduced_any PhaseTwo n.two m.two n.are_duals_two m.are_duals_two j

    pub wants_any : (j : ℕ) → WantsOne (stage_of p s) (place_at s) (costs_of p PhaseOne) n.one j → WantsOne (stage_of p s) (place_at s) (costs_of p PhaseOne) m.one j
    wants_any j w = (w.0, subst (HasWrongSign (place_at s j)) (one_same j) w.1)

module _ (p : LinearProgram) (s : Standing) (b : IsBasisOf p s) where
  -- What is eligible by some of the numbers is eligible by all.
  pub eligible_any : (n m : Prices p s) (j : ℕ) → IsEligibleBy p s n j → IsEligibleBy p s m j
  eligible_any n m j (inl w) = inl (wants_any p s b n m j w)
  eligible_any n m j (inr w) = inr (
    (λ i x. w.0 i (wants_any p s b m n i x)),
    artificial_sum_any p s b m.values n.values m.are_values n.are_values ∙ w.1,
    (w.2.0, sym (reduced_any p s b PhaseOne n.one m.one n.are_duals_one m.are_duals_one j) ∙ w.2.1, subst (HasWrongSign (place_at s j)) (reduced_any p s b PhaseTwo n.two m.two n.are_duals_two m.are_duals_two j) w.2.2),
  )

  size_any : (n m : Prices p s) (j : ℕ) (a : ℚ) → HasSize (stage_of p s) (place_at s) (costs_of p PhaseOne) (costs_of p PhaseTwo) n.one n.two j a → HasSize (stage_of p s) (place_at s) (costs_of p PhaseOne) (costs_of p PhaseTwo) m.one m.two j a
  size_any n m j a (d, x, y) = (d, of x, y)
    where
      S : Stage
      S = stage_of p s

      of : IsDeciding (stage_of p s) (place_at s) (costs_of p PhaseOne) (costs_of p PhaseTwo) n.one n.two j d → IsDeciding (stage_of p s) (place_at s) (costs_of p PhaseOne) (costs_of p PhaseTwo) m.one m.two j d
      of (inl (w, e)) = inl (wants_any p s b n m j w, e ∙ reduced_any p s b PhaseOne n.one m.one n.are_duals_one m.are_duals_one j)
      of (inr (w, e)) = inr ((λ x. w (wants_any p s b m n j x)), e ∙ reduced_any p s b PhaseTwo n.two m.two n.are_duals_two m.are_duals_two j)

  by_rule_any : (rule : Rule) (at : PricingState) (P Q : ℕ → Type 0) (f g : ℕ → ℚ → Type 0) → ((i : ℕ) → P i → Q i) → ((i : ℕ) → Q i → P i) → ((i : ℕ) (a : ℚ) → f i a → g i a) → ((i : ℕ) (a : ℚ) → g i a → f i a) → (j : ℕ) → IsPickedBy rule at P f j → IsPickedBy rule at Q g j
  by_rule_any Bland at P Q f g on back to from j h = λ i q. h i (back i q)
  by_rule_any First at P Q f g on back to from j (inl h) = inl (h.0, λ i q l. h.1 i (back i q) l)
  by_rule_any First at P Q f g on back to from j (inr h) = inr ((λ i q. h.0 i (back i q)), λ i q. h.1 i (back i q))
  by_rule_any Best at P Q f g on back to from j (a, x, h) = (a, to j a x, λ i c q y. h i c (back i q) (from i c y))
  by_rule_any (Queue most) at P Q f g on back to from j h = front_same at P Q on back j h

  pub picked_any : (n m : Prices p s) (rule : Rule) (at : PricingState) (j : ℕ) → IsPicked (stage_of p s) (place_at s) n.values (costs_of p PhaseOne) (costs_of p PhaseTwo) n.one n.two rule at j
      → IsPicked (stage_of p s) (place_at s) m.values (costs_of p PhaseOne) (costs_of p PhaseTwo) m.one m.two rule at j
  picked_any n m rule at j h = record {
    eligible = eligible_any n m j h.eligible;
    by_rule = by_rule_any rule at (IsEligibleBy p s n) (IsEligibleBy p s m) _ _ (λ i q. eligible_any n m i q) (λ i q. eligible_any m n i q) (size_any n m) (size_any m n) j h.by_rule;
  }

  -- A step leaves one queue.
  pub next_queue_once : (n m : Prices p s) (rule : Rule) (at : PricingState) (xs ys : List ℕ) → IsNextQueue rule at (IsEligibleBy p s n) xs → IsNextQueue rule at (IsEligibleBy p s m) ys → xs ≡ ys
  next_queue_once n m Bland at xs ys a b = a ∙ sym b
  next_queue_once n m First at xs ys a b = a ∙ sym b
  next_queue_once n m Best at xs ys a b = a ∙ sym b
  next_queue_once n m (Queue most) at xs ys (i, a) (j, b) =
      tail_same i j xs ys (tidied_once most at (IsEligibleBy p s m) (i ∷ xs) (j ∷ ys) (tidied_same most at (IsEligibleBy p s n) (IsEligibleBy p s m) (λ k q. eligible_any n m k q) (λ k q. eligible_any m n k q) (i ∷ xs) a) b)

-- ---- the sum of the artificials, and the ends
pub artificials_nonneg : (p : LinearProgram) (s : Standing) → IsProblem p → IsFeasibleState p s → (x : ℕ → ℚ) → AreValuesOf p s x → zero_ℚ ≤ℚ artificial_sum p x
artificials_nonneg p s ok f x v =
    subst (λ z. zero_ℚ ≤ℚ z) (artificial_sum_any p s f.feasible.basis f.feasible.values x f.feasible.are_values v)
    (subst (λ z. zero_ℚ ≤ℚ z) (sym (ones_total L f.feasible.values)) (sum_nonneg (L.nodes + L.sides) _ (λ r h. artificial_nonneg L (layout_fits p ok) s.stage (is_negative s) (place_at s) f.feasible.values (values_of_state L (layout_fits p ok) s.stage (is_negative s) (place_at s) (state_of p s f)) r h)))
  where
    L : Layout
    L = layout_of p

-- A state without an eligible column has ended.
pub ended : (p : LinearProgram) (s : Standing) → IsProblem p → IsFeasibleState p s → (n : Prices p s) → ((j : ℕ) → IsEligibleBy p s n j → ⊥) → HasEndedInfeasibleIn p s ⊎ HasEndedOptimalIn p s
ended p s ok f n none = of (eq_or_lt_of_le zero_ℚ (artificial_sum p n.values) (artificials_nonneg p s ok f n.values n.are_values))
  where
    of : (zero_ℚ ≡ artificial_sum p n.values) ⊎ (zero_ℚ <ℚ artificial_sum p n.values) → HasEndedInfeasibleIn p s ⊎ HasEndedOptimalIn p s
    of (inl e) = inr (n, (none, sym e))
    of (inr l) = inl (n, ((λ i w. none i (inl w)), l))
