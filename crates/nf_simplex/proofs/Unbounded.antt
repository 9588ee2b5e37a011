-- A state that has ended UNBOUNDED, with no stage two to come: its values and what the columns do while the picked one moves are a valid Ray certificate.
use Rattle.std.proofs.Common.{◌≡◌, ◌≢◌, ℕ, ◌+◌, ◌-◌, ◌<◌, ◌≤◌, ◌⊎◌, inl, inr, Bool, true, false, [], ◌∷◌, length, refl, sym, ap, ap₂, ◌∙◌, subst, arith, Option, Some, None}
use Rattle.nf_num.specs.Rational.{ℚ, zero_ℚ, one_ℚ, ◌+ℚ◌, ◌*ℚ◌, neg_ℚ, ◌≤ℚ◌, ◌<ℚ◌}
use Rattle.nf_num.specs.Sum.{sum_ℚ}
use Rattle.nf_num.proofs.Laws.{le_or_lt}
use Rattle.nf_num.proofs.Order.{le_of_eq}
use Rattle.nf_num.proofs.Sums.{sum_zero_each}
use Rattle.nf_num.proofs.Field.{ring, codes}
use Rattle.nf_num.proofs.Linear.{linear_lt, linear_absurd, le, lt}
use Rattle.nf_num.proofs.Linear as linear
use Rattle.nf_model.specs.Lists.{list_of}
use Rattle.nf_model.specs.Problem.{IsProblem}
use Rattle.nf_model.specs.Program.{column, LinearProgram, row, lower_of, upper_of, Stands, cost_of}
use Rattle.nf_model.specs.Ray.{IsUnstopped, IsValidRay}
use Rattle.nf_model.specs.declared.RowKind.TheVariants.{Eq}
use Rattle.nf_simplex.specs.Columns.{sign, col_lower, col_upper, slack_sign, cost_two, ones, twos}
use Rattle.nf_simplex.specs.Layout.{Layout, IsLayout, layout_of}
use Rattle.nf_simplex.specs.Lex.{bound_vector}
use Rattle.nf_simplex.specs.Numbers.{StandsAt, AreDuals, reduced}
use Rattle.nf_simplex.specs.Objective.{Improves}
use Rattle.nf_simplex.specs.Place.{Place, Lower, Upper, Zero, Absent, Basic}
use Rattle.nf_simplex.specs.Stage.{Stage}
use Rattle.nf_simplex.specs.StageOf.{StageNumber, stage_in, IsLast}
use Rattle.nf_simplex.specs.States.{IsState}
use Rattle.nf_simplex.specs.Step.{signed, CanEnter}
use Rattle.nf_model.proofs.Lists.{length-list_of, at-list_of}
use Rattle.nf_simplex.proofs.Basis.{basic_or_not}
use Rattle.nf_simplex.proofs.Blocks.{free_way}
use Rattle.nf_simplex.proofs.Falls.{rate_cost, improving_positive}
use Rattle.nf_simplex.proofs.FieldLaws.{less_irrefl}
use Rattle.nf_simplex.proofs.Fits.{layout_fits}
use Rattle.nf_simplex.proofs.Lex.{neg_positive, positive_neg}
use Rattle.nf_simplex.proofs.Optimal.{values_feasible}
use Rattle.nf_simplex.proofs.Padded.{over_list, rows_are}
use Rattle.nf_simplex.proofs.Ratio.{speed, IsStep, speed_e, speed_off, speed-null}
use Rattle.nf_simplex.proofs.Rows.{slack_at, artificial_at, split_columns, given_sum, ones_total, row_parts}
use Rattle.nf_simplex.proofs.StageOf.{column_given, column_slack, column_artificial}
use Rattle.nf_simplex.proofs.Sum.{sum_zero, sum_ext, neg-zero, equal_or_not}
use Rattle.nf_simplex.proofs.Terms.{zero-mul}
use Rattle.nf_simplex.proofs.Values.{values_of_state, all_rows, stands_from}

less_or : (j k : ℕ) → (j < k) ⊎ (k ≤ j)
less_or j k = grind arith

-- The cost of phase two is that of the given columns.
pub twos_total : (p : Layout) (w : ℕ → ℚ) → sum_ℚ (p.columns + p.sides + (p.nodes + p.sides)) (λ j. twos p j *ℚ w j) ≡ sum_ℚ p.columns (λ j. p.cost j *ℚ w j)
twos_total p w =
    split_columns p (λ j. twos p j *ℚ w j)
    ∙ (ap₂ (λ a b. a +ℚ b) (ap₂ (λ a b. a +ℚ b)
    (sum_ext p.columns _ (λ j. p.cost j *ℚ w j) (λ j h. ap (λ c. cost_two p c *ℚ w j) (column_given p j h)))
    (sum_zero p.sides _ (λ q h. ap (λ c. cost_two p c *ℚ w (slack_at p q)) (column_slack p q h) ∙ zero-mul _)))
    (sum_zero (p.nodes + p.sides) _ (λ r h. ap (λ c. cost_two p c *ℚ w (artificial_at p r)) (column_artificial p r) ∙ zero-mul _))
    ∙ ring (sum_ℚ p.columns (λ j. p.cost j *ℚ w j) ∷ []) (search codes depth 8) refl)

module _ (p : Layout) (ok : IsLayout p) (n : StageNumber) (negative : ℕ → Bool) (s : ℕ → Place) (st : IsState p n negative s) (last : IsLast p n)
    (e : ℕ) (down : Bool) (c : CanEnter (stage_in p n negative) s e down) (priced : e < p.columns + p.sides)
    (none : (R : ℕ → ℚ) → IsStep (stage_in p n negative) s st.feasible e down c R → ⊥)
    (y1 : ℕ → ℚ) (d1 : AreDuals (stage_in p n negative) s (ones p) y1) (flat : reduced (stage_in p n negative) (ones p) y1 e ≡ zero_ℚ) where
  abbrev S : Stage
  S = stage_in p n negative

  -- what each column does while e moves
  abbrev pub rate : ℕ → ℚ
  rate j = speed S s st.feasible e down c j

  -- a basic column with the lower bound 0 does not sink
  rises : (j : ℕ) → j < S.columns → s j ≡ Basic → S.lower j ≡ Some zero_ℚ → zero_ℚ ≤ℚ rate j
  rises j h b low = of (le_or_lt zero_ℚ (rate j))
    where
      of : (zero_ℚ ≤ℚ rate j) ⊎ (rate j <ℚ zero_ℚ) → zero_ℚ ≤ℚ rate j
      of (inl k) = k
      of (inr k) = absurd (let q : None ≡ Some zero_ℚ = sym (free_way S s st.feasible e down c none j h b false (neg_positive (rate j) k)) ∙ low in cc)

  rate_artificial : (r : ℕ) → r < p.nodes + p.sides → zero_ℚ ≤ℚ rate (artificial_at p r)
  rate_artificial r h = of (basic_or_not (s (artificial_at p r)))
    where
      of : (s (artificial_at p r) ≡ Basic) ⊎ (s (artificial_at p r) ≢ Basic) → zero_ℚ ≤ℚ rate (artificial_at p r)
      of (inl b) = rises (artificial_at p r) (omega arith) b (ap (col_lower p) (column_artificial p r))
      of (inr b) = le_of_eq zero_ℚ _ (sym (speed_off S s st.feasible e down c (artificial_at p r) (omega arith) b (λ q. let w : p.columns + p.sides + r ≡ e = q in omega arith)))

  signed_nought : (b : Bool) → signed b zero_ℚ ≡ zero_ℚ
  signed_nought false = refl
  signed_nought true = neg-zero

  -- The artificials do not move.
  pub artificial_still : (r : ℕ) → r < p.nodes + p.sides → rate (artificial_at p r) ≡ zero_ℚ
  artificial_still = sum_zero_each (p.nodes + p.sides) (λ r. rate (artificial_at p r)) rate_artificial
      (sym (ones_total p rate) ∙ (rate_cost S s st.feasible e down c (ones p) y1 d1 ∙ (ap (λ z. signed down z) flat ∙ signed_nought down)))

  -- the entering column by its place
  at_entering : (P : Place → Type 0) → (s e ≡ Lower → down ≡ false → P Lower) → (s e ≡ Upper → down ≡ true → P Upper) → (s e ≡ Zero → P Zero) → P (s e)
  at_entering P low high zero = of (s e) refl
    where
      of : (a : Place) → s e ≡ a → P (s e)
      of Lower q = subst P (sym q) (low q (c.from_lower q))
      of Upper q = subst P (sym q) (high q (c.from_upper q))
      of Zero q = subst P (sym q) (zero q)
      of Absent q = absurd (c.present q)
      of Basic q = absurd (c.nonbasic q)

  rate_up : down ≡ false → rate e ≡ one_ℚ
  rate_up q = speed_e S s st.feasible e down c ∙ ap (λ b. signed b one_ℚ) q

  rate_down : down ≡ true → rate e ≡ neg_ℚ one_ℚ
  rate_down q = speed_e S s st.feasible e down c ∙ ap (λ b. signed b one_ℚ) q

  stands_e : (a : Place) → s e ≡ a → StandsAt a (S.lower e) (S.upper e) (st.feasible.values e)
  stands_e a q = subst (λ b. StandsAt b (S.lower e) (S.upper e) (st.feasible.values e)) q (st.feasible.are_values.stands e c.there)

  -- The entering column has only one bound, or none.
  no_span : (l u : ℚ) → S.lower e ≡ Some l → S.upper e ≡ Some u → ⊥
  no_span l u a b = none (λ k. bound_vector u k +ℚ neg_ℚ (bound_vector l k)) (inr record { low = l; high = u; is_low = a; is_high = b; ratio = λ k h. refl })

  one_not_less : (x : ℚ) → x ≡ one_ℚ → x <ℚ zero_ℚ → ⊥
  one_not_less x q h = linear_absurd [] (lt (subst (λ z. z <ℚ zero_ℚ) q h) ∷ []) (search linear.codes depth 12) tt

  minus_not_more : (x : ℚ) → x ≡ neg_ℚ one_ℚ → zero_ℚ <ℚ x → ⊥
  minus_not_more x q h = linear_absurd [] (lt (subst (λ z. zero_ℚ <ℚ z) q h) ∷ []) (search linear.codes depth 12) tt

  entering_free : IsUnstopped (rate e) (S.lower e) (S.upper e)
  entering_free = at_entering (λ a. IsUnstopped (rate e) (S.lower e) (S.upper e)) low high zero
    where
      low : s e ≡ Lower → down ≡ false → IsUnstopped (rate e) (S.lower e) (S.upper e)
      low q d = ((λ h. of (S.upper e) refl (S.lower e) refl (stands_e Lower q)), λ h. absurd (one_not_less (rate e) (rate_up d) h))
        where
          of : (u : Option ℚ) → S.upper e ≡ u → (l : Option ℚ) → S.lower e ≡ l → StandsAt Lower (S.lower e) (S.upper e) (st.feasible.values e) → S.upper e ≡ None
          of None a l b x = a
          of (Some u) a (Some l) b x = absurd (no_span l u b a)
          of (Some u) a None b x = absurd (subst (λ o. StandsAt Lower o (S.upper e) (st.feasible.values e)) b x)

      high : s e ≡ Upper → down ≡ true → IsUnstopped (rate e) (S.lower e) (S.upper e)
      high q d = ((λ h. absurd (minus_not_more (rate e) (rate_down d) h)), λ h. of (S.lower e) refl (S.upper e) refl (stands_e Upper q))
        where
          nowhere : (l : Option ℚ) → StandsAt Upper l None (st.feasible.values e) → ⊥
          nowhere None x = x
          nowhere (Some l) x = x

          of : (l : Option ℚ) → S.lower e ≡ l → (u : Option ℚ) → S.upper e ≡ u → StandsAt Upper (S.lower e) (S.upper e) (st.feasible.values e) → S.lower e ≡ None
          of None a u b x = a
          of (Some l) a (Some u) b x = absurd (no_span l u a b)
          of (Some l) a None b x = absurd (nowhere (S.lower e) (subst (λ o. StandsAt Upper (S.lower e) o (st.feasible.values e)) b x))

      zero : s e ≡ Zero → IsUnstopped (rate e) (S.lower e) (S.upper e)
      zero q = of (S.lower e) (S.upper e) (stands_e Zero q)
        where
          of : (l u : Option ℚ) → StandsAt Zero l u (st.feasible.values e) → IsUnstopped (rate e) l u
          of (Some l) u x = absurd x
          of None (Some u) x = absurd x
          of None None x = ((λ h. refl), λ h. refl)

  -- No bound is in the way of any column.
  free : (j : ℕ) → j < S.columns → IsUnstopped (rate j) (S.lower j) (S.upper j)
  free j h = of (equal_or_not j e) (basic_or_not (s j))
    where
      of : (j ≡ e) ⊎ (j ≢ e) → (s j ≡ Basic) ⊎ (s j ≢ Basic) → IsUnstopped (rate j) (S.lower j) (S.upper j)
      of (inl q) b = subst (λ k. IsUnstopped (rate k) (S.lower k) (S.upper k)) (sym q) entering_free
      of (inr q) (inr b) = still (speed_off S s st.feasible e down c j h b q)
        where
          still : rate j ≡ zero_ℚ → IsUnstopped (rate j) (S.lower j) (S.upper j)
          still z = ((λ m. absurd (less_irrefl zero_ℚ (subst (λ y. zero_ℚ <ℚ y) z m))), λ m. absurd (less_irrefl zero_ℚ (subst (λ y. y <ℚ zero_ℚ) z m)))
      of (inr q) (inl b) = (
        λ m. free_way S s st.feasible e down c none j h b true (twice (rate j) m),
        λ m. free_way S s st.feasible e down c none j h b false (neg_positive (rate j) m),
      )
        where
          twice : (a : ℚ) → zero_ℚ <ℚ a → zero_ℚ <ℚ neg_ℚ (neg_ℚ a)
          twice a m = linear_lt (a ∷ []) (lt m ∷ []) (search linear.codes depth 12) tt

  pub given_free : (j : ℕ) → j < p.columns → IsUnstopped (rate j) (p.lower j) (p.upper j)
  given_free j h = subst (λ k. IsUnstopped (rate j) (col_lower p k) (col_upper p k)) (column_given p j h) (free j (omega arith))

  -- A slack has no upper bound and the lower bound 0, so it does not sink.
  slack_rises : (q : ℕ) → q < p.sides → zero_ℚ ≤ℚ rate (slack_at p q)
  slack_rises q h = of (le_or_lt zero_ℚ (rate (slack_at p q)))
    where
      of : (zero_ℚ ≤ℚ rate (slack_at p q)) ⊎ (rate (slack_at p q) <ℚ zero_ℚ) → zero_ℚ ≤ℚ rate (slack_at p q)
      of (inl k) = k
      of (inr k) = absurd (let w : None ≡ Some zero_ℚ = sym ((free (slack_at p q) (omega arith)).1 k) ∙ ap (col_lower p) (column_slack p q h) in cc)

  pub row_keeps : (i : ℕ) → i < p.nodes + p.sides → Stands (p.kind i) (given_sum p rate i) zero_ℚ
  row_keeps i h = stands_from (p.kind i) (given_sum p rate i) (rate (slack_at p (i - p.nodes))) zero_ℚ
      (added (given_sum p rate i +ℚ slack_sign (p.kind i) *ℚ rate (slack_at p (i - p.nodes))) (sign (negative i))
      ∙ (ap (λ z. given_sum p rate i +ℚ slack_sign (p.kind i) *ℚ rate (slack_at p (i - p.nodes)) +ℚ sign (negative i) *ℚ z) (sym (artificial_still i h))
      ∙ (sym (row_parts p ok negative rate i h) ∙ speed-null S s st.feasible e down c i (subst (λ m. i < m) (sym (all_rows p n last)) h))))
      (λ k. side k (less_or i p.nodes))
    where
      added : (a b : ℚ) → a ≡ a +ℚ b *ℚ zero_ℚ
      added a b = ring (a ∷ b ∷ []) (search codes depth 8) refl

      side : p.kind i ≢ Eq → (i < p.nodes) ⊎ (p.nodes ≤ i) → zero_ℚ ≤ℚ rate (slack_at p (i - p.nodes))
      side k (inl l) = absurd (k (ok.node_kind i l))
      side k (inr l) = slack_rises (i - p.nodes) (omega arith)

-- The unbounded end, where no column blocks.
pub unblocked_is_ray : (P : LinearProgram) (ok : IsProblem P) (n : StageNumber) (negative : ℕ → Bool) (s : ℕ → Place) (st : IsState (layout_of P) n negative s) → IsLast (layout_of P) n
    → (e : ℕ) (down : Bool) (c : CanEnter (stage_in (layout_of P) n negative) s e down) → e < (stage_in (layout_of P) n negative).entering
    → ((R : ℕ → ℚ) → IsStep (stage_in (layout_of P) n negative) s st.feasible e down c R → ⊥)
    → (y1 y2 : ℕ → ℚ) → AreDuals (stage_in (layout_of P) n negative) s (ones (layout_of P)) y1 → AreDuals (stage_in (layout_of P) n negative) s (twos (layout_of P)) y2
    → sum_ℚ (stage_in (layout_of P) n negative).columns (λ j. ones (layout_of P) j *ℚ st.feasible.values j) ≡ zero_ℚ
    → reduced (stage_in (layout_of P) n negative) (ones (layout_of P)) y1 e ≡ zero_ℚ → Improves down (reduced (stage_in (layout_of P) n negative) (twos (layout_of P)) y2 e)
    → IsValidRay P (list_of (length P.columns) st.feasible.values) (list_of (length P.columns) (speed (stage_in (layout_of P) n negative) s st.feasible e down c))
    × (cost_of P (list_of (length P.columns) (speed (stage_in (layout_of P) n negative) s st.feasible e down c)) ≡ signed down (reduced (stage_in (layout_of P) n negative) (twos (layout_of P)) y2 e))
unblocked_is_ray P ok n negative s st last e down c priced none y1 y2 d1 d2 zero flat better = (
  record {
    feasible = values_feasible P ok n negative s st.feasible.values (values_of_state (layout_of P) (layout_fits P ok) n negative s st) last zero;
    one_each = length-list_of (length P.columns) v;
    free = λ j h. subst (λ z. IsUnstopped z (lower_of (column P j)) (upper_of (column P j))) (sym (at-list_of (length P.columns) v j h)) (given_free p (layout_fits P ok) n negative s st last e down c priced none y1 d1 flat j h);
    rows_keep = λ i h. subst (λ z. Stands (row P i).kind z zero_ℚ) (sym (over_list P (λ j. p.entry j i) v)) (row_keeps p (layout_fits P ok) n negative s st last e down c priced none y1 d1 flat i (subst (λ m. i < m) (sym (rows_are P ok)) h));
    lowers = subst (λ z. z <ℚ zero_ℚ) (sym cost) (positive_neg (signed down (reduced (stage_in (layout_of P) n negative) (twos p) y2 e)) (improving_positive down (reduced (stage_in (layout_of P) n negative) (twos p) y2 e) better));
  },
  cost,
)
  where
    p : Layout
    p = layout_of P

    v : ℕ → ℚ
    v = speed (stage_in (layout_of P) n negative) s st.feasible e down c

    cost : cost_of P (list_of (length P.columns) v) ≡ signed down (reduced (stage_in (layout_of P) n negative) (twos p) y2 e)
    cost = over_list P (λ j. (column P j).cost) v ∙ (sym (twos_total p v) ∙ rate_cost (stage_in (layout_of P) n negative) s st.feasible e down c (twos p) y2 d2)
