-- A state that has ended OPTIMAL, with no stage two to come: its values and the printed duals are a valid Best certificate.
use Rattle.std.proofs.Common.{◌≡◌, ◌≢◌, ℕ, ◌+◌, ◌-◌, ◌<◌, ◌≤◌, ◌⊎◌, inl, inr, Bool, [], ◌∷◌, length, refl, sym, ap, ap₂, ◌∙◌, subst, subst₂, arith, Some, None}
use Rattle.nf_num.specs.Rational.{ℚ, zero_ℚ, ◌+ℚ◌, ◌*ℚ◌, ◌-ℚ◌, neg_ℚ, ◌≤ℚ◌, ◌<ℚ◌}
use Rattle.nf_num.specs.Sum.{sum_ℚ}
use Rattle.nf_num.proofs.Laws.{le_or_lt, le_antisymm}
use Rattle.nf_num.proofs.Field.{ring, codes}
use Rattle.nf_num.proofs.Linear.{linear_le, linear_lt, le, lt, eq, qe}
use Rattle.nf_num.proofs.Linear as linear
use Rattle.nf_model.specs.Certificate.{IsSigned, IsSignedByBounds, IsValidBest}
use Rattle.nf_model.specs.Lists.{list_of}
use Rattle.nf_model.specs.Problem.{IsProblem}
use Rattle.nf_model.specs.Program.{LinearProgram, column, row, lower_of, upper_of, IsAtLeast, IsAtMost, Stands, IsFeasible}
use Rattle.nf_model.specs.declared.RowKind.{RowKind}
use Rattle.nf_model.specs.declared.RowKind.TheVariants.{Eq, Le, Ge}
use Rattle.nf_simplex.specs.Columns.{col_lower, col_upper, slack_sign, cost_two, ones, twos}
use Rattle.nf_simplex.specs.Ends.{printed, HasEndedOptimal, IsFactor}
use Rattle.nf_simplex.specs.Layout.{Layout, IsLayout, layout_of}
use Rattle.nf_simplex.specs.Numbers.{AreDuals, reduced}
use Rattle.nf_simplex.specs.Place.{Place, Absent, Basic}
use Rattle.nf_simplex.specs.Pricing.{HasWrongSign, IsEntrant}
use Rattle.nf_simplex.specs.Stage.{Stage}
use Rattle.nf_simplex.specs.StageOf.{StageNumber, rows_in, stage_in, IsPresent, IsLast}
use Rattle.nf_simplex.specs.States.{IsState, HasValues}
use Rattle.nf_model.proofs.Lists.{length-list_of, at-list_of}
use Rattle.nf_simplex.proofs.Fits.{layout_fits}
use Rattle.nf_simplex.proofs.Padded.{over_list, combined_list, rows_are}
use Rattle.nf_simplex.proofs.Price.{reduced_printed, printed_signs}
use Rattle.nf_simplex.proofs.Rows.{ones_priced, slack_at, given_sum, reduced_given, reduced_slack}
use Rattle.nf_simplex.proofs.StageOf.{column_given, column_slack}
use Rattle.nf_simplex.proofs.Values.{values_of_state, all_rows, slack_present, given_there, given_within, row_with_slack, row_stands}
use Rattle.nf_simplex.proofs.Within.{signed_by_place}

-- what a slack's reduced cost says of its row's dual
pub signed_from_slack : (k : RowKind) (y w : ℚ) → (k ≢ Eq → IsSignedByBounds (zero_ℚ +ℚ neg_ℚ (slack_sign k *ℚ y)) (Some zero_ℚ) None w) → IsSigned k y
signed_from_slack Eq y w h = tt
signed_from_slack Le y w h = of (le_or_lt y zero_ℚ)
  where
    of : (y ≤ℚ zero_ℚ) ⊎ (zero_ℚ <ℚ y) → y ≤ℚ zero_ℚ
    of (inl a) = a
    of (inr a) = absurd (let e : None ≡ Some w = (h (λ q. cc)).1 (linear_lt (y ∷ []) (lt a ∷ []) (search linear.codes depth 12) tt) in cc)
signed_from_slack Ge y w h = of (le_or_lt zero_ℚ y)
  where
    of : (zero_ℚ ≤ℚ y) ⊎ (y <ℚ zero_ℚ) → zero_ℚ ≤ℚ y
    of (inl a) = a
    of (inr a) = absurd (let e : None ≡ Some w = (h (λ q. cc)).1 (linear_lt (y ∷ []) (lt a ∷ []) (search linear.codes depth 12) tt) in cc)

-- where the dual is not 0, the slack is 0
slack_zero : (k : RowKind) (y w : ℚ) → k ≢ Eq → y ≢ zero_ℚ → IsSigned k y → IsSignedByBounds (zero_ℚ +ℚ neg_ℚ (slack_sign k *ℚ y)) (Some zero_ℚ) None w → w ≡ zero_ℚ
slack_zero Eq y w k nz signed h = absurd (k refl)
slack_zero Le y w k nz signed h = of (le_or_lt zero_ℚ y)
  where
    of : (zero_ℚ ≤ℚ y) ⊎ (y <ℚ zero_ℚ) → w ≡ zero_ℚ
    of (inl a) = absurd (nz (le_antisymm y zero_ℚ signed a))
    of (inr a) = let e : Some zero_ℚ ≡ Some w = h.0 (linear_lt (y ∷ []) (lt a ∷ []) (search linear.codes depth 12) tt) in cc
slack_zero Ge y w k nz signed h = of (le_or_lt y zero_ℚ)
  where
    of : (y ≤ℚ zero_ℚ) ⊎ (zero_ℚ <ℚ y) → w ≡ zero_ℚ
    of (inl a) = absurd (nz (le_antisymm y zero_ℚ a signed))
    of (inr a) = let e : Some zero_ℚ ≡ Some w = h.0 (linear_lt (y ∷ []) (lt a ∷ []) (search linear.codes depth 12) tt) in cc

-- The values, with no stage two to come and artificials that add up to 0, are feasible.
pub values_feasible : (P : LinearProgram) → IsProblem P → (n : StageNumber) (negative : ℕ → Bool) (s : ℕ → Place) (x : ℕ → ℚ) → HasValues (layout_of P) n negative s x → IsLast (layout_of P) n
    → sum_ℚ (stage_in (layout_of P) n negative).columns (λ j. ones (layout_of P) j *ℚ x j) ≡ zero_ℚ → IsFeasible P (list_of (length P.columns) x)
values_feasible P ok n negative s x hv last e = record {
  within = record {
    one_each = length-list_of (length P.columns) x;
    in_bounds = λ j h. subst (λ z. IsAtLeast (lower_of (column P j)) z × IsAtMost (upper_of (column P j)) z) (sym (at-list_of (length P.columns) x j h)) (given_within p (layout_fits P ok) n negative s x hv j h (given_there p (layout_fits P ok) n negative s x hv last j h));
  };
  rows_hold = λ i h. subst (λ z. Stands (row P i).kind z (row P i).right) (sym (over_list P (λ j. p.entry j i) x)) (row_stands p (layout_fits P ok) n negative s x hv last e i (subst (λ m. i < m) (sym (rows_are P ok)) h));
}
  where
    p : Layout
    p = layout_of P

module _ (p : Layout) (ok : IsLayout p) (n : StageNumber) (negative : ℕ → Bool) (s : ℕ → Place) (x : ℕ → ℚ) (hv : HasValues p n negative s x) (last : IsLast p n)
    (zero : sum_ℚ (stage_in p n negative).columns (λ j. ones p j *ℚ x j) ≡ zero_ℚ)
    (Y : ℕ → ℚ) (basic : (j : ℕ) → j < (stage_in p n negative).columns → j < (stage_in p n negative).entering → s j ≡ Basic → reduced (stage_in p n negative) (twos p) Y j ≡ zero_ℚ)
    (right : (j : ℕ) → IsEntrant (stage_in p n negative) j → HasWrongSign (s j) (reduced (stage_in p n negative) (twos p) Y j) → ⊥) where
  abbrev S : Stage
  S = stage_in p n negative

  -- a given column's or slack's reduced cost fits its number
  fits : (j : ℕ) → j < S.columns → j < S.entering → s j ≢ Absent → IsSignedByBounds (reduced S (twos p) Y j) (S.lower j) (S.upper j) (x j)
  fits j h e a =
      signed_by_place (s j) (S.lower j) (S.upper j) (x j) (reduced S (twos p) Y j) (hv.are_values.stands j h) a (λ b. basic j h e b)
      (λ differ wrong. right j (record { within = h; priced = e; bounds_differ = differ }) wrong)

  pub given_fits : (j : ℕ) → j < p.columns → IsSignedByBounds (p.cost j -ℚ sum_ℚ (p.nodes + p.sides) (λ i. Y i *ℚ p.entry j i)) (p.lower j) (p.upper j) (x j)
  given_fits j h =
      subst (λ d. IsSignedByBounds d (p.lower j) (p.upper j) (x j))
      (reduced_given p n negative (twos p) Y j h ∙ ap₂ (λ a k. a +ℚ neg_ℚ (sum_ℚ k (λ i. Y i *ℚ p.entry j i))) (ap (cost_two p) (column_given p j h)) (all_rows p n last))
      (subst (λ c. IsSignedByBounds (reduced S (twos p) Y j) (col_lower p c) (col_upper p c) (x j)) (column_given p j h)
      (fits j (omega arith) (omega arith) (given_there p ok n negative s x hv last j h)))

  pub slack_fits : (q : ℕ) → q < p.sides → p.kind (p.nodes + q) ≢ Eq → IsSignedByBounds (zero_ℚ +ℚ neg_ℚ (slack_sign (p.kind (p.nodes + q)) *ℚ Y (p.nodes + q))) (Some zero_ℚ) None (x (slack_at p q))
  slack_fits q h k =
      subst (λ d. IsSignedByBounds d (Some zero_ℚ) None (x (slack_at p q)))
      (reduced_slack p n negative (twos p) Y q h there ∙ ap (λ a. a +ℚ neg_ℚ (slack_sign (p.kind (p.nodes + q)) *ℚ Y (p.nodes + q))) (ap (cost_two p) (column_slack p q h)))
      (subst (λ c. IsSignedByBounds (reduced S (twos p) Y (slack_at p q)) (col_lower p c) (col_upper p c) (x (slack_at p q))) (column_slack p q h)
      (fits (slack_at p q) (omega arith) (omega arith) (hv.present (slack_at p q) (omega arith) (subst (IsPresent p n) (sym (column_slack p q h)) (slack_present p n q there k)))))
    where
      there : p.nodes + q < rows_in p n
      there = subst (λ r. p.nodes + q < r) (sym (all_rows p n last)) (omega arith)

  less_or : (j k : ℕ) → (j < k) ⊎ (k ≤ j)
  less_or j k = grind arith

  -- the dual of a row has its sign, and where it is not 0 the row holds with equality
  pub dual_fits : (i : ℕ) → i < p.nodes + p.sides → IsSigned (p.kind i) (Y i) × (p.kind i ≢ Eq → Y i ≢ zero_ℚ → given_sum p x i ≡ p.right i)
  dual_fits i h = of (less_or i p.nodes)
    where
      node : p.kind i ≡ Eq → IsSigned (p.kind i) (Y i) × (p.kind i ≢ Eq → Y i ≢ zero_ℚ → given_sum p x i ≡ p.right i)
      node e = (subst (λ k. IsSigned k (Y i)) (sym e) tt, λ k. absurd (k e))

      side : (q : ℕ) → i ≡ p.nodes + q → q < p.sides → p.nodes ≤ i → IsSigned (p.kind i) (Y i) × (p.kind i ≢ Eq → Y i ≢ zero_ℚ → given_sum p x i ≡ p.right i)
      side q e l b = (signed, tight)
        where
          of_row : (k : ℕ) → k ≡ p.nodes + q → p.kind k ≢ Eq → IsSignedByBounds (zero_ℚ +ℚ neg_ℚ (slack_sign (p.kind k) *ℚ Y k)) (Some zero_ℚ) None (x (slack_at p q))
          of_row k f d = subst (λ r. IsSignedByBounds (zero_ℚ +ℚ neg_ℚ (slack_sign (p.kind r) *ℚ Y r)) (Some zero_ℚ) None (x (slack_at p q))) (sym f) (slack_fits q l (λ c. d (ap p.kind f ∙ c)))

          signed : IsSigned (p.kind i) (Y i)
          signed = signed_from_slack (p.kind i) (Y i) (x (slack_at p q)) (of_row i e)

          tight : p.kind i ≢ Eq → Y i ≢ zero_ℚ → given_sum p x i ≡ p.right i
          tight d nz =
              plain (given_sum p x i) (slack_sign (p.kind i))
              ∙ (ap (λ z. given_sum p x i +ℚ slack_sign (p.kind i) *ℚ z) (sym (ap (λ k. x (slack_at p k)) (let f : i - p.nodes ≡ q = omega arith in f) ∙ slack_zero (p.kind i) (Y i) (x (slack_at p q)) d nz signed (of_row i e d)))
              ∙ row_with_slack p ok n negative s x hv last zero i h)
            where
              plain : (a b : ℚ) → a ≡ a +ℚ b *ℚ zero_ℚ
              plain a b = ring (a ∷ b ∷ []) (search codes depth 8) refl

      of : (i < p.nodes) ⊎ (p.nodes ≤ i) → IsSigned (p.kind i) (Y i) × (p.kind i ≢ Eq → Y i ≢ zero_ℚ → given_sum p x i ≡ p.right i)
      of (inl l) = node (ok.node_kind i l)
      of (inr l) = side (i - p.nodes) (omega arith) (omega arith) l

-- Values within their bounds, with artificials that add up to 0, and duals by which no column that can enter has a wrong sign, are a valid Best certificate.
pub signs_are_best : (P : LinearProgram) → IsProblem P → (n : StageNumber) (negative : ℕ → Bool) (s : ℕ → Place) (x : ℕ → ℚ) → HasValues (layout_of P) n negative s x → IsLast (layout_of P) n
    → sum_ℚ (stage_in (layout_of P) n negative).columns (λ j. ones (layout_of P) j *ℚ x j) ≡ zero_ℚ
    → (Y : ℕ → ℚ) → ((j : ℕ) → j < (stage_in (layout_of P) n negative).columns → j < (stage_in (layout_of P) n negative).entering → s j ≡ Basic → reduced (stage_in (layout_of P) n negative) (twos (layout_of P)) Y j ≡ zero_ℚ)
    → ((j : ℕ) → IsEntrant (stage_in (layout_of P) n negative) j → HasWrongSign (s j) (reduced (stage_in (layout_of P) n negative) (twos (layout_of P)) Y j) → ⊥)
    → IsValidBest P (list_of (length P.columns) x) (list_of (length P.rows) Y)
signs_are_best P ok n negative s x hv last zero Y basic right = record {
  feasible = values_feasible P ok n negative s x hv last zero;
  one_each = length-list_of (length P.rows) Y;
  costs_fit = λ j h.
      subst₂ (λ d z. IsSignedByBounds d (lower_of (column P j)) (upper_of (column P j)) z)
      (ap (λ k. (column P j).cost -ℚ sum_ℚ k (λ i. Y i *ℚ p.entry j i)) (rows_are P ok) ∙ ap (λ z. (column P j).cost -ℚ z) (sym (combined_list P Y j)))
      (sym (at-list_of (length P.columns) x j h))
      (given_fits p (layout_fits P ok) n negative s x hv last zero Y basic right j h);
  duals_fit = λ i h.
      subst₂ (λ y z. IsSigned (row P i).kind y × ((row P i).kind ≢ Eq → y ≢ zero_ℚ → z ≡ (row P i).right))
      (sym (at-list_of (length P.rows) Y i h))
      (sym (over_list P (λ j. p.entry j i) x))
      (dual_fits p (layout_fits P ok) n negative s x hv last zero Y basic right i (subst (λ k. i < k) (sym (rows_are P ok)) h));
}
  where
    p : Layout
    p = layout_of P

-- The optimal end: the values and the printed duals are a valid certificate.
pub optimal_is_best : (P : LinearProgram) → IsProblem P → (n : StageNumber) (negative : ℕ → Bool) (s : ℕ → Place) (st : IsState (layout_of P) n negative s) → IsLast (layout_of P) n
    → (y1 y2 : ℕ → ℚ) → AreDuals (stage_in (layout_of P) n negative) s (ones (layout_of P)) y1 → AreDuals (stage_in (layout_of P) n negative) s (twos (layout_of P)) y2
    → HasEndedOptimal (stage_in (layout_of P) n negative) s st.feasible.values (ones (layout_of P)) (twos (layout_of P)) y1 y2
    → (m : ℚ) → IsFactor (stage_in (layout_of P) n negative) s (reduced (stage_in (layout_of P) n negative) (ones (layout_of P)) y1) (reduced (stage_in (layout_of P) n negative) (twos (layout_of P)) y2) m
    → IsValidBest P (list_of (length P.columns) st.feasible.values) (list_of (length P.rows) (printed y1 y2 m))
optimal_is_best P ok n negative s st last y1 y2 d1 d2 ended m factor =
    signs_are_best P ok n negative s st.feasible.values (values_of_state p (layout_fits P ok) n negative s st) last ended.1 (printed y1 y2 m)
    (λ j h e b. reduced_printed S (ones p) (twos p) y1 y2 m j (ones_priced p j e) ∙ (ap₂ (λ u w. u +ℚ m *ℚ w) (d2 j h b) (d1 j h b) ∙ ring (m ∷ []) (search codes depth 8) refl))
    (λ j c wrong. printed_signs S s st.feasible.values (ones p) (twos p) y1 y2 m ended factor j c (ones_priced p j c.priced) wrong)
  where
    p : Layout
    p = layout_of P

    S : Stage
    S = stage_in (layout_of P) n negative
