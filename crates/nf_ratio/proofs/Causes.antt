-- The operations of the ratio test arise from the state: ways to bounds, and ratios of values and weights.
use Rattle.std.proofs.Common.{◌≡◌, ◌≢◌, ℕ, ◌<◌, ◌≤◌, ◌-◌, inl, inr, List, length, Some, None, refl, sym, ap, ◌∙◌, subst, arith}
use Rattle.nf_num.specs.Rational.{ℚ, zero_ℚ, ◌-ℚ◌}
use Rattle.nf_frac.specs.declared.passed.Passed.{Passed}
use Rattle.nf_model.specs.Program.{LinearProgram, at}
use Rattle.nf_sums.specs.Rows.{difference_terms, quotient_terms}
use Rattle.nf_sums.specs.Terms.{Terms, Is, PassesIn}
use Rattle.nf_sums.proofs.Laws.{wider}
use Rattle.nf_simplex.specs.Layout.{layout_of}
use Rattle.nf_simplex.specs.Columns.{col_lower, col_upper}
use Rattle.nf_simplex.specs.Standing.{Standing, stage_of, rows_of}
use Rattle.nf_simplex.proofs.Numbered.{col_number, number_within}
use Rattle.nf_basis.specs.declared.col.Col.{Col}
use Rattle.nf_basis.specs.declared.col.Place.{Place}
use Rattle.nf_basis.specs.declared.col.Place.TheVariants.{Lower, Upper, Zero, Basic, Absent}
use Rattle.nf_basis.specs.Names.{col_of}
use Rattle.nf_basis.specs.Kept.{IsPresent, number}
use Rattle.nf_basis.specs.Numbers.{AreEntriesBySlot, IsSound, in_slot, slot_number}
use Rattle.nf_basis.specs.Arising.{StateTerms, count_columns, IsBoundAt, IsPivotAt}
use Rattle.nf_basis.specs.Arising.StateTerms.{ratio as ratio_row, ratio_distance, distance}
use Rattle.nf_basis.specs.Arising.IsChange.{value as value_changed, weight as weight_changed}
use Rattle.nf_ratio.specs.Loops.{AreTiedWeights, bound_at, WeightTerms}
use Rattle.nf_ratio.specs.Ties.{tie}

module _ (p : LinearProgram) (s : Standing) (slots : List Col) (x : ℕ → ℚ) (sound : IsSound p s slots x) where
  -- the bounds of a present column are those of its number
  pub lower_is : (c : Col) → IsPresent p s c → (stage_of p s).lower (number p c) ≡ col_lower (layout_of p) (col_of c)
  lower_is c h = ap (col_lower (layout_of p)) (col_number (layout_of p) s.stage (col_of c) sound.problem.arcs_within h.1)

  pub upper_is : (c : Col) → IsPresent p s c → (stage_of p s).upper (number p c) ≡ col_upper (layout_of p) (col_of c)
  upper_is c h = ap (col_upper (layout_of p)) (col_number (layout_of p) s.stage (col_of c) sound.problem.arcs_within h.1)

  pub bound_is : (c : Col) → IsPresent p s c → (a : Place) (b : ℚ) → bound_at p c a ≡ Some b → IsBoundAt p s (number p c) b
  bound_is c h Lower b e = inl (lower_is c h ∙ e)
  bound_is c h Upper b e = inr (upper_is c h ∙ e)
  bound_is c h Zero b e = absurd (let z : None ≡ Some b = e in cc)
  bound_is c h Basic b e = absurd (let z : None ≡ Some b = e in cc)
  bound_is c h Absent b e = absurd (let z : None ≡ Some b = e in cc)

  slot_within : (i : ℕ) → i < rows_of p s → slot_number p slots i < count_columns p
  slot_within i h = number_within (layout_of p) s.stage (col_of (in_slot slots i)) sound.problem.arcs_within (sound.listed.present i h).1

  -- a way to a bound
  pub way_arises : (i : ℕ) → i < rows_of p s → (a : Place) (b : ℚ) → bound_at p (in_slot slots i) a ≡ Some b → (e : Passed) → PassesIn (Is (difference_terms (x (slot_number p slots i)) b)) e → PassesIn (StateTerms p s) e
  way_arises i h a b q e passes = wider (Is (difference_terms (x (slot_number p slots i)) b)) (StateTerms p s) e
      (λ t z. subst (StateTerms p s) (sym z) (ratio_distance (slot_number p slots i) (x (slot_number p slots i)) b (slot_within i h, x, sound.values, refl) (bound_is (in_slot slots i) (sound.listed.present i h) a b q))) passes

  module _ (c : Col) (here : IsPresent p s c) (entries : List ℚ) (are : AreEntriesBySlot p s slots c entries) where
    pub pivot_at : (i : ℕ) → i < rows_of p s → at entries i ≢ zero_ℚ → IsPivotAt p s (col_of c) (slot_number p slots i) are.weights
    pivot_at i h n = record {
      entering = here.1;
      are_entries = are.are_weights;
      within = slot_within i h;
      basic = sound.listed.basic i h;
      not_zero = λ z. n (are.by_slot i h ∙ z);
    }

    -- a ratio of a value
    pub value_ratio_arises : (i : ℕ) → i < rows_of p s → at entries i ≢ zero_ℚ → (a : Place) (b : ℚ) → bound_at p (in_slot slots i) a ≡ Some b → (e : Passed)
        → PassesIn (Is (quotient_terms (x (slot_number p slots i) -ℚ b) (at entries i))) e → PassesIn (StateTerms p s) e
    value_ratio_arises i h pivot a b q e passes = wider (Is (quotient_terms (x (slot_number p slots i) -ℚ b) (at entries i))) (StateTerms p s) e
        (λ t z. subst (StateTerms p s) (sym (z ∙ ap (quotient_terms (x (slot_number p slots i) -ℚ b)) (are.by_slot i h)))
        (ratio_row (col_of c) (slot_number p slots i) are.weights (x (slot_number p slots i) -ℚ b) (pivot_at i h pivot)
        (value_changed (x (slot_number p slots i) -ℚ b) (x (slot_number p slots i)) b (slot_within i h, x, sound.values, refl) (bound_is (in_slot slots i) (sound.listed.present i h) a b q) refl))) passes

-- the same, as the code comes by them
module _ (p : LinearProgram) (s : Standing) (slots : List Col) (x : ℕ → ℚ) (sound : IsSound p s slots x) (i : ℕ) (h : i < rows_of p s) (col : Col) (there : col ≡ in_slot slots i) (a : Place) (b v : ℚ) (met : Some b ≡ bound_at p col a) (is : v ≡ x (number p col)) where
  pub way_passed : (e : Passed) → PassesIn (Is (difference_terms v b)) e → PassesIn (StateTerms p s) e
  way_passed e q = way_arises p s slots x sound i h a b (ap (λ c. bound_at p c a) (sym there) ∙ sym met) e (subst (λ w. PassesIn (Is (difference_terms w b)) e) (is ∙ ap (λ c. x (number p c)) there) q)

  pub value_ratio_passed : (c : Col) → IsPresent p s c → (entries : List ℚ) → AreEntriesBySlot p s slots c entries → (way entry : ℚ) → way ≡ v -ℚ b → entry ≡ at entries i → entry ≢ zero_ℚ
      → (e : Passed) → PassesIn (Is (quotient_terms way entry)) e → PassesIn (StateTerms p s) e
  value_ratio_passed c here entries are way entry w n pivot e q =
      value_ratio_arises p s slots x sound c here entries are i h (λ z. pivot (n ∙ z)) a b (ap (λ d. bound_at p d a) (sym there) ∙ sym met) e
      (subst (λ y. PassesIn (Is (quotient_terms y (at entries i))) e) (w ∙ ap (λ y. y -ℚ b) (is ∙ ap (λ d. x (number p d)) there)) (subst (λ y. PassesIn (Is (quotient_terms way y)) e) n q))

module _ (p : LinearProgram) (s : Standing) (slots : List Col) (x : ℕ → ℚ) (sound : IsSound p s slots x) (c : Col) (here : IsPresent p s c) where
  -- the distance of two bounds
  pub span_passed : (e : Passed) → (l : ℚ) × (u : ℚ) × (bound_at p c Lower ≡ Some l) × (bound_at p c Upper ≡ Some u) × PassesIn (Is (difference_terms u l)) e → PassesIn (StateTerms p s) e
  span_passed e (l, u, a, b, q) = wider (Is (difference_terms u l)) (StateTerms p s) e
      (λ t z. subst (StateTerms p s) (sym z) (distance (number p c) l u (number_within (layout_of p) s.stage (col_of c) sound.problem.arcs_within here.1) (lower_is p s slots x sound c here ∙ a) (upper_is p s slots x sound c here ∙ b))) q

  -- ratios of weights
  pub weights_passed : (entries weights : List ℚ) (ts : List ℕ) (n row : ℕ) → AreEntriesBySlot p s slots c entries → AreTiedWeights p s slots row ts n weights → 0 < row → row ≤ rows_of p s → length entries ≡ rows_of p s
      → ((k : ℕ) → k < n → tie ts k < length entries → at entries (tie ts k) ≢ zero_ℚ) → (e : Passed) → PassesIn (WeightTerms entries weights ts n) e → PassesIn (StateTerms p s) e
  weights_passed entries weights ts n row are inv some few long pivot e q = wider (WeightTerms entries weights ts n) (StateTerms p s) e (λ t z. of t z) q
    where
      of : (t : Terms) → WeightTerms entries weights ts n t → StateTerms p s t
      of t (k, h, there, z) =
          let i : ℕ = tie ts k in
          let g : i < rows_of p s = subst (λ m. i < m) long there in
          subst (StateTerms p s) (sym (z ∙ ap (quotient_terms (at weights k)) (are.by_slot i g)))
          (ratio_row (col_of c) (slot_number p slots i) are.weights (at weights k) (pivot_at p s slots x sound c here entries are i g (pivot k h there)) (weight_changed (at weights k) (slot_within p s slots x sound i g, row - 1, inv.weights, (let a : row - 1 < rows_of p s = omega arith in a), inv.are_weights, inv.by_tie k h g)))
