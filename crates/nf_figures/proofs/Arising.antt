-- What overflows in the figures of a state arises from the state.
use Rattle.std.proofs.Common.{◌≡◌, inl, inr, ◌⊎◌, ℕ, ◌<◌, ◌≤◌, ◌+◌, ◌-◌, Bool, true, false, List, length, refl, sym, ◌∙◌, ap, ap₂, subst, arith}
use Rattle.std.proofs.lemmas.List.{get_or_past}
use Rattle.nf_num.specs.Rational.{ℚ, zero_ℚ, neg_ℚ, ◌+ℚ◌, ◌*ℚ◌}
use Rattle.nf_frac.specs.declared.Op.TheVariants.{Mul}
use Rattle.nf_frac.specs.declared.Passed.{Passed}
use Rattle.nf_frac.specs.Range.{Passes}
use Rattle.nf_model.specs.Program.{LinearProgram, column, row, coefficient, at}
use Rattle.nf_model.specs.Problem.{IsProblem}
use Rattle.nf_model.proofs.Lists.{at-list_of}
use Rattle.nf_sums.specs.Terms.{ArisesIn, IsUpToSign, PassesIn, Is, with_sign}
use Rattle.nf_sums.specs.Rows.{product_terms, reduced_cost_terms, total_terms}
use Rattle.nf_sums.proofs.Laws.{in_part, known, products_of_remainder, wider}
use Rattle.nf_prob.specs.Arising.{RowTerms}
use Rattle.nf_prob.specs.Reduced.{ReducedTerms}
use Rattle.nf_simplex.specs.Columns.{entry_of, cost_two}
use Rattle.nf_simplex.specs.Layout.{layout_of}
use Rattle.nf_simplex.specs.Standing.{Standing, PhaseTwo, costs_of, is_negative, rows_of, stage_of}
use Rattle.nf_simplex.specs.Verdicts.{AreGivenValues}
use Rattle.nf_simplex.proofs.StageOf.{column_given}
use Rattle.nf_basis.specs.Arising.{ArePricing, AreStanding, StateTerms, count_columns, rest_row}
use Rattle.nf_basis.specs.Arising.StateTerms.{cost as state_cost, reduced_cost as state_reduced_cost, standing_rest as state_rest}
use Rattle.nf_basis.specs.Arising.{ArePrinted}
use Rattle.nf_basis.specs.Arising.ArePricing.{of_phase, of_print}
use Rattle.nf_simplex.specs.Columns.{ones, twos}
use Rattle.nf_simplex.specs.Moves.{HasEndedOptimalIn}
use Rattle.nf_simplex.specs.Numbers.{reduced}
use Rattle.nf_simplex.specs.Standing.{IsBasisOf, PhaseOne, place_at}
use Rattle.nf_simplex.proofs.Same.{factor_same, reduced_same}
use Rattle.nf_simplex.proofs.Standings.{duals_are_unique}
use Rattle.nf_duals.specs.Printed.{ArePrintedBy}
use Rattle.nf_duals.proofs.PricedFacts.{rows_within}
use Rattle.nf_duals.proofs.Trailing.{trailing}

module _ (p : LinearProgram) (s : Standing) (xs : List ℚ) (g : AreGivenValues p s xs) where
  value-at : (j : ℕ) → j < length p.columns → at xs j ≡ g.0 j
  value-at j h = ap (λ l. at l j) g.2 ∙ at-list_of (length p.columns) g.0 j h

  signed : (b : Bool) (c : ℚ) → IsUpToSign c (with_sign b c)
  signed true c = inr refl
  signed false c = inl refl

  -- ---- the cost of a flow
  pub cost-passed : (j : ℕ) (x y : ℚ) (c : Passed) → j < length p.columns → x ≡ with_sign p.maximizes (column p j).cost → y ≡ at xs j → (c ≡ record { op = Mul; left = x; right = y }) × Passes Mul x y → PassesIn (StateTerms p s) c
  cost-passed j x y c h ex ey is =
      known (StateTerms p s) Mul x y c is.0 (subst (λ (z : Passed). Passes z.op z.left z.right) (sym is.0) is.1)
      (total_terms (length p.columns) (λ k. (column p k).cost) g.0) (state_cost g.0 g.1)
      (j, h, inl (subst (IsUpToSign (column p j).cost) (sym ex) (signed p.maximizes (column p j).cost), inl (ey ∙ value-at j h)))

  -- ---- the sum of a row
  stands : AreStanding p s (at xs)
  stands j h = inr (inl ((let l : j < count_columns p = omega arith in l), g.0, g.1, value-at j h))

  pub sum-passed : (c : Passed) → PassesIn (RowTerms p xs) c → PassesIn (StateTerms p s) c
  sum-passed c a =
      let i : ℕ = a.is_one.0 in
      in_part (product_terms (length p.columns) (coefficient p i) (at xs)) (rest_row p (at xs) i) (StateTerms p s) c
      (products_of_remainder (row p i).right (length p.columns) (coefficient p i) (at xs))
      (state_rest i (at xs) a.is_one.1 stands)
      (record { passes = a.passes; row = product_terms (length p.columns) (coefficient p i) (at xs); is_one = refl; arises = subst (λ t. ArisesIn t c.op c.left c.right) a.is_one.2 a.arises })

-- ---- the reduced cost of a column
past-duals : (y : List ℚ) (i : ℕ) → length y ≤ i → at y i ≡ zero_ℚ
past-duals y i h = get_or_past y i zero_ℚ h

pub reduced-passed : (p : LinearProgram) (s : Standing) (y : List ℚ) (k : ℕ) (v : Passed) → IsProblem p → k < length p.columns → length y ≡ rows_of p s → ArePricing p s (costs_of p PhaseTwo) (at y) → PassesIn (ReducedTerms p (column p k).cost y k) v → PassesIn (StateTerms p s) v
reduced-passed p s y k v q h places pricing a =
    let within : rows_of p s ≤ length p.rows = rows_within p s q in
    let rows : length p.rows ≡ rows_of p s + (length p.rows - rows_of p s) = omega (arith, within) in
    let there = column_given (layout_of p) k h in
    wider (Is (reduced_cost_terms (column p k).cost (rows_of p s) (at y) (λ i. coefficient p i k))) (StateTerms p s) v
    (λ t r. subst (StateTerms p s)
    (ap₂ (λ z d. reduced_cost_terms z (rows_of p s) (at y) (λ i. entry_of (layout_of p) (is_negative s) d i)) (ap (cost_two (layout_of p)) there) there ∙ sym r)
    (state_reduced_cost k (costs_of p PhaseTwo) (at y) (omega (arith, h)) pricing))
    (trailing (column p k).cost (rows_of p s) (length p.rows - rows_of p s) (at y) (λ i. coefficient p i k) v (λ i b. past-duals y i (omega (arith, places, b)))
    (subst (λ n. PassesIn (Is (reduced_cost_terms (column p k).cost n (at y) (λ i. coefficient p i k))) v) rows a))

-- ---- the printed duals price the columns
module _ (p : LinearProgram) (s : Standing) (basis : IsBasisOf p s) (y : List ℚ) where
  printed-pricing : (m : ℚ) → HasEndedOptimalIn p s → ArePrintedBy p s true m y → ArePrinted p s (at y)
  printed-pricing m ended d = record {
    values = ended.0.values;
    one = ended.0.one;
    two = ended.0.two;
    factor = m;
    are_values = ended.0.are_values;
    are_one = ended.0.are_duals_one;
    are_two = ended.0.are_duals_two;
    ended = ended.1;
    is_factor = factor_same (stage_of p s) (place_at s) (reduced (stage_of p s) (ones (layout_of p)) d.0.0.one) (reduced (stage_of p s) (twos (layout_of p)) d.0.0.two) (reduced (stage_of p s) (ones (layout_of p)) ended.0.one) (reduced (stage_of p s) (twos (layout_of p)) ended.0.two) m
        (λ j. reduced_same (stage_of p s) (place_at s) (ones (layout_of p)) d.0.0.one ended.0.one (duals_are_unique p s basis PhaseOne d.0.0.one ended.0.one d.0.0.are_duals_one ended.0.are_duals_one) j)
        (λ j. reduced_same (stage_of p s) (place_at s) (twos (layout_of p)) d.0.0.two ended.0.two (duals_are_unique p s basis PhaseTwo d.0.0.two ended.0.two d.0.0.are_duals_two ended.0.are_duals_two) j) d.0.1;
    are = λ i h. d.1.1 i h
        ∙ ap₂ (λ a b. a +ℚ m *ℚ b)
        (duals_are_unique p s basis PhaseTwo d.1.0.two ended.0.two d.1.0.are_duals_two ended.0.are_duals_two i h)
        (duals_are_unique p s basis PhaseOne d.1.0.one ended.0.one d.1.0.are_duals_one ended.0.are_duals_one i h);
  }

  pub pricing : (best : Bool) (m : ℚ) → (best ≡ true → HasEndedOptimalIn p s) → ArePrintedBy p s best m y → ArePricing p s (costs_of p PhaseTwo) (at y)
  pricing true m ended d = of_print (at y) (printed-pricing m (ended refl) d)
  pricing false m ended d = of_phase PhaseTwo (at y) d.1
