-- What passes in the check of a state's certificate arises from the state.
use Rattle.std.proofs.Common.{◌≡◌, inl, inr, ◌⊎◌, ⊎_elim, ℕ, ◌<◌, ◌≤◌, ◌+◌, ◌-◌, Bool, true, false, List, length, Option, Some, None, refl, sym, ◌∙◌, ap, ap₂, subst, arith}
use Rattle.std.proofs.lemmas.List.{get_or_past}
use Rattle.nf_num.specs.Rational.{ℚ, zero_ℚ, ◌+ℚ◌, ◌*ℚ◌, ◌-ℚ◌, ◌≤ℚ◌, ◌<ℚ◌}
use Rattle.nf_num.specs.Sum.{sum_ℚ, delta}
use Rattle.nf_num.proofs.Laws.{le_or_lt, le_antisymm, zero_mul}
use Rattle.nf_frac.specs.declared.Passed.{Passed}
use Rattle.nf_model.specs.Program.{LinearProgram, column, row, coefficient, at}
use Rattle.nf_model.specs.Problem.{IsProblem}
use Rattle.nf_model.specs.Certificate.{combined}
use Rattle.nf_model.specs.Lists.{list_of}
use Rattle.nf_model.proofs.Lists.{length-list_of, at-list_of}
use Rattle.nf_sums.specs.Terms.{Terms, with_sign, PassesIn, Is}
use Rattle.nf_sums.specs.Terms.Term.{Product}
use Rattle.nf_sums.specs.Rows.{gap_terms, reduced_cost_terms, total_terms}
use Rattle.nf_sums.proofs.Part.{IsPartOf, same_term}
use Rattle.nf_sums.proofs.Laws.{in_part, products_of_remainder, wider}
use Rattle.nf_prob.specs.declared.cert.Cert.TheVariants as cert
use Rattle.nf_prob.specs.Arising.{BestTerms, FarkasTerms, RayTerms, combined_row, cost_row, total_row}
use Rattle.nf_prob.specs.Arising.BestTerms.{rest as best_rest, reduced_cost as best_reduced_cost, cost as best_cost}
use Rattle.nf_prob.specs.Arising.FarkasTerms.{combination as farkas_combination, gap as farkas_gap}
use Rattle.nf_prob.specs.Arising.RayTerms.{rest as ray_rest, ray_row, rate as ray_rate}
use Rattle.nf_prob.specs.Highest.{bound_or_zero, highest, highest_at}
use Rattle.nf_prob.proofs.Highest.{highest-positive, highest-negative, highest-zero}
use Rattle.nf_simplex.specs.Columns.{Col, all_columns, number_of, col_lower, col_upper, cost_one, cost_two, entry_of, ones, twos}
use Rattle.nf_simplex.specs.Layout.{Layout, layout_of}
use Rattle.nf_simplex.specs.Lists.{padded}
use Rattle.nf_simplex.specs.Numbers.{reduced}
use Rattle.nf_simplex.specs.StageOf.{StageNumber, StageOne, StageTwo, IsLast, rows_in}
use Rattle.nf_simplex.specs.Step.{signed}
use Rattle.nf_simplex.specs.Ends.{printed}
use Rattle.nf_simplex.specs.Standing.{Standing, PhaseOne, PhaseTwo, is_negative, place_at, rows_of, stage_of, HasColumn, AreDualsOf, IsFeasibleState}
use Rattle.nf_simplex.specs.Moves.{HasEndedOptimalIn, Prices}
use Rattle.nf_simplex.specs.Verdicts.{AreGivenValues, ArePrintedDuals, AreFarkasDuals, AreMoves, move_of}
use Rattle.nf_simplex.proofs.Orders.{yes_less, not_less, less_or_not}
use Rattle.nf_simplex.proofs.Padded.{rows_are}
use Rattle.nf_simplex.proofs.Same.{factor_same, reduced_same}
use Rattle.nf_simplex.proofs.StageOf.{column_given}
use Rattle.nf_simplex.proofs.Standings.{duals_are_unique}
use Rattle.nf_simplex.proofs.Values.{all_rows}
use Rattle.nf_basis.specs.Arising.{StateTerms, count_columns, ArePrinted, AreStanding, IsBoundAt, IsRay, rest_row}
use Rattle.nf_basis.specs.Arising.ArePricing.{of_phase, of_print}
use Rattle.nf_basis.specs.Arising.StateTerms.{standing_rest as state_rest, reduced_cost as state_reduced_cost, cost as state_cost, gap as state_gap, ray_row as state_ray_row, rate as state_rate}
use Rattle.nf_basis.specs.Names.{col_of}
use Rattle.nf_duals.proofs.Trailing.{sum_cut, trailing}
use Rattle.nf_certify.specs.declared.ended.Ended.TheVariants.{Best, NoFlow, NoBound}
use Rattle.nf_certify.specs.Laws.{ChecksArise}
use Rattle.nf_certify.proofs.Gap.{gap_without}

-- ---- rows of terms
-- A row with the same terms is a part.
same_terms : (a b : Terms) → a.count ≡ b.count → ((k : ℕ) → k < a.count → b.term k ≡ a.term k) → IsPartOf a b
same_terms a b n same = record {
  place = λ k. k;
  within = λ k h. subst (λ m. k < m) n h;
  apart = λ j k g h e. e;
  turned = false;
  term = λ k h. same_term (b.term k) (a.term k) (same k h);
}

-- the totals of two lists that are equal below the count
totals_same : (n : ℕ) (a x y : ℕ → ℚ) → ((k : ℕ) → k < n → x k ≡ y k) → IsPartOf (total_terms n a x) (total_terms n a y)
totals_same n a x y same = same_terms (total_terms n a x) (total_terms n a y) refl (λ k h. ap (Product (a k)) (sym (same k h)))

this_row : (R : Terms → Type 0) (t : Terms) (c : Passed) → R t → PassesIn (Is t) c → PassesIn R c
this_row R t c h = wider (Is t) R c (λ u e. subst R (sym e) h)

-- ---- bounds
bound_is : (o : Option ℚ) (v : ℚ) → v ≡ bound_or_zero o → (o ≡ Some v) ⊎ (v ≡ zero_ℚ)
bound_is None v e = inr e
bound_is (Some b) v e = inl (ap Some (sym e))

-- The place of the greatest multiple is a bound, or 0.
highest_is : (l u : Option ℚ) (w : ℚ) → ((l ≡ Some (highest l u w)) ⊎ (u ≡ Some (highest l u w))) ⊎ (highest l u w ≡ zero_ℚ)
highest_is l u w = ⊎_elim (λ a. ⊎_elim (zero a) negative (le_or_lt zero_ℚ w)) positive (le_or_lt w zero_ℚ)
  where
    positive : zero_ℚ <ℚ w → ((l ≡ Some (highest l u w)) ⊎ (u ≡ Some (highest l u w))) ⊎ (highest l u w ≡ zero_ℚ)
    positive h = ⊎_elim (λ e. inl (inr e)) (λ e. inr e) (bound_is u (highest l u w) (highest-positive l u w h))

    negative : w <ℚ zero_ℚ → ((l ≡ Some (highest l u w)) ⊎ (u ≡ Some (highest l u w))) ⊎ (highest l u w ≡ zero_ℚ)
    negative h = ⊎_elim (λ e. inl (inl e)) (λ e. inr e) (bound_is l (highest l u w) (highest-negative l u w h))

    zero : w ≤ℚ zero_ℚ → zero_ℚ ≤ℚ w → ((l ≡ Some (highest l u w)) ⊎ (u ≡ Some (highest l u w))) ⊎ (highest l u w ≡ zero_ℚ)
    zero a b = inr (highest-zero l u w (le_antisymm w zero_ℚ a b))

rows_below : (l : Layout) (n : StageNumber) → rows_in l n ≤ l.nodes + l.sides
rows_below l StageOne = omega arith
rows_below l StageTwo = omega arith

signed_is : (b : Bool) (v : ℚ) → signed b v ≡ with_sign b v
signed_is true v = refl
signed_is false v = refl

module _ (p : LinearProgram) (s : Standing) (ok : IsProblem p) (f : IsFeasibleState p s) where
  -- ---- the numbers of a list
  values_at : (xs : List ℚ) (g : AreGivenValues p s xs) (j : ℕ) → j < length p.columns → at xs j ≡ g.0 j
  values_at xs g j h = ap (λ l. at l j) g.2 ∙ at-list_of (length p.columns) g.0 j h

  standing : (xs : List ℚ) → AreGivenValues p s xs → AreStanding p s (at xs)
  standing xs g j h = inr (inl ((let l : j < count_columns p = omega arith in l), g.0, g.1, values_at xs g j h))

  rest_in : (xs : List ℚ) (i : ℕ) (c : Passed) → AreGivenValues p s xs → i < length p.rows → PassesIn (Is (rest_row p (at xs) i)) c → PassesIn (StateTerms p s) c
  rest_in xs i c g h = this_row (StateTerms p s) (rest_row p (at xs) i) c (state_rest i (at xs) h (standing xs g))

  entries_are : (j : ℕ) → j < length p.columns → (stage_of p s).entry j ≡ (λ i. coefficient p i j)
  entries_are j h = ap (λ (c : Col). λ i. entry_of (layout_of p) (is_negative s) c i) (column_given (layout_of p) j h)

  within : (j : ℕ) → j < length p.columns → j < all_columns (layout_of p)
  within j h = omega arith

  -- ---- a plan
  module _ (xs ys : List ℚ) (given : AreGivenValues p s xs) (d : ArePrintedDuals p s ys) (ended : HasEndedOptimalIn p s) (last : IsLast (layout_of p) s.stage) where
    abbrev n : Prices p s
    n = ended.0

    all : rows_of p s ≡ length p.rows
    all = all_rows (layout_of p) s.stage last ∙ rows_are p ok

    printed_at : (i : ℕ) → i < rows_of p s → at ys i ≡ printed n.one n.two d.0 i
    printed_at i h =
        ap (λ l. at l i) d.2.2
        ∙ (at-list_of (length p.rows) (padded (rows_of p s) d.2.0) i (subst (λ m. i < m) all h)
        ∙ (yes_less i (rows_of p s) (d.2.0 i) zero_ℚ h
        ∙ (d.2.1.1 i h
        ∙ ap₂ (λ a b. a +ℚ d.0 *ℚ b)
        (duals_are_unique p s f.feasible.basis PhaseTwo d.2.1.0.two n.two d.2.1.0.are_duals_two n.are_duals_two i h)
        (duals_are_unique p s f.feasible.basis PhaseOne d.2.1.0.one n.one d.2.1.0.are_duals_one n.are_duals_one i h))))

    are_printed : ArePrinted p s (at ys)
    are_printed = record {
      values = n.values;
      one = n.one;
      two = n.two;
      factor = d.0;
      are_values = n.are_values;
      are_one = n.are_duals_one;
      are_two = n.are_duals_two;
      ended = ended.1;
      is_factor = factor_same (stage_of p s) (place_at s) (reduced (stage_of p s) (ones (layout_of p)) k.one) (reduced (stage_of p s) (twos (layout_of p)) k.two) (reduced (stage_of p s) (ones (layout_of p)) n.one) (reduced (stage_of p s) (twos (layout_of p)) n.two) d.0
          (λ j. reduced_same (stage_of p s) (place_at s) (ones (layout_of p)) k.one n.one (duals_are_unique p s f.feasible.basis PhaseOne k.one n.one k.are_duals_one n.are_duals_one) j)
          (λ j. reduced_same (stage_of p s) (place_at s) (twos (layout_of p)) k.two n.two (duals_are_unique p s f.feasible.basis PhaseTwo k.two n.two k.are_duals_two n.are_duals_two) j) d.1.1;
      are = printed_at;
    }
      where
        k : Prices p s
        k = d.1.0

    cost_arises : (j : ℕ) → j < length p.columns → StateTerms p s (cost_row p ys j)
    cost_arises j h =
        let cost = ap (cost_two (layout_of p)) (column_given (layout_of p) j h) in
        let entry = entries_are j h in
        subst (StateTerms p s) (λ i. reduced_cost_terms (cost i) (all i) (at ys) (entry i)) (state_reduced_cost j (twos (layout_of p)) (at ys) (within j h) (of_print (at ys) are_printed))

    plan_row : (t : Terms) (c : Passed) → BestTerms p xs ys t → PassesIn (Is t) c → PassesIn (StateTerms p s) c
    plan_row t c (best_rest i h) a = rest_in xs i c given h a
    plan_row t c (best_reduced_cost j h) a = this_row (StateTerms p s) (cost_row p ys j) c (cost_arises j h) a
    plan_row t c best_cost a =
        in_part (total_row p xs) (total_terms (length p.columns) (λ j. (column p j).cost) given.0) (StateTerms p s) c
        (totals_same (length p.columns) (λ j. (column p j).cost) (at xs) given.0 (values_at xs given)) (state_cost given.0 given.1) a

  -- ---- a combination of rows
  module _ (ys : List ℚ) (d : AreFarkasDuals p s ys) where
    abbrev behind : ℕ
    behind = length p.rows - rows_of p s

    all_of : length p.rows ≡ rows_of p s + behind
    all_of = let h : rows_of p s ≤ length p.rows = subst (λ m. rows_of p s ≤ m) (rows_are p ok) (rows_below (layout_of p) s.stage) in omega arith

    zeros : (i : ℕ) → rows_of p s ≤ i → at ys i ≡ zero_ℚ
    zeros i h = ap (λ l. at l i) d.2 ∙ of (less_or_not i (length p.rows))
      where
        of : (i < length p.rows) ⊎ (length p.rows ≤ i) → at (list_of (length p.rows) (padded (rows_of p s) d.0)) i ≡ zero_ℚ
        of (inl l) = at-list_of (length p.rows) (padded (rows_of p s) d.0) i l ∙ not_less i (rows_of p s) (d.0 i) zero_ℚ h
        of (inr l) = get_or_past _ i zero_ℚ (subst (λ m. m ≤ i) (sym (length-list_of (length p.rows) (padded (rows_of p s) d.0))) l)

    duals_at : (i : ℕ) → i < rows_of p s → at ys i ≡ d.0 i
    duals_at i h =
        ap (λ l. at l i) d.2
        ∙ (at-list_of (length p.rows) (padded (rows_of p s) d.0) i (let e = all_of in omega arith) ∙ yes_less i (rows_of p s) (d.0 i) zero_ℚ h)

    are_duals : AreDualsOf p s PhaseOne (at ys)
    are_duals j h b = reduced_same (stage_of p s) (place_at s) (ones (layout_of p)) (at ys) d.0 duals_at j ∙ d.1 j h b

    combination_arises : (j : ℕ) → j < length p.columns → StateTerms p s (reduced_cost_terms zero_ℚ (rows_of p s) (at ys) (λ i. coefficient p i j))
    combination_arises j h =
        let cost = ap cost_one (column_given (layout_of p) j h) in
        let entry = entries_are j h in
        subst (StateTerms p s) (λ i. reduced_cost_terms (cost i) (rows_of p s) (at ys) (entry i)) (state_reduced_cost j (ones (layout_of p)) (at ys) (within j h) (of_phase PhaseOne (at ys) are_duals))

    combination_in : (j : ℕ) (c : Passed) → j < length p.columns → PassesIn (Is (combined_row p ys j)) c → PassesIn (StateTerms p s) c
    combination_in j c h a =
        let whole = in_part (combined_row p ys j) (reduced_cost_terms zero_ℚ (length p.rows) (at ys) (λ i. coefficient p i j)) (Is (reduced_cost_terms zero_ℚ (length p.rows) (at ys) (λ i. coefficient p i j))) c
        (products_of_remainder zero_ℚ (length p.rows) (at ys) (λ i. coefficient p i j)) refl a in
        this_row (StateTerms p s) (reduced_cost_terms zero_ℚ (rows_of p s) (at ys) (λ i. coefficient p i j)) c (combination_arises j h)
        (trailing zero_ℚ (rows_of p s) behind (at ys) (λ i. coefficient p i j) c zeros (subst (λ m. PassesIn (Is (reduced_cost_terms zero_ℚ m (at ys) (λ i. coefficient p i j))) c) all_of whole))

    -- the combination without the rows that the stage lacks
    combined_cut : combined p ys ≡ (λ j. sum_ℚ (rows_of p s) (λ i. at ys i *ℚ coefficient p i j))
    combined_cut = λ k j. same j k
      where
        same : (j : ℕ) → combined p ys j ≡ sum_ℚ (rows_of p s) (λ i. at ys i *ℚ coefficient p i j)
        same j =
            ap (λ m. sum_ℚ m (λ i. at ys i *ℚ coefficient p i j)) all_of
            ∙ sum_cut (rows_of p s) behind (λ i. at ys i *ℚ coefficient p i j) (λ i h. ap (λ z. z *ℚ coefficient p i j) (zeros i h) ∙ zero_mul (coefficient p i j))

    bounds_are : (j : ℕ) → j < length p.columns → IsBoundAt p s j (highest_at p (combined p ys) j) ⊎ (highest_at p (combined p ys) j ≡ zero_ℚ)
    bounds_are j h =
        let low = ap (col_lower (layout_of p)) (column_given (layout_of p) j h) in
        let high = ap (col_upper (layout_of p)) (column_given (layout_of p) j h) in
        ⊎_elim (λ b. inl (⊎_elim (λ e. inl (low ∙ e)) (λ e. inr (high ∙ e)) b)) (λ e. inr e) (highest_is (column p j).lower (column p j).upper (combined p ys j))

    gap_arises : StateTerms p s (gap_terms (rows_of p s) (at ys) (λ i. (row p i).right) (length p.columns) (combined p ys) (highest_at p (combined p ys)))
    gap_arises =
        subst (λ w. StateTerms p s (gap_terms (rows_of p s) (at ys) (λ i. (row p i).right) (length p.columns) w (highest_at p (combined p ys)))) (sym combined_cut)
        (state_gap (at ys) (highest_at p (combined p ys)) are_duals bounds_are)

    combination_row : (t : Terms) (c : Passed) → FarkasTerms p ys t → PassesIn (Is t) c → PassesIn (StateTerms p s) c
    combination_row t c (farkas_combination j h) a = combination_in j c h a
    combination_row t c farkas_gap a =
        this_row (StateTerms p s) (gap_terms (rows_of p s) (at ys) (λ i. (row p i).right) (length p.columns) (combined p ys) (highest_at p (combined p ys))) c gap_arises
        (gap_without (at ys) (λ i. (row p i).right) (length p.columns) (combined p ys) (highest_at p (combined p ys)) (rows_of p s) behind zeros c
        (subst (λ m. PassesIn (Is (gap_terms m (at ys) (λ i. (row p i).right) (length p.columns) (combined p ys) (highest_at p (combined p ys)))) c) all_of a))

  -- ---- a ray
  module _ (e : Col) (here : HasColumn p s e) (down : Bool) (xs rs : List ℚ) (given : AreGivenValues p s xs) (m : AreMoves p s e down rs) where
    abbrev moved : ℕ → ℚ
    moved j = with_sign down (delta (number_of (layout_of p) e) j -ℚ m.0 j)

    is_ray : IsRay p s moved
    is_ray = record { entering = e; entries = m.0; negative = down; present = here; are_entries = m.1; moves = λ j h. refl }

    moves_at : (j : ℕ) → j < length p.columns → at rs j ≡ moved j
    moves_at j h = ap (λ l. at l j) m.2 ∙ (at-list_of (length p.columns) (move_of p e down m.0) j h ∙ signed_is down _)

    ray_terms : (t : Terms) (c : Passed) → RayTerms p xs rs t → PassesIn (Is t) c → PassesIn (StateTerms p s) c
    ray_terms t c (ray_rest i h) a = rest_in xs i c given h a
    ray_terms t c (ray_row i h) a =
        in_part (total_terms (length p.columns) (coefficient p i) (at rs)) (total_terms (length p.columns) (coefficient p i) moved) (StateTerms p s) c
        (totals_same (length p.columns) (coefficient p i) (at rs) moved moves_at) (state_ray_row i moved h is_ray) a
    ray_terms t c ray_rate a =
        in_part (total_row p rs) (total_terms (length p.columns) (λ j. (column p j).cost) moved) (StateTerms p s) c
        (totals_same (length p.columns) (λ j. (column p j).cost) (at rs) moved moves_at) (state_rate moved is_ray) a

-- One row of a check is enough.
by_row : (R S : Terms → Type 0) (c : Passed) → ((t : Terms) → R t → PassesIn (Is t) c → PassesIn S c) → PassesIn R c → PassesIn S c
by_row R S c h a = h a.row a.is_one (record { passes = a.passes; row = a.row; is_one = refl; arises = a.arises })

pub checks_arise : ChecksArise
checks_arise p s Best (cert.Best xs ys) c ok f h is = by_row (BestTerms p xs ys) (StateTerms p s) c (λ t w a. plan_row p s ok f xs ys is.0 is.1 h.0 h.1 t c w a)
checks_arise p s Best (cert.Farkas ys) c ok f h is = absurd is
checks_arise p s Best (cert.Ray xs rs) c ok f h is = absurd is
checks_arise p s NoFlow (cert.Best xs ys) c ok f h is = absurd is
checks_arise p s NoFlow (cert.Farkas ys) c ok f h is = by_row (FarkasTerms p ys) (StateTerms p s) c (λ t w a. combination_row p s ok f ys is t c w a)
checks_arise p s NoFlow (cert.Ray xs rs) c ok f h is = absurd is
checks_arise p s (NoBound k) (cert.Best xs ys) c ok f h is = absurd is
checks_arise p s (NoBound k) (cert.Farkas ys) c ok f h is = absurd is
checks_arise p s (NoBound k) (cert.Ray xs rs) c ok f h is = by_row (RayTerms p xs rs) (StateTerms p s) c (λ t w a. ray_terms p s ok f (col_of k) h.0.1 is.1.0 xs rs is.0 is.1.2 t c w a)
