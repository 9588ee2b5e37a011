-- The wide inverse, column by column: that it is the inverse of the basic columns, and where its operations arise.
use Rattle.std.proofs.Common.{◌≡◌, ◌≢◌, ◌⊎◌, inl, inr, ℕ, ◌+◌, ◌-◌, ◌<◌, Bool, true, false, not, eq-eqb, ne_eqb, List, [], ◌∷◌, length, refl, sym, ap, ap₂, ◌∙◌, subst, arith}
use Rattle.std.specs.Prelude.{nat_eq, if◌then◌else◌}
use Rattle.nf_num.specs.Rational.{ℚ, zero_ℚ, one_ℚ, ◌+ℚ◌, ◌*ℚ◌, ◌-ℚ◌, neg_ℚ}
use Rattle.nf_num.specs.Sum.{sum_ℚ, delta}
use Rattle.nf_frac.specs.declared.Passed.{Passed}
use Rattle.nf_model.specs.Program.{LinearProgram, at, coefficient}
use Rattle.nf_model.specs.Problem.{IsProblem}
use Rattle.nf_inverse.specs.Weights.{weight, IsDiagonal}
use Rattle.nf_prob.specs.Arising.{RowTerms}
use Rattle.nf_sums.specs.Terms.{PassesIn, with_sign}
use Rattle.nf_sums.specs.Terms.Term.{Product}
use Rattle.nf_sums.specs.Rows.{total_terms}
use Rattle.nf_sums.proofs.Part.{IsPartOf, same_term}
use Rattle.nf_sums.proofs.Laws.{carried}
use Rattle.nf_simplex.specs.Place as model
use Rattle.nf_simplex.specs.Layout.{layout_of}
use Rattle.nf_simplex.specs.Columns as columns
use Rattle.nf_simplex.specs.Columns.{all_columns, col_at, entry_of, slack_sign, sign}
use Rattle.nf_simplex.specs.Numbers.{IsIndependent}
use Rattle.nf_simplex.specs.StageOf.{StageOne, IsPresent as IsOfStage}
use Rattle.nf_simplex.specs.Standing.{Standing, number_in, place_at, is_negative, stage_of, rows_of, IsStateOf, IsInverseColumnOf, AreEntriesOf}
use Rattle.nf_simplex.specs.Moves.{IsSecondState}
use Rattle.nf_simplex.proofs.Basis.{basic_or_not, left_inverse}
use Rattle.nf_simplex.proofs.Fits.{layout_fits}
use Rattle.nf_simplex.proofs.Numbered.{col_number}
use Rattle.nf_simplex.proofs.Rows.{row_parts}
use Rattle.nf_simplex.proofs.Slots.{AreSlots, sum_slots, spread_at, weights_of_slots}
use Rattle.nf_simplex.proofs.StageOf.{column_slack, column_artificial}
use Rattle.nf_simplex.proofs.Sum.{sum_ext, scale_sum, unit_same, unit_other, equal_or_not}
use Rattle.nf_simplex.proofs.Terms.{v, nought, unit, minus, ◌:+◌, ◌:*◌, ◌:-◌, ring, mul-zero, zero-mul}
use Rattle.nf_basis.specs.declared.col.Col.{Col}
use Rattle.nf_basis.specs.Arising.{StateTerms, IsRay}
use Rattle.nf_basis.specs.Arising.StateTerms.{ray_row}
use Rattle.nf_basis.specs.Dense.{IsInverseOf}
use Rattle.nf_basis.specs.Names.{col_of}
use Rattle.nf_basis.specs.Kept.{number}
use Rattle.nf_basis.specs.Numbers.{in_slot, slot_number, ListBasics, AreWeightsBySlot}
use Rattle.nf_basis.proofs.Inverse.{slots_are}
use Rattle.nf_stage_two.specs.Wide.{AreWideSlots, IsNodeColumn, IsWideBelow, HasWideWeight, AreSpread, is_turned, is_own_turned, sum_in_row}
use Rattle.nf_stage_two.proofs.Blocks.{IsBlock, block_right, block_left}
use Rattle.nf_stage_two.proofs.WideSlots.{own_at, of_stage_one, rows_one, rows_two}

-- ---- one column after another
-- At first only the side rows' own columns stand.
pub wide_first : (p : LinearProgram) (s t : Standing) (slots : List Col) (w : List (List ℚ)) → IsDiagonal (length p.rows) (λ k. is_turned p t (in_slot slots k)) w → IsWideBelow p s t slots 0 w
wide_first p s t slots w d = record { size = d.size; nodes = λ r h. absurd (omega arith); sides = λ k q h l. d.weights k (p.nodes + q) h l }

pub wide_next : (p : LinearProgram) (s t : Standing) (slots : List Col) (n : ℕ) (w w' : List (List ℚ)) → n < p.nodes → length w' ≡ length w → ((k r : ℕ) → r ≢ n → weight w' k r ≡ weight w k r) → IsNodeColumn p s t slots w' n → IsWideBelow p s t slots n w → IsWideBelow p s t slots (n + 1) w'
wide_next p s t slots n w w' h size same new old = record {
  size = size ∙ old.size;
  nodes = λ r l. of r (below_next r n l);
  sides = λ k q l m. same k (p.nodes + q) (omega arith) ∙ old.sides k q l m;
}
  where
    below_next : (j n : ℕ) → j < n + 1 → (j < n) ⊎ (j ≡ n)
    below_next j n l = grind arith

    of : (r : ℕ) → (r < n) ⊎ (r ≡ n) → IsNodeColumn p s t slots w' r
    of r (inl l) = let c = old.nodes r l in record { weights = c.weights; are_weights = c.are_weights; each = λ k m. subst (HasWideWeight p t slots c.weights k) (sym (same k r (omega arith))) (c.each k m) }
    of r (inr e) = subst (IsNodeColumn p s t slots w') (sym e) new

-- ---- signs
sign_square : (b : Bool) → with_sign b one_ℚ *ℚ with_sign b one_ℚ ≡ one_ℚ
sign_square true = ring [] (minus unit :* minus unit) unit refl
sign_square false = ring [] (unit :* unit) unit refl

turned_sum : (b : Bool) (x : ℚ) → with_sign (not b) x ≡ neg_ℚ (with_sign b one_ℚ *ℚ x)
turned_sum true x = ring (x ∷ []) (v 0) (minus (minus unit :* v 0)) refl
turned_sum false x = ring (x ∷ []) (minus (v 0)) (minus (unit :* v 0)) refl

module _ (p : LinearProgram) (s t : Standing) (x : ℕ → ℚ) (ok : IsProblem p) (one : s.stage ≡ StageOne) (st : IsStateOf p s) (second : IsSecondState p s x t) (first slots : List Col) (listed : ListBasics p s first) (are : AreWideSlots p t first slots) where
  abbrev slot : ℕ → ℕ
  slot = slot_number p slots

  rows : rows_of p s ≡ p.nodes
  rows = rows_one p s t x ok one second first slots listed are

  below_nodes : (k : ℕ) → k < rows_of p s → k < p.nodes
  below_nodes k h = subst (λ n. k < n) rows h

  same_slot : (k : ℕ) → k < rows_of p s → slot_number p first k ≡ slot_number p slots k
  same_slot k h = ap (number p) (sym (are.first_ones k (below_nodes k h)))

  pub first_slots : AreSlots (rows_of p s) (all_columns (layout_of p)) (place_at s) (slot_number p slots)
  first_slots = let a = slots_are p s first ok listed in record {
    within = λ k h. subst (λ j. j < all_columns (layout_of p)) (same_slot k h) (a.within k h);
    basic = λ k h. ap (place_at s) (sym (same_slot k h)) ∙ a.basic k h;
    distinct = λ k i h l e. a.distinct k i h l (same_slot k h ∙ (e ∙ sym (same_slot i l)));
    onto = λ j h b. let (k, m, e) = a.onto j h b in (k, m, sym (same_slot k m) ∙ e);
  }

  -- ---- columns that stage one lacks
  absent_at : (j : ℕ) (c : columns.Col) → j < all_columns (layout_of p) → col_at (layout_of p) j ≡ c → (IsOfStage (layout_of p) StageOne c → ⊥) → place_at s j ≢ model.Basic
  absent_at j c h e none b = let z : model.Absent ≡ model.Basic = sym ((st.fits j h).absent (λ g. none (subst (λ n. IsOfStage (layout_of p) n c) one (subst (IsOfStage (layout_of p) s.stage) e g)))) ∙ b in cc

  pub no_slack : (q : ℕ) → q < (layout_of p).sides → place_at s (length p.columns + q) ≢ model.Basic
  no_slack q h = absent_at (length p.columns + q) (columns.Slack (p.nodes + q)) (omega arith) (column_slack (layout_of p) q h) (λ g. g)

  pub no_artificial : (q : ℕ) → q < (layout_of p).sides → place_at s (length p.columns + (layout_of p).sides + (p.nodes + q)) ≢ model.Basic
  no_artificial q h = absent_at (length p.columns + (layout_of p).sides + (p.nodes + q)) (columns.Artificial (p.nodes + q)) (omega arith) (column_artificial (layout_of p) (p.nodes + q)) (λ g. omega arith)

  -- ---- entries
  -- A column of stage one has the same entries in both.
  same_entry : (c : columns.Col) (r : ℕ) → IsOfStage (layout_of p) StageOne c → entry_of (layout_of p) (is_negative t) c r ≡ entry_of (layout_of p) (is_negative s) c r
  same_entry (columns.Given j) r h = refl
  same_entry (columns.Slack i) r h = absurd h
  same_entry (columns.Artificial i) r h = ap (λ b. sign b *ℚ delta i r) (second.nodes i h).1

  named_first : (k : ℕ) → k < p.nodes → col_at (layout_of p) (slot k) ≡ col_of (in_slot slots k)
  named_first k h = col_number (layout_of p) StageOne (col_of (in_slot slots k)) ok.arcs_within (of_stage_one p s t x ok one second first slots listed are k h)

  pub first_entry : (k r : ℕ) → k < p.nodes → (stage_of p t).entry (slot_number p slots k) r ≡ (stage_of p s).entry (slot_number p slots k) r
  first_entry k r h =
      ap (λ c. entry_of (layout_of p) (is_negative t) c r) (named_first k h)
      ∙ (same_entry (col_of (in_slot slots k)) r (of_stage_one p s t x ok one second first slots listed are k h) ∙ ap (λ c. entry_of (layout_of p) (is_negative s) c r) (sym (named_first k h)))

  pub own_entry : (q r : ℕ) → q < (layout_of p).sides → (stage_of p t).entry (slot_number p slots (p.nodes + q)) r ≡ with_sign (is_own_turned p t slots q) one_ℚ *ℚ delta (p.nodes + q) r
  own_entry q r h =
      let o = own_at p s t x ok one second first slots listed are q h in
      ap (λ c. entry_of (layout_of p) (is_negative t) c r) (col_number (layout_of p) t.stage (col_of (in_slot slots (p.nodes + q))) ok.arcs_within o.present.1) ∙ o.entry r

  -- ---- a column of the first inverse
  module _ (r : ℕ) (u : ℕ → ℚ) (are_u : IsInverseColumnOf p s r u) where
    by_first : (f : ℕ → ℚ) → sum_ℚ (all_columns (layout_of p)) (λ j. u j *ℚ f j) ≡ sum_ℚ (rows_of p s) (λ k. u (slot k) *ℚ f (slot k))
    by_first f = sum_slots (rows_of p s) (all_columns (layout_of p)) (place_at s) slot first_slots (λ j. u j *ℚ f j) (λ j h n. ap (λ z. z *ℚ f j) (are_u.of_basics j h n) ∙ zero-mul (f j))

    -- What its weights come to in a side row.
    pub side_sum : (q : ℕ) → q < (layout_of p).sides → sum_in_row p u (p.nodes + q) ≡ sum_ℚ (rows_of p s) (λ k. u (slot_number p slots k) *ℚ (stage_of p t).entry (slot_number p slots k) (p.nodes + q))
    side_sum q h =
        sym (row_parts (layout_of p) (layout_fits p ok) (is_negative t) u (p.nodes + q) (omega arith)
        ∙ (ap₂ (λ a b. sum_in_row p u (p.nodes + q) +ℚ slack_sign ((layout_of p).kind (p.nodes + q)) *ℚ a +ℚ sign (is_negative t (p.nodes + q)) *ℚ b)
        (ap u (let e : length p.columns + (p.nodes + q - p.nodes) ≡ length p.columns + q = omega arith in e) ∙ are_u.of_basics (length p.columns + q) (omega arith) (no_slack q h))
        (are_u.of_basics (length p.columns + (layout_of p).sides + (p.nodes + q)) (omega arith) (no_artificial q h))
        ∙ ring (sum_in_row p u (p.nodes + q) ∷ slack_sign ((layout_of p).kind (p.nodes + q)) ∷ sign (is_negative t (p.nodes + q)) ∷ []) (v 0 :+ v 1 :* nought :+ v 2 :* nought) (v 0) refl))
        ∙ by_first (λ j. (stage_of p t).entry j (p.nodes + q))

    pub first_sum : (i : ℕ) → i < rows_of p s → sum_ℚ (rows_of p s) (λ k. u (slot_number p slots k) *ℚ (stage_of p s).entry (slot_number p slots k) i) ≡ delta r i
    first_sum i h = sym (by_first (λ j. (stage_of p s).entry j i)) ∙ are_u.gives i h

    -- Weights by slot that are spread are these weights.
    pub spread_is : (by_slot spread : List ℚ) → ((k : ℕ) → k < p.nodes → at by_slot k ≡ u (slot_number p slots k)) → AreSpread p slots p.nodes by_slot spread → (j : ℕ) → j < length p.columns → at spread j ≡ u j
    spread_is by_slot spread same a j h = of (basic_or_not (place_at s j))
      where
        within : j < all_columns (layout_of p)
        within = omega arith

        of : (place_at s j ≡ model.Basic) ⊎ (place_at s j ≢ model.Basic) → at spread j ≡ u j
        of (inl b) =
            let (k, m, e) = first_slots.onto j within b in
            let n = below_nodes k m in
            subst (λ i. at spread i ≡ u i) e (a.in_slots k n (subst (λ i. i < length p.columns) (sym e) h) ∙ same k n)
        of (inr n) = a.others j h (λ k l e. n (ap (place_at s) (sym e) ∙ first_slots.basic k (subst (λ i. k < i) (sym rows) l))) ∙ sym (are_u.of_basics j within n)

    -- ---- where the sums arise
    abbrev ray : ℕ → ℚ
    ray j = with_sign (not (is_negative s r)) (delta (number_in p (columns.Artificial r)) j -ℚ sign (is_negative s r) *ℚ u j)

    artificial_column : (i : ℕ) → (stage_of p s).entry (number_in p (columns.Artificial r)) i ≡ sign (is_negative s r) *ℚ delta r i
    artificial_column i = ap (λ c. entry_of (layout_of p) (is_negative s) c i) (column_artificial (layout_of p) r)

    its_entries : AreEntriesOf p s (columns.Artificial r) (λ j. sign (is_negative s r) *ℚ u j)
    its_entries = record {
      of_basics = λ j h n. ap (λ z. sign (is_negative s r) *ℚ z) (are_u.of_basics j h n) ∙ mul-zero _;
      gives = λ i h.
          sum_ext (all_columns (layout_of p)) _ (λ j. sign (is_negative s r) *ℚ (u j *ℚ (stage_of p s).entry j i)) (λ j l. ring (sign (is_negative s r) ∷ u j ∷ (stage_of p s).entry j i ∷ []) ((v 0 :* v 1) :* v 2) (v 0 :* (v 1 :* v 2)) refl)
          ∙ (scale_sum (all_columns (layout_of p)) (λ j. u j *ℚ (stage_of p s).entry j i) (sign (is_negative s r)) ∙ (ap (λ z. sign (is_negative s r) *ℚ z) (are_u.gives i h) ∙ sym (artificial_column i)));
    }

    its_ray : r < p.nodes → IsRay p s ray
    its_ray small = record { entering = columns.Artificial r; entries = λ j. sign (is_negative s r) *ℚ u j; negative = not (is_negative s r); present = subst (λ n. IsOfStage (layout_of p) n (columns.Artificial r)) (sym one) small; are_entries = its_entries; moves = λ j h. refl }

    on_given : (b : Bool) (y : ℚ) → with_sign (not b) (zero_ℚ -ℚ sign b *ℚ y) ≡ y
    on_given true y = ring (y ∷ []) (nought :- minus unit :* v 0) (v 0) refl
    on_given false y = ring (y ∷ []) (minus (nought :- unit :* v 0)) (v 0) refl

    ray_is : (j : ℕ) → j < length p.columns → ray j ≡ u j
    ray_is j h = ap (λ d. with_sign (not (is_negative s r)) (d -ℚ sign (is_negative s r) *ℚ u j)) (unit_other (number_in p (columns.Artificial r)) j (omega arith)) ∙ on_given (is_negative s r) (u j)

    pub sums_arise : r < p.nodes → (spread : List ℚ) → ((j : ℕ) → j < length p.columns → at spread j ≡ u j) → (c : Passed) → PassesIn (RowTerms p spread) c → PassesIn (StateTerms p s) c
    sums_arise small spread same c = carried (RowTerms p spread) (StateTerms p s) c
        (λ part (i, h, e). (total_terms (length p.columns) (coefficient p i) ray, subst (λ t. IsPartOf t (total_terms (length p.columns) (coefficient p i) ray)) (sym e) (part_of i), ray_row i ray h (its_ray small)))
      where
        part_of : (i : ℕ) → IsPartOf (total_terms (length p.columns) (coefficient p i) (at spread)) (total_terms (length p.columns) (coefficient p i) ray)
        part_of i = record {
          place = λ k. k;
          within = λ k h. h;
          apart = λ j k h l e. e;
          turned = false;
          term = λ k h. same_term _ _ (ap (λ z. Product (coefficient p i k) z) (ray_is k h ∙ sym (same k h)));
        }

  -- Column r of the first inverse, as the calls tell it: by slot, and spread over the given columns.
  pub record IsToldColumn (r : ℕ) (by_slot spread : List ℚ) : Type 0 where
    pub weights : ℕ → ℚ
    pub are_weights : IsInverseColumnOf p s r weights
    pub firsts : (k : ℕ) → k < p.nodes → at by_slot k ≡ weights (slot_number p slots k)
    pub givens : (j : ℕ) → j < length p.columns → at spread j ≡ weights j

  pub told_column : (r i : ℕ) (s' : Standing) (first' : List Col) (out by_slot again spread lent : List ℚ) → i - 1 ≡ r → s' ≡ s → first' ≡ first → by_slot ≡ out → again ≡ out → lent ≡ spread → length out ≡ p.nodes
      → AreWeightsBySlot p s' first' (delta (i - 1)) out → AreSpread p slots (length by_slot) by_slot spread → IsToldColumn r again lent
  told_column r i s' first' out by_slot again spread lent row standing listing same same_again same_lent size here spreads =
      record { weights = h.weights; are_weights = h.are_weights; firsts = λ k l. ap (λ xs. at xs k) same_again ∙ firsts k l; givens = λ j l. ap (λ xs. at xs j) same_lent ∙ spread_is r h.weights h.are_weights out spread firsts told j l }
    where
      h : AreWeightsBySlot p s first (delta r) out
      h = subst (λ u. AreWeightsBySlot p u first (delta r) out) standing (subst (λ u. AreWeightsBySlot p s' u (delta r) out) listing (subst (λ k. AreWeightsBySlot p s' first' (delta k) out) row here))

      told : AreSpread p slots p.nodes out spread
      told = subst (λ n. AreSpread p slots n out spread) size (subst (λ u. AreSpread p slots (length u) u spread) same spreads)

      firsts : (k : ℕ) → k < p.nodes → at out k ≡ h.weights (slot_number p slots k)
      firsts k l = let m = subst (λ n. k < n) (sym rows) l in h.by_slot k m ∙ ap h.weights (same_slot k m)

  -- ---- the whole inverse
  module _ (ind : IsIndependent (stage_of p s) (place_at s)) (w : List (List ℚ)) (b : IsWideBelow p s t slots p.nodes w) where
    abbrev E : ℕ → ℕ → ℚ
    E l r = (stage_of p t).entry (slot_number p slots l) r

    in_rows : (k : ℕ) → k < p.nodes → k < length p.rows
    in_rows k h = let z = ok.nodes_within in omega arith

    right_first : (r i : ℕ) → r < rows_of p s → i < rows_of p s → sum_ℚ (rows_of p s) (λ k. weight w k r *ℚ (stage_of p s).entry (slot_number p slots k) i) ≡ delta r i
    right_first r i h l =
        let c = b.nodes r (below_nodes r h) in
        sum_ext (rows_of p s) _ (λ k. c.weights (slot k) *ℚ (stage_of p s).entry (slot k) i) (λ k m. ap (λ z. z *ℚ (stage_of p s).entry (slot k) i) ((c.each k (in_rows k (below_nodes k m))).first_one (below_nodes k m)))
        ∙ first_sum r c.weights c.are_weights i l

    slot_delta : (l k : ℕ) → l < rows_of p s → k < rows_of p s → delta (slot l) (slot k) ≡ delta l k
    slot_delta l k h m = of (equal_or_not l k)
      where
        of : (l ≡ k) ⊎ (l ≢ k) → delta (slot l) (slot k) ≡ delta l k
        of (inl e) = subst (λ z. delta (slot l) (slot z) ≡ delta l z) e (unit_same (slot l) ∙ sym (unit_same l))
        of (inr d) = unit_other (slot l) (slot k) (λ e. d (first_slots.distinct l k h m e)) ∙ sym (unit_other l k d)

    left_first : (l k : ℕ) → l < rows_of p s → k < rows_of p s → sum_ℚ (rows_of p s) (λ r. (stage_of p s).entry (slot_number p slots l) r *ℚ weight w k r) ≡ delta l k
    left_first l k h m =
        sum_ext (rows_of p s) _ _ (λ r n. ap (λ z. (stage_of p s).entry (slot l) r *ℚ z) (sym (spread_at (rows_of p s) (all_columns (layout_of p)) (place_at s) slot first_slots (λ a. weight w a r) k m)))
        ∙ (left_inverse (stage_of p s) (place_at s) _ ind (λ r n. weights_of_slots (stage_of p s) (place_at s) slot first_slots (delta r) (λ a. weight w a r) record { gives = λ i z. right_first r i n z })
        (slot l) (first_slots.within l h) (first_slots.basic l h) (slot k) (first_slots.within k m) ∙ slot_delta l k h m)

    block : IsBlock p.nodes (layout_of p).sides (λ l r. (stage_of p t).entry (slot_number p slots l) r) (weight w) (λ q. with_sign (is_own_turned p t slots q) one_ℚ)
    block = record {
      square = λ q h. sign_square (is_own_turned p t slots q);
      own_entry = λ q r h l. own_entry q r h;
      own_weight = λ k q h l. b.sides k q (omega arith) (omega arith) ∙ own k q (equal_or_not k (p.nodes + q));
      below = λ q r h l. under q r h l;
      right = λ r i h l. sum_ext p.nodes _ _ (λ k m. ap (λ z. weight w k r *ℚ z) (first_entry k i m)) ∙ subst (λ n. (r i : ℕ) → r < n → i < n → sum_ℚ n (λ k. weight w k r *ℚ (stage_of p s).entry (slot k) i) ≡ delta r i) rows right_first r i h l;
      left = λ l k h m. sum_ext p.nodes _ _ (λ r z. ap (λ y. y *ℚ weight w k r) (first_entry l r h)) ∙ subst (λ n. (l k : ℕ) → l < n → k < n → sum_ℚ n (λ r. (stage_of p s).entry (slot l) r *ℚ weight w k r) ≡ delta l k) rows left_first l k h m;
    }
      where
        own : (k q : ℕ) → (k ≡ p.nodes + q) ⊎ (k ≢ p.nodes + q) → (if nat_eq k (p.nodes + q) then with_sign (is_turned p t (in_slot slots k)) one_ℚ else zero_ℚ) ≡ with_sign (is_own_turned p t slots q) one_ℚ *ℚ delta k (p.nodes + q)
        own k q (inl e) =
            ap (λ z. if z then with_sign (is_turned p t (in_slot slots k)) one_ℚ else zero_ℚ) (eq-eqb k (p.nodes + q) e)
            ∙ (ap (λ z. with_sign (is_turned p t (in_slot slots z)) one_ℚ) e ∙ (ring (with_sign (is_own_turned p t slots q) one_ℚ ∷ []) (v 0) (v 0 :* unit) refl ∙ ap (λ d. with_sign (is_own_turned p t slots q) one_ℚ *ℚ d) (sym (unit_same (p.nodes + q)) ∙ ap (λ z. delta z (p.nodes + q)) (sym e))))
        own k q (inr d) =
            ap (λ z. if z then with_sign (is_turned p t (in_slot slots k)) one_ℚ else zero_ℚ) (ne_eqb k (p.nodes + q) d)
            ∙ sym (ap (λ z. with_sign (is_own_turned p t slots q) one_ℚ *ℚ z) (unit_other k (p.nodes + q) d) ∙ mul-zero _)

        under : (q r : ℕ) → q < (layout_of p).sides → r < p.nodes → weight w (p.nodes + q) r ≡ neg_ℚ (with_sign (is_own_turned p t slots q) one_ℚ *ℚ sum_ℚ p.nodes (λ l. weight w l r *ℚ (stage_of p t).entry (slot_number p slots l) (p.nodes + q)))
        under q r h l =
            let c = b.nodes r l in
            (c.each (p.nodes + q) (omega arith)).own_one q refl
            ∙ (turned_sum (is_own_turned p t slots q) (sum_in_row p c.weights (p.nodes + q))
            ∙ ap (λ z. neg_ℚ (with_sign (is_own_turned p t slots q) one_ℚ *ℚ z))
            (side_sum r c.weights c.are_weights q h
            ∙ (ap (λ n. sum_ℚ n (λ k. c.weights (slot k) *ℚ (stage_of p t).entry (slot k) (p.nodes + q))) rows
            ∙ sum_ext p.nodes _ _ (λ k m. ap (λ z. z *ℚ (stage_of p t).entry (slot k) (p.nodes + q)) (sym ((c.each k (in_rows k m)).first_one m))))))

    all_rows : rows_of p t ≡ p.nodes + (layout_of p).sides
    all_rows = rows_two p s t x ok one second first slots listed are

    pub wide_inverse_is : IsInverseOf p t slots w
    wide_inverse_is = record {
      size = b.size ∙ (let z = ok.nodes_within in let e : length p.rows ≡ p.nodes + (layout_of p).sides = omega arith in e ∙ sym all_rows);
      right = subst (λ n. (r i : ℕ) → r < n → i < n → sum_ℚ n (λ k. weight w k r *ℚ (stage_of p t).entry (slot k) i) ≡ delta r i) (sym all_rows) (block_right p.nodes (layout_of p).sides E (weight w) _ block);
      left = subst (λ n. (l k : ℕ) → l < n → k < n → sum_ℚ n (λ r. (stage_of p t).entry (slot l) r *ℚ weight w k r) ≡ delta l k) (sym all_rows) (block_left p.nodes (layout_of p).sides E (weight w) _ block);
    }
