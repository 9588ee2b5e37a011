-- What a pivot does to the duals: those of the subtree below the leaving column rise by one number.
use Rattle.std.proofs.Common.{◌≡◌, ◌≢◌, ◌⊎◌, inl, inr, ℕ, suc, ◌<◌, Bool, true, false, List, [], ◌∷◌, length, get_or, refl, sym, ap, ap₂, ◌∙◌, subst, arith}
use Rattle.std.specs.Prelude.{if◌then◌else◌}
use Rattle.nf_num.specs.Rational.{ℚ, zero_ℚ, one_ℚ, ◌+ℚ◌, ◌*ℚ◌, neg_ℚ, inv_ℚ, ◌<ℚ◌}
use Rattle.nf_num.specs.Sum.{sum_ℚ, delta}
use Rattle.nf_frac.specs.declared.passed.Passed.{Passed}
use Rattle.nf_frac.specs.declared.passed.Op.TheVariants.{Add}
use Rattle.nf_model.specs.Program.{LinearProgram, at}
use Rattle.nf_model.specs.Problem.{IsProblem}
use Rattle.nf_sums.specs.Terms.{PassesIn, value_of, with_sign}
use Rattle.nf_sums.specs.Rows.{update_terms}
use Rattle.nf_sums.proofs.Laws.{known, next_sums}
use Rattle.nf_inverse.specs.Weights.{weight, weights_of}
use Rattle.nf_simplex.specs.Changes.{flipped}
use Rattle.nf_simplex.specs.Place as model
use Rattle.nf_simplex.specs.StageOf.{StageOne}
use Rattle.nf_simplex.specs.Layout.{layout_of}
use Rattle.nf_simplex.specs.Columns.{all_columns}
use Rattle.nf_simplex.specs.Numbers.{reduced}
use Rattle.nf_simplex.specs.Standing.{Standing, Phase, place_at, stage_of, rows_of, costs_of, IsBasisOf, AreDualsOf, IsStateOf}
use Rattle.nf_simplex.proofs.Basis.{sum_through, unit_sym, weights_unique}
use Rattle.nf_simplex.proofs.FieldLaws.{add-less, less_cases, less_irrefl, less_trans, mul-inverse, mul_comm, one-positive}
use Rattle.nf_simplex.proofs.Numbered.{number_within}
use Rattle.nf_simplex.proofs.Slots.{spread_at}
use Rattle.nf_simplex.proofs.Sum.{sum_ext, sum_unit, unit_same, unit_other, equal_or_not}
use Rattle.nf_simplex.proofs.Terms.{v, nought, unit, minus, ◌:+◌, ◌:*◌, ◌:-◌, ring, one-mul, zero-add}
use Rattle.nf_basis.specs.declared.col.Col.{Col}
use Rattle.nf_basis.specs.declared.col.Phase as named
use Rattle.nf_basis.specs.Arising.{StateTerms, IsPivotAt}
use Rattle.nf_basis.specs.Arising.StateTerms.{update as state_update}
use Rattle.nf_basis.specs.Arising.IsUpdated.{dual as updated_dual}
use Rattle.nf_basis.specs.Arising.IsChange.{reduced_cost as cost_change}
use Rattle.nf_basis.specs.Arising.IsMultiple.{one as by_one}
use Rattle.nf_basis.specs.Dense.{IsInverseOf}
use Rattle.nf_basis.specs.Duals.{after_pivot}
use Rattle.nf_basis.specs.Kept.{IsBoundOf, IsNonbasic, number, place_in}
use Rattle.nf_basis.specs.Names.{col_of}
use Rattle.nf_basis.specs.Numbers.{in_slot, slot_number, ListBasics, AreWeightsBySlot}
use Rattle.nf_basis.proofs.Flipped.{was_basic_before}
use Rattle.nf_basis.proofs.Inverse.{slots_are}
use Rattle.nf_basis.proofs.Pivoted.{pivot_row}
use Rattle.nf_basis.proofs.Priced.{duals_after}
use Rattle.nf_links.specs.Map.{LinkMap}
use Rattle.nf_tree.specs.declared.duals.Duals.{Duals}
use Rattle.nf_tree.specs.Duals.{IsRaisedBelow, IsSubtree, KeepsDuals, PassesRaised}
use Rattle.nf_tree.specs.Network.{IsTernary, turn}
use Rattle.nf_tree.specs.Vertices.{head_at, tail_at}
use Rattle.nf_tree.specs.Links.{IsTreeOf, pred_in}
use Rattle.nf_tree.proofs.Keys.{key_ends, square, turn_ternary}
use Rattle.nf_tree.proofs.RootedTrees.{one-not-zero, cycle, cycle_ternary, entries_are_cycle, through_column}
use Rattle.nf_tree.proofs.Slotted.{net, rooted, rows_are, some_exchange, some_inverse}

module _ (p : LinearProgram) (s : Standing) (slots : List Col) (ok : IsProblem p) (one : s.stage ≡ StageOne) (listed : ListBasics p s slots) (order : List ℕ) (m : LinkMap) (tree : IsTreeOf p s slots order m) where
  abbrev σ : ℕ → ℚ
  σ i = turn (tail_at p s) (slot_number p slots) i

  rows : rows_of p s ≡ p.nodes
  rows = rows_are p s one

  in_nodes : (i : ℕ) → i < rows_of p s → i < p.nodes
  in_nodes i h = subst (λ n. i < n) rows h

  -- ---- the weights of a slot
  module _ (l : ℕ) (l_within : l < rows_of p s) (inside : ℕ → Bool) (below : IsSubtree p.nodes (λ v. get_or m.pred v 0) (suc l) inside) where
    f : ℕ → ℚ
    f t = if inside t then σ l else zero_ℚ

    f_in : (t : ℕ) → inside t ≡ true → f t ≡ σ l
    unfolding f
    f_in t e = ap (λ b. if b then σ l else zero_ℚ) e

    f_out : (t : ℕ) → inside t ≡ false → f t ≡ zero_ℚ
    unfolding f
    f_out t e = ap (λ b. if b then σ l else zero_ℚ) e

    f_same : (t u : ℕ) → inside t ≡ inside u → f t ≡ f u
    unfolding f
    f_same t u e = ap (λ b. if b then σ l else zero_ℚ) e

    -- Only the column of the slot crosses.
    crossing : (k : ℕ) → k < rows_of p s → sum_ℚ (rows_of p s) (λ i. f (suc i) *ℚ (stage_of p s).entry (slot_number p slots k) i) ≡ delta k l
    crossing k h =
        through_column (stage_of p s) (rows_of p s) (tail_at p s) (head_at p s) (net p s slots ok one listed order m tree) f (f_out 0 below.root) (slot_number p slots k) ((slots_are p s slots ok listed).within k h)
        ∙ (key_ends (rows_of p s) (tail_at p s) (head_at p s) (pred_in m) (λ t. get_or m.depth t 0) (slot_number p slots) (rooted p s slots ok one listed order m tree) f k h
        ∙ of (equal_or_not k l))
      where
        of : (k ≡ l) ⊎ (k ≢ l) → σ k *ℚ (f (suc k) +ℚ neg_ℚ (f (pred_in m k))) ≡ delta k l
        of (inl e) =
            ap (λ i. σ i *ℚ (f (suc i) +ℚ neg_ℚ (f (pred_in m i)))) e
            ∙ (ap₂ (λ x y. σ l *ℚ (x +ℚ neg_ℚ y)) (f_in (suc l) below.own) (f_out (pred_in m l) below.above)
            ∙ (ring (σ l ∷ []) (v 0 :* (v 0 :- nought)) (v 0 :* v 0) refl
            ∙ (square (tail_at p s) (slot_number p slots) l ∙ sym (ap (λ i. delta i l) e ∙ unit_same l))))
        of (inr ne) =
            ap (λ x. σ k *ℚ (x +ℚ neg_ℚ (f (pred_in m k)))) (f_same (suc k) (pred_in m k) (below.below (suc k) (omega arith) (let z = in_nodes k h in omega arith) (λ e. ne (omega arith))))
            ∙ (ring (σ k ∷ f (pred_in m k) ∷ []) (v 0 :* (v 1 :- v 1)) nought refl ∙ sym (unit_other k l ne))

    -- The weight of its column in an inverse column is its turn at the rows of the subtree, and 0 at the others.
    pub weight_below : (w : List (List ℚ)) → IsInverseOf p s slots w → (i : ℕ) → i < rows_of p s → weight w l i ≡ (if inside (suc i) then σ l else zero_ℚ)
    unfolding f
    weight_below w inv i h =
        sym (sum_unit (rows_of p s) (λ k. weight w k i) l l_within)
        ∙ (sum_ext (rows_of p s) _ _ (λ k m. mul_comm _ _ ∙ ap (λ z. weight w k i *ℚ z) (unit_sym l k ∙ (sym (crossing k m) ∙ sum_ext (rows_of p s) _ _ (λ r q. mul_comm _ _))))
        ∙ (sum_through (rows_of p s) (rows_of p s) (λ k. weight w k i) (λ r. f (suc r)) (λ k r. (stage_of p s).entry (slot_number p slots k) r)
        ∙ (sum_ext (rows_of p s) _ _ (λ r q. ap (λ z. z *ℚ f (suc r)) (inv.right i r h q))
        ∙ sum_unit (rows_of p s) (λ r. f (suc r)) i h)))

  -- ---- a pivot
  module _ (st : IsStateOf p s) (basis : IsBasisOf p s) (e : Col) (enters : IsNonbasic p s e) (l : ℕ) (l_within : l < rows_of p s)
      (α : List ℚ) (entries : AreWeightsBySlot p s slots ((stage_of p s).entry (number p e)) α) (pivot : at α l ≢ zero_ℚ) where
    e_within : number p e < all_columns (layout_of p)
    e_within = number_within (layout_of p) s.stage (col_of e) ok.arcs_within enters.0.1

    -- The entry of the entering column there is 1 or -1.
    pub entry_is_unit : (at α l ≡ one_ℚ) ⊎ (at α l ≡ neg_ℚ one_ℚ)
    entry_is_unit = of (cycle_ternary (stage_of p s) (place_at s) (tail_at p s) (head_at p s) (pred_in m) (λ t. get_or m.depth t 0) (slot_number p slots) (net p s slots ok one listed order m tree) (slots_are p s slots ok listed) (rooted p s slots ok one listed order m tree) (number p e) e_within l)
      where
        its : ℚ
        its = cycle (stage_of p s) (place_at s) (tail_at p s) (head_at p s) (pred_in m) (λ t. get_or m.depth t 0) (slot_number p slots) (net p s slots ok one listed order m tree) (slots_are p s slots ok listed) (rooted p s slots ok one listed order m tree) (number p e) l

        is : at α l ≡ its
        is =
            entries.by_slot l l_within
            ∙ (weights_unique (stage_of p s) (place_at s) ((stage_of p s).entry (number p e)) entries.weights _ basis.independent entries.are_weights
            (entries_are_cycle (stage_of p s) (place_at s) (tail_at p s) (head_at p s) (pred_in m) (λ t. get_or m.depth t 0) (slot_number p slots) (net p s slots ok one listed order m tree) (slots_are p s slots ok listed) (rooted p s slots ok one listed order m tree) (number p e) e_within)
            (slot_number p slots l) ((slots_are p s slots ok listed).within l l_within)
            ∙ spread_at (rows_of p s) (all_columns (layout_of p)) (place_at s) (slot_number p slots) (slots_are p s slots ok listed) _ l l_within)

        of : IsTernary its → (at α l ≡ one_ℚ) ⊎ (at α l ≡ neg_ℚ one_ℚ)
        of (inl z) = absurd (pivot (is ∙ z))
        of (inr (inl z)) = inl (is ∙ z)
        of (inr (inr z)) = inr (is ∙ z)

    module _ (phase : Phase) (y : List ℚ) (are : AreDualsOf p s phase (at y)) (d : ℚ) (d_is : d ≡ reduced (stage_of p s) (costs_of p phase) (at y) (number p e)) (x : ℚ) (x_is : x ≡ (σ l *ℚ d) *ℚ inv_ℚ (at α l)) where
      -- The duals after it.
      pub duals_raised : (to : model.Place) → IsBoundOf p (in_slot slots l) to → (z : List ℚ) → IsRaisedBelow p.nodes (λ v. get_or m.pred v 0) (suc l) x y z → AreDualsOf p (after_pivot p s e (in_slot slots l) to) phase (at z)
      duals_raised to bound z r =
          let (w, inv) = some_inverse p s slots ok basis listed in
          let (w', size, changed) = some_exchange (rows_of p s) w (at α) l inv.size l_within in
          duals_after p s e (in_slot slots l) to (weights_of w' l)
          (pivot_row p s slots w ok st basis listed inv e enters l l_within to bound α entries pivot w' size changed)
          phase y are d d_is z
          (λ i h. r.raised i (in_nodes i h)
          ∙ ap (λ q. at y i +ℚ q) (share (r.inside (suc i)) ∙ ap (λ q. q *ℚ d) (sym (changed.leaving_slot i (subst (λ n. i < n) (sym inv.size) h) ∙ ap (λ q. q *ℚ inv_ℚ (at α l)) (weight_below l l_within r.inside r.subtree w inv i h)))))
        where
          share : (b : Bool) → (if b then x else zero_ℚ) ≡ ((if b then σ l else zero_ℚ) *ℚ inv_ℚ (at α l)) *ℚ d
          share true = x_is ∙ ring (σ l ∷ d ∷ inv_ℚ (at α l) ∷ []) ((v 0 :* v 1) :* v 2) ((v 0 :* v 2) :* v 1) refl
          share false = ring (d ∷ inv_ℚ (at α l) ∷ []) nought ((nought :* v 1) :* v 0) refl

      -- Where nothing is added they stay.
      pub duals_stay : d ≡ zero_ℚ → (to : model.Place) → IsBoundOf p (in_slot slots l) to → AreDualsOf p (after_pivot p s e (in_slot slots l) to) phase (at y)
      duals_stay zero to bound =
          let (w, inv) = some_inverse p s slots ok basis listed in
          let (w', size, changed) = some_exchange (rows_of p s) w (at α) l inv.size l_within in
          duals_after p s e (in_slot slots l) to (weights_of w' l)
          (pivot_row p s slots w ok st basis listed inv e enters l l_within to bound α entries pivot w' size changed)
          phase y are d d_is y
          (λ i h. ring (at y i ∷ weight w' l i ∷ []) (v 0) (v 0 :+ v 1 :* nought) refl ∙ ap (λ q. at y i +ℚ weight w' l i *ℚ q) (sym zero))

      pivots : IsPivotAt p s (col_of e) (slot_number p slots l) entries.weights
      pivots = record {
        entering = enters.0.1;
        are_entries = entries.are_weights;
        within = (slots_are p s slots ok listed).within l l_within;
        basic = listed.basic l l_within;
        not_zero = λ z. pivot (entries.by_slot l l_within ∙ z);
      }

      sum_first : (g : ℕ → ℚ) → sum_ℚ 1 g ≡ g 0
      unfolding sum_ℚ
      sum_first g = zero-add (g 0)

      -- One dual's change is an update.
      pub raise_arises : (c : Passed) → PassesRaised p.nodes y x c → PassesIn (StateTerms p s) c
      raise_arises c r = of (turn_ternary (tail_at p s) (slot_number p slots) l)
        where
          i_within : r.node < rows_of p s
          i_within = subst (λ n. r.node < n) (sym rows) r.within

          arises : (negative : Bool) → x ≡ (with_sign negative one_ℚ *ℚ d) *ℚ inv_ℚ (entries.weights (slot_number p slots l)) → PassesIn (StateTerms p s) c
          arises negative is =
              let row = update_terms (at y r.node) negative one_ℚ d (entries.weights (slot_number p slots l)) in
              known (StateTerms p s) Add (at y r.node) x c r.is r.passes row
              (state_update (col_of e) (slot_number p slots l) entries.weights (at y r.node) one_ℚ d negative pivots (updated_dual (at y r.node) r.node (i_within, phase, at y, are, refl)) (by_one one_ℚ refl) (cost_change d phase (at y) are d_is))
              (next_sums row 1 false (at y r.node) x (omega arith) (sym (sum_first (λ k. value_of (row.term k)))) is)

          same : x ≡ (σ l *ℚ d) *ℚ inv_ℚ (entries.weights (slot_number p slots l))
          same = x_is ∙ ap (λ q. (σ l *ℚ d) *ℚ inv_ℚ q) (entries.by_slot l l_within)

          of : (σ l ≡ one_ℚ) ⊎ (σ l ≡ neg_ℚ one_ℚ) → PassesIn (StateTerms p s) c
          of (inl t) = arises false (same ∙ ap (λ q. (q *ℚ d) *ℚ inv_ℚ (entries.weights (slot_number p slots l))) t)
          of (inr t) = arises true (same ∙ ap (λ q. (q *ℚ d) *ℚ inv_ℚ (entries.weights (slot_number p slots l))) t)

-- ---- division by 1 and by -1
inv_one : inv_ℚ one_ℚ ≡ one_ℚ
inv_one = sym (one-mul (inv_ℚ one_ℚ)) ∙ mul-inverse one_ℚ one-not-zero

inv_minus : inv_ℚ (neg_ℚ one_ℚ) ≡ neg_ℚ one_ℚ
inv_minus =
    ring (inv_ℚ (neg_ℚ one_ℚ) ∷ []) (v 0) (minus unit :* (minus unit :* v 0)) refl
    ∙ (ap (λ x. neg_ℚ one_ℚ *ℚ x) (mul-inverse (neg_ℚ one_ℚ) (λ e. one-not-zero (ring [] unit (minus (minus unit)) refl ∙ (ap neg_ℚ e ∙ ring [] (minus nought) nought refl))))
    ∙ ring [] (minus unit :* unit) (minus unit) refl)

over_one : (x : ℚ) → x ≡ x *ℚ inv_ℚ one_ℚ
over_one x = ring (x ∷ []) (v 0) (v 0 :* unit) refl ∙ ap (λ z. x *ℚ z) (sym inv_one)

over_minus : (x : ℚ) → neg_ℚ x ≡ x *ℚ inv_ℚ (neg_ℚ one_ℚ)
over_minus x = ring (x ∷ []) (minus (v 0)) (v 0 :* minus unit) refl ∙ ap (λ z. x *ℚ z) (sym inv_minus)

minus_below : neg_ℚ one_ℚ <ℚ zero_ℚ
minus_below = of (less_cases (neg_ℚ one_ℚ) zero_ℚ)
  where
    up : neg_ℚ one_ℚ +ℚ one_ℚ ≡ zero_ℚ
    up = ring [] (minus unit :+ unit) nought refl

    of : (neg_ℚ one_ℚ <ℚ zero_ℚ) ⊎ ((neg_ℚ one_ℚ ≡ zero_ℚ) ⊎ (zero_ℚ <ℚ neg_ℚ one_ℚ)) → neg_ℚ one_ℚ <ℚ zero_ℚ
    of (inl h) = h
    of (inr (inl e)) = absurd (one-not-zero (ring [] unit (minus (minus unit)) refl ∙ (ap neg_ℚ e ∙ ring [] (minus nought) nought refl)))
    of (inr (inr h)) = absurd (less_irrefl zero_ℚ (less_trans zero_ℚ one_ℚ zero_ℚ one-positive (subst (λ z. z <ℚ zero_ℚ) (zero-add one_ℚ) (subst (λ z. zero_ℚ +ℚ one_ℚ <ℚ z) up (add-less zero_ℚ (neg_ℚ one_ℚ) one_ℚ h)))))

pub over_below : (x u : ℚ) → (u ≡ one_ℚ) ⊎ (u ≡ neg_ℚ one_ℚ) → u <ℚ zero_ℚ → neg_ℚ x ≡ x *ℚ inv_ℚ u
over_below x u (inl e) h = absurd (less_irrefl zero_ℚ (less_trans zero_ℚ one_ℚ zero_ℚ one-positive (subst (λ z. z <ℚ zero_ℚ) e h)))
over_below x u (inr e) h = over_minus x ∙ ap (λ z. x *ℚ inv_ℚ z) (sym e)

pub over_above : (x u : ℚ) → (u ≡ one_ℚ) ⊎ (u ≡ neg_ℚ one_ℚ) → (u <ℚ zero_ℚ → ⊥) → x ≡ x *ℚ inv_ℚ u
over_above x u (inl e) h = over_one x ∙ ap (λ z. x *ℚ inv_ℚ z) (sym e)
over_above x u (inr e) h = absurd (h (subst (λ z. z <ℚ zero_ℚ) (sym e) minus_below))

pub same_not_below : (u : ℚ) → u ≡ zero_ℚ → u <ℚ zero_ℚ → ⊥
same_not_below u e h = less_irrefl zero_ℚ (subst (λ z. z <ℚ zero_ℚ) e h)

pub above_not_below : (u : ℚ) → zero_ℚ <ℚ u → u <ℚ zero_ℚ → ⊥
above_not_below u a h = less_irrefl zero_ℚ (less_trans zero_ℚ u zero_ℚ a h)

-- A flip keeps the duals.
pub kept_by_flip : (p : LinearProgram) (s : Standing) (e : Col) (phase : named.Phase) (d : Duals) → number p e < length s.places → place_in p s e ≢ model.Basic → KeepsDuals p s phase d → KeepsDuals p (flipped p s (col_of e)) phase d
kept_by_flip p s e phase d has not_basic kept = record { one_each = kept.one_each; are = λ k j h b. kept.are k j h (was_basic_before p s e has not_basic j b) }
