-- The slots of the start of stage two list its basic columns.
use Rattle.std.proofs.Common.{◌≡◌, ◌≢◌, ◌⊎◌, inl, inr, ℕ, suc, ◌+◌, ◌-◌, ◌<◌, ◌≤◌, Bool, true, false, List, length, Option, Some, None, refl, sym, ap, ◌∙◌, subst, arith}
use Rattle.nf_num.specs.Rational.{ℚ, zero_ℚ, one_ℚ, ◌*ℚ◌, ◌<ℚ◌, ◌≤ℚ◌}
use Rattle.nf_num.specs.Sum.{delta}
use Rattle.nf_num.proofs.Laws.{le_or_lt, not_le_of_lt}
use Rattle.nf_model.specs.declared.RowKind.{RowKind}
use Rattle.nf_model.specs.declared.RowKind.TheVariants.{Eq, Le, Ge}
use Rattle.nf_model.specs.Program.{LinearProgram, row}
use Rattle.nf_sums.specs.Terms.{with_sign}
use Rattle.nf_model.specs.Problem.{IsProblem}
use Rattle.nf_simplex.specs.Place.{Place, Lower, Basic}
use Rattle.nf_simplex.specs.Layout.{layout_of}
use Rattle.nf_simplex.specs.Columns as columns
use Rattle.nf_simplex.specs.Columns.{all_columns, col_at, entry_of, slack_sign, sign}
use Rattle.nf_simplex.specs.StageOf.{StageOne, StageTwo, rows_in, IsPresent as IsOfStage}
use Rattle.nf_simplex.specs.Starts.{TakesSlack, StartsRow, idle_place, nonarc_place}
use Rattle.nf_simplex.specs.Standing.{Standing, number_in, place_at, place_of, is_negative, rows_of}
use Rattle.nf_simplex.specs.Moves.{IsSecondState}
use Rattle.nf_simplex.proofs.Orders.{less_or_not}
use Rattle.nf_simplex.proofs.StageOf.{column_cases}
use Rattle.nf_simplex.proofs.Sum.{below_or_past}
use Rattle.nf_basis.specs.declared.col.Col.{Col}
use Rattle.nf_basis.specs.declared.col.Col.TheVariants.{Slack, Artificial}
use Rattle.nf_basis.specs.Names.{named, col_of}
use Rattle.nf_basis.specs.Kept.{IsPresent, number, place_in}
use Rattle.nf_basis.specs.Numbers.{in_slot, slot_number, ListBasics}
use Rattle.nf_stage_two.specs.Wide.{IsOwnColumn, AreWideSlots, is_ge, is_turned}
use Rattle.nf_stage_two.specs.Wide.IsOwnColumn.{slack as own_slack, artificial as own_artificial}

-- ---- side rows
takes_or_not : (k : RowKind) (r : ℚ) → TakesSlack k r ⊎ (TakesSlack k r → ⊥)
takes_or_not Eq r = inr (λ t. t)
takes_or_not Le r = of (le_or_lt zero_ℚ r)
  where
    of : (zero_ℚ ≤ℚ r) ⊎ (r <ℚ zero_ℚ) → (zero_ℚ ≤ℚ r) ⊎ ((zero_ℚ ≤ℚ r) → ⊥)
    of (inl h) = inl h
    of (inr l) = inr (not_le_of_lt r zero_ℚ l)
takes_or_not Ge r = of (le_or_lt zero_ℚ r)
  where
    of : (zero_ℚ ≤ℚ r) ⊎ (r <ℚ zero_ℚ) → (r <ℚ zero_ℚ) ⊎ ((r <ℚ zero_ℚ) → ⊥)
    of (inl h) = inr (λ l. not_le_of_lt r zero_ℚ l h)
    of (inr l) = inl l

idle_not : (k : RowKind) → idle_place k ≢ Basic
idle_not Eq e = cc
idle_not Le e = cc
idle_not Ge e = cc

pub nonarc_not : (l u : Option ℚ) → nonarc_place l u ≢ Basic
nonarc_not (Some l) u e = cc
nonarc_not None (Some u) e = cc
nonarc_not None None e = cc

ge_sign : (k : RowKind) → k ≢ Eq → slack_sign k ≡ with_sign (is_ge k) one_ℚ
ge_sign Eq n = absurd (n refl)
ge_sign Le n = refl
ge_sign Ge n = refl

pub sign_is : (b : Bool) → sign b ≡ with_sign b one_ℚ
sign_is true = refl
sign_is false = refl

-- A side row has started by its slack or by its artificial.
pub data RowCases (k : RowKind) (slack artificial : Place) : Type 0 where
  by_slack : k ≢ Eq → slack ≡ Basic → artificial ≡ Lower → RowCases k slack artificial
  by_artificial : slack ≡ idle_place k → slack ≢ Basic → artificial ≡ Basic → RowCases k slack artificial

row_cases : (k : RowKind) (r : ℚ) (slack artificial : Place) (b : Bool) → StartsRow k r slack artificial b → RowCases k slack artificial
row_cases k r slack artificial b s = of (takes_or_not k r)
  where
    of : TakesSlack k r ⊎ (TakesSlack k r → ⊥) → RowCases k slack artificial
    of (inl t) = by_slack (λ e. subst (λ z. TakesSlack z r) e t) (s.by_slack t).0 (s.by_slack t).1
    of (inr n) = let (a, c, d) = s.by_artificial n in by_artificial a (λ e. idle_not k (sym a ∙ e)) c

-- Stage two has all rows.
pub rows_all : (p : LinearProgram) (t : Standing) → p.nodes ≤ length p.rows → t.stage ≡ StageTwo → length p.rows ≡ rows_of p t
rows_all p t w e = (let z : length p.rows ≡ p.nodes + (layout_of p).sides = omega arith in z) ∙ ap (rows_in (layout_of p)) (sym e)

-- ---- columns of stage one
pub wider_stage : (p : LinearProgram) (c : columns.Col) → p.arcs ≤ length p.columns → IsOfStage (layout_of p) StageOne c → IsOfStage (layout_of p) StageTwo c
wider_stage p (columns.Given j) arcs h = omega arith
wider_stage p (columns.Slack r) arcs h = absurd h
wider_stage p (columns.Artificial r) arcs h = omega arith

module _ (p : LinearProgram) (s t : Standing) (x : ℕ → ℚ) (ok : IsProblem p) (one : s.stage ≡ StageOne) (second : IsSecondState p s x t) where
  pub stays : (c : columns.Col) → IsOfStage (layout_of p) StageOne c → place_of p t c ≡ place_of p s c
  stays (columns.Given j) h = second.arcs j h
  stays (columns.Slack r) h = absurd h
  stays (columns.Artificial r) h = (second.nodes r h).0

  pub row_at : (q : ℕ) → p.nodes + q < length p.rows → RowCases ((layout_of p).kind (p.nodes + q)) (place_at t (length p.columns + q)) (place_of p t (columns.Artificial (p.nodes + q)))
  row_at q h =
      subst (λ n. RowCases ((layout_of p).kind (p.nodes + q)) (place_at t n) (place_of p t (columns.Artificial (p.nodes + q)))) (let e : length p.columns + (p.nodes + q - p.nodes) ≡ length p.columns + q = omega arith in e)
      (row_cases ((layout_of p).kind (p.nodes + q)) _ (place_of p t (columns.Slack (p.nodes + q))) (place_of p t (columns.Artificial (p.nodes + q))) _ (second.sides q h))

  slack_number : (q : ℕ) → place_of p t (columns.Slack (p.nodes + q)) ≡ place_at t (length p.columns + q)
  slack_number q = ap (place_at t) (omega arith)

  -- ---- a side row's own column
  pub record IsOwn (q : ℕ) (c : Col) : Type 0 where
    pub present : IsPresent p t c
    pub basic : place_in p t c ≡ Basic
    pub entry : (r : ℕ) → entry_of (layout_of p) (is_negative t) (col_of c) r ≡ with_sign (is_turned p t c) one_ℚ *ℚ delta (p.nodes + q) r
    pub number_is : ((number p c ≡ length p.columns + q) × ((layout_of p).kind (p.nodes + q) ≢ Eq) × (col_of c ≡ columns.Slack (p.nodes + q)))
        ⊎ ((number p c ≡ length p.columns + (layout_of p).sides + (p.nodes + q)) × (col_of c ≡ columns.Artificial (p.nodes + q)))

  two : (c : columns.Col) → IsOfStage (layout_of p) StageTwo c → IsOfStage (layout_of p) t.stage c
  two c h = subst (λ n. IsOfStage (layout_of p) n c) (sym second.stage) h

  pub own_is : (q : ℕ) (c : Col) → p.nodes + q < length p.rows → IsOwnColumn p t q c → IsOwn q c
  own_is q _ h (own_slack b) = of (row_at q h)
    where
      here : place_at t (length p.columns + q) ≡ Basic
      here = sym (slack_number q) ∙ b

      name : suc (p.nodes + q) - 1 ≡ p.nodes + q
      name = omega arith

      of : RowCases ((layout_of p).kind (p.nodes + q)) (place_at t (length p.columns + q)) (place_of p t (columns.Artificial (p.nodes + q))) → IsOwn q (Slack (suc (p.nodes + q)))
      of (by_artificial a n c) = absurd (n here)
      of (by_slack k a c) = record {
        present = (omega arith, two (columns.Slack (suc (p.nodes + q) - 1)) (subst (λ i. IsOfStage (layout_of p) StageTwo (columns.Slack i)) (sym name) (omega arith, omega arith, k)));
        basic = ap (λ i. place_of p t (columns.Slack i)) name ∙ b;
        entry = λ r. ap (λ z. z *ℚ delta (suc (p.nodes + q) - 1) r) (ge_sign _ (λ e. k (ap (layout_of p).kind (sym name) ∙ e))) ∙ ap (λ i. with_sign (is_ge (row p (suc (p.nodes + q) - 1)).kind) one_ℚ *ℚ delta i r) name;
        number_is = inl (omega arith, k, ap columns.Slack name);
      }
  own_is q _ h (own_artificial n) = of (row_at q h)
    where
      name : suc (p.nodes + q) - 1 ≡ p.nodes + q
      name = omega arith

      of : RowCases ((layout_of p).kind (p.nodes + q)) (place_at t (length p.columns + q)) (place_of p t (columns.Artificial (p.nodes + q))) → IsOwn q (Artificial (suc (p.nodes + q)))
      of (by_slack k a c) = absurd (n (slack_number q ∙ a))
      of (by_artificial a m c) = record {
        present = (omega arith, two (columns.Artificial (suc (p.nodes + q) - 1)) (subst (λ i. IsOfStage (layout_of p) StageTwo (columns.Artificial i)) (sym name) (omega arith)));
        basic = ap (λ i. place_of p t (columns.Artificial i)) name ∙ c;
        entry = λ r. ap (λ z. z *ℚ delta (suc (p.nodes + q) - 1) r) (sign_is _) ∙ ap (λ i. with_sign (is_negative t (suc (p.nodes + q) - 1)) one_ℚ *ℚ delta i r) name;
        number_is = inr (omega arith, ap columns.Artificial name);
      }

  -- ---- the slots
  module _ (first slots : List Col) (listed : ListBasics p s first) (are : AreWideSlots p t first slots) where
    pub rows_one : rows_of p s ≡ p.nodes
    rows_one = ap (rows_in (layout_of p)) one

    pub rows_two : rows_of p t ≡ p.nodes + (layout_of p).sides
    rows_two = ap (rows_in (layout_of p)) second.stage

    in_first : (k : ℕ) → k < p.nodes → k < rows_of p s
    in_first k h = subst (λ n. k < n) (sym rows_one) h

    pub of_stage_one : (k : ℕ) → k < p.nodes → IsOfStage (layout_of p) StageOne (col_of (in_slot slots k))
    of_stage_one k h = subst (λ c. IsOfStage (layout_of p) StageOne (col_of c)) (sym (are.first_ones k h)) (subst (λ n. IsOfStage (layout_of p) n (col_of (in_slot first k))) one (listed.present k (in_first k h)).1)

    first_named : (k : ℕ) → k < p.nodes → 0 < named (in_slot slots k)
    first_named k h = subst (λ c. 0 < named c) (sym (are.first_ones k h)) (listed.present k (in_first k h)).0

    first_basic : (k : ℕ) → k < p.nodes → place_in p s (in_slot slots k) ≡ Basic
    first_basic k h = subst (λ c. place_in p s c ≡ Basic) (sym (are.first_ones k h)) (listed.basic k (in_first k h))

    -- A slot of the first basis has an arc or a node row's artificial.
    first_number : (c : columns.Col) → IsOfStage (layout_of p) StageOne c → (number_in p c < p.arcs) ⊎ ((i : ℕ) × (number_in p c ≡ length p.columns + (layout_of p).sides + i) × (i < p.nodes))
    first_number (columns.Given j) h = inl h
    first_number (columns.Slack r) h = absurd h
    first_number (columns.Artificial r) h = inr (r, refl, h)

    split : (k : ℕ) → k < rows_of p t → (k < p.nodes) ⊎ ((q : ℕ) × (k ≡ p.nodes + q) × (q < (layout_of p).sides))
    split k h = below_or_past k p.nodes (layout_of p).sides (subst (λ n. k < n) rows_two h)

    pub own_at : (q : ℕ) → q < (layout_of p).sides → IsOwn q (in_slot slots (p.nodes + q))
    own_at q h = own_is q (in_slot slots (p.nodes + q)) (omega arith) (are.own_ones q (omega arith))

    at_present : (k : ℕ) → (k < p.nodes) ⊎ ((q : ℕ) × (k ≡ p.nodes + q) × (q < (layout_of p).sides)) → IsPresent p t (in_slot slots k) × (place_in p t (in_slot slots k) ≡ Basic)
    at_present k (inl h) = ((first_named k h, two (col_of (in_slot slots k)) (wider_stage p (col_of (in_slot slots k)) ok.arcs_within (of_stage_one k h))), stays (col_of (in_slot slots k)) (of_stage_one k h) ∙ first_basic k h)
    at_present k (inr (q, e, h)) = subst (λ i. IsPresent p t (in_slot slots i) × (place_in p t (in_slot slots i) ≡ Basic)) (sym e) ((own_at q h).present, (own_at q h).basic)

    old_new : (k q : ℕ) → k < p.nodes → q < (layout_of p).sides → slot_number p slots k ≡ slot_number p slots (p.nodes + q) → ⊥
    old_new k q h l e = of (first_number (col_of (in_slot slots k)) (of_stage_one k h)) (own_at q l).number_is
      where
        of : (slot_number p slots k < p.arcs) ⊎ ((i : ℕ) × (slot_number p slots k ≡ length p.columns + (layout_of p).sides + i) × (i < p.nodes))
            → ((slot_number p slots (p.nodes + q) ≡ length p.columns + q) × ((layout_of p).kind (p.nodes + q) ≢ Eq) × (col_of (in_slot slots (p.nodes + q)) ≡ columns.Slack (p.nodes + q)))
            ⊎ ((slot_number p slots (p.nodes + q) ≡ length p.columns + (layout_of p).sides + (p.nodes + q)) × (col_of (in_slot slots (p.nodes + q)) ≡ columns.Artificial (p.nodes + q))) → ⊥
        of (inl a) (inl b) = let w = ok.arcs_within in let c = b.0 in omega arith
        of (inl a) (inr b) = let w = ok.arcs_within in let c = b.0 in omega arith
        of (inr (i, a, m)) (inl b) = let c = b.0 in omega arith
        of (inr (i, a, m)) (inr b) = let c = b.0 in omega arith

    new_new : (q r : ℕ) → q < (layout_of p).sides → r < (layout_of p).sides → slot_number p slots (p.nodes + q) ≡ slot_number p slots (p.nodes + r) → q ≡ r
    new_new q r h l e = of (own_at q h).number_is (own_at r l).number_is
      where
        of : ((slot_number p slots (p.nodes + q) ≡ length p.columns + q) × ((layout_of p).kind (p.nodes + q) ≢ Eq) × (col_of (in_slot slots (p.nodes + q)) ≡ columns.Slack (p.nodes + q)))
            ⊎ ((slot_number p slots (p.nodes + q) ≡ length p.columns + (layout_of p).sides + (p.nodes + q)) × (col_of (in_slot slots (p.nodes + q)) ≡ columns.Artificial (p.nodes + q)))
            → ((slot_number p slots (p.nodes + r) ≡ length p.columns + r) × ((layout_of p).kind (p.nodes + r) ≢ Eq) × (col_of (in_slot slots (p.nodes + r)) ≡ columns.Slack (p.nodes + r)))
            ⊎ ((slot_number p slots (p.nodes + r) ≡ length p.columns + (layout_of p).sides + (p.nodes + r)) × (col_of (in_slot slots (p.nodes + r)) ≡ columns.Artificial (p.nodes + r))) → q ≡ r
        of (inl a) (inl b) = let c = a.0 in let d = b.0 in omega arith
        of (inl a) (inr b) = let c = a.0 in let d = b.0 in absurd (omega arith)
        of (inr a) (inl b) = let c = a.0 in let d = b.0 in absurd (omega arith)
        of (inr a) (inr b) = let c = a.0 in let d = b.0 in omega arith

    at_distinct : (k i : ℕ) → (k < p.nodes) ⊎ ((q : ℕ) × (k ≡ p.nodes + q) × (q < (layout_of p).sides)) → (i < p.nodes) ⊎ ((q : ℕ) × (i ≡ p.nodes + q) × (q < (layout_of p).sides)) → slot_number p slots k ≡ slot_number p slots i → k ≡ i
    at_distinct k i (inl a) (inl b) e = listed.distinct k i (in_first k a) (in_first i b) (sym (ap (number p) (are.first_ones k a)) ∙ (e ∙ ap (number p) (are.first_ones i b)))
    at_distinct k i (inl a) (inr (r, f, b)) e = absurd (old_new k r a b (e ∙ ap (slot_number p slots) f))
    at_distinct k i (inr (q, f, a)) (inl b) e = absurd (old_new i q b a (sym e ∙ ap (slot_number p slots) f))
    at_distinct k i (inr (q, f, a)) (inr (r, g, b)) e = f ∙ (ap (λ z. p.nodes + z) (new_new q r a b (sym (ap (slot_number p slots) f) ∙ (e ∙ ap (slot_number p slots) g))) ∙ sym g)

    -- A basic column that stage one has stands in a slot of the first basis.
    old_found : (j : ℕ) (c : columns.Col) → j < all_columns (layout_of p) → number_in p c ≡ j → IsOfStage (layout_of p) StageOne c → place_at t j ≡ Basic → (k : ℕ) × (k < rows_of p t) × (slot_number p slots k ≡ j)
    old_found j c h e there b =
        let (k, m, f) = listed.every j h (sym (ap (place_at s) e) ∙ (sym (stays c there) ∙ (ap (place_at t) e ∙ b))) in
        let n = subst (λ i. k < i) rows_one m in
        (k, subst (λ i. k < i) (sym rows_two) (omega arith), ap (number p) (are.first_ones k n) ∙ f)

    new_found : (q j : ℕ) → q < (layout_of p).sides → slot_number p slots (p.nodes + q) ≡ j → (k : ℕ) × (k < rows_of p t) × (slot_number p slots k ≡ j)
    new_found q j h e = (p.nodes + q, subst (λ n. p.nodes + q < n) (sym rows_two) (omega arith), e)

    every : (j : ℕ) → j < all_columns (layout_of p) → place_at t j ≡ Basic → (k : ℕ) × (k < rows_of p t) × (slot_number p slots k ≡ j)
    every j h b = of (column_cases (layout_of p) j h)
      where
        given : j < length p.columns → (j < p.arcs) ⊎ (p.arcs ≤ j) → (k : ℕ) × (k < rows_of p t) × (slot_number p slots k ≡ j)
        given l (inl a) = old_found j (columns.Given j) h refl a b
        given l (inr a) = let e : p.arcs + (j - p.arcs) ≡ j = omega arith in absurd (nonarc_not _ _ (sym (second.nonarcs (j - p.arcs) (omega arith)) ∙ (ap (place_at t) e ∙ b)))

        slack : (q : ℕ) → j ≡ length p.columns + q → q < (layout_of p).sides → (k : ℕ) × (k < rows_of p t) × (slot_number p slots k ≡ j)
        slack q e l = of (are.own_ones q (omega arith)) refl
          where
            of : {c : Col} → IsOwnColumn p t q c → in_slot slots (p.nodes + q) ≡ c → (k : ℕ) × (k < rows_of p t) × (slot_number p slots k ≡ j)
            of (own_slack z) f = new_found q j l (ap (number p) f ∙ omega arith)
            of (own_artificial n) f = absurd (n (slack_number q ∙ (ap (place_at t) (sym e) ∙ b)))

        artificial : (i : ℕ) → j ≡ length p.columns + (layout_of p).sides + i → (i < p.nodes) ⊎ ((q : ℕ) × (i ≡ p.nodes + q) × (q < (layout_of p).sides)) → (k : ℕ) × (k < rows_of p t) × (slot_number p slots k ≡ j)
        artificial i e (inl l) = old_found j (columns.Artificial i) h (sym e) l b
        artificial i e (inr (q, f, l)) = of (are.own_ones q (omega arith)) refl (row_at q (omega arith))
          where
            of : {c : Col} → IsOwnColumn p t q c → in_slot slots (p.nodes + q) ≡ c → RowCases ((layout_of p).kind (p.nodes + q)) (place_at t (length p.columns + q)) (place_of p t (columns.Artificial (p.nodes + q))) → (k : ℕ) × (k < rows_of p t) × (slot_number p slots k ≡ j)
            of (own_artificial n) g r = new_found q j l (ap (number p) g ∙ (omega arith))
            of (own_slack z) g (by_artificial a m c) = absurd (m (sym (slack_number q) ∙ z))
            of (own_slack z) g (by_slack k a c) = absurd (let w : Lower ≡ Basic = sym c ∙ (ap (place_at t) (ap (λ i. length p.columns + (layout_of p).sides + i) (sym f) ∙ sym e) ∙ b) in cc)

        of : (j < length p.columns) ⊎ (((q : ℕ) × (j ≡ length p.columns + q) × (q < (layout_of p).sides)) ⊎ ((i : ℕ) × (j ≡ length p.columns + (layout_of p).sides + i) × (i < p.nodes + (layout_of p).sides))) → (k : ℕ) × (k < rows_of p t) × (slot_number p slots k ≡ j)
        of (inl a) = given a (less_or_not j p.arcs)
        of (inr (inl (q, e, l))) = slack q e l
        of (inr (inr (i, e, l))) = artificial i e (below_or_past i p.nodes (layout_of p).sides l)

    pub wide_listed : ListBasics p t slots
    wide_listed = record {
      as_many = are.as_many ∙ (let w = ok.nodes_within in let e : length p.rows ≡ p.nodes + (layout_of p).sides = omega arith in e ∙ sym rows_two);
      present = λ k h. (at_present k (split k h)).0;
      basic = λ k h. (at_present k (split k h)).1;
      distinct = λ k i h l e. at_distinct k i (split k h) (split i l) e;
      every = every;
    }
