-- The values of the start of stage two, and its parts as a dense basis keeps them.
use Rattle.std.proofs.Common.{◌≡◌, ◌≢◌, ◌⊎◌, inl, inr, ℕ, zero, suc, ◌+◌, ◌-◌, ◌<◌, ◌≤◌, Bool, true, false, List, [], ◌∷◌, length, Option, Some, None, refl, sym, ap, ap₂, ◌∙◌, subst, arith}
use Rattle.nf_num.specs.Rational.{ℚ, zero_ℚ, one_ℚ, ◌+ℚ◌, ◌*ℚ◌}
use Rattle.nf_num.specs.Sum.{sum_ℚ, delta}
use Rattle.nf_model.specs.declared.RowKind.{RowKind}
use Rattle.nf_model.specs.declared.RowKind.TheVariants.{Eq, Le, Ge}
use Rattle.nf_model.specs.Program.{LinearProgram}
use Rattle.nf_model.specs.Problem.{IsProblem}
use Rattle.nf_sums.specs.Terms.{with_sign}
use Rattle.nf_simplex.specs.Place as model
use Rattle.nf_simplex.specs.Place.{Place, Basic, count_basic}
use Rattle.nf_simplex.specs.Layout.{layout_of}
use Rattle.nf_simplex.specs.Columns as columns
use Rattle.nf_simplex.specs.Columns.{all_columns, col_at, col_lower, col_upper, entry_of, slack_sign, sign}
use Rattle.nf_simplex.specs.Numbers.{StandsAt}
use Rattle.nf_simplex.specs.StageOf.{StageOne, IsPresent as IsOfStage}
use Rattle.nf_simplex.specs.Starts.{idle_place, second_number, second_rest, nonarc_place, nonarc_number}
use Rattle.nf_simplex.specs.Standing.{Standing, number_in, place_at, is_negative, stage_of, rows_of, IsStateOf, AreValuesOf}
use Rattle.nf_simplex.specs.Moves.{IsSecondState}
use Rattle.nf_simplex.proofs.Basis.{basic_or_not, stands_same}
use Rattle.nf_simplex.proofs.Count.{not_basic_none, count_entered}
use Rattle.nf_simplex.proofs.FieldLaws.{mul_comm}
use Rattle.nf_simplex.proofs.Fits.{layout_fits}
use Rattle.nf_simplex.proofs.Numbered.{number_within}
use Rattle.nf_simplex.proofs.Orders.{less_or_not, yes_less, not_less}
use Rattle.nf_simplex.proofs.Rows.{row_parts, given_sum}
use Rattle.nf_simplex.proofs.Slots.{independent_of_matrix}
use Rattle.nf_simplex.proofs.StageOf.{column_given, column_slack, column_artificial}
use Rattle.nf_simplex.proofs.Sum.{sum_ext, below_or_past, unit_same}
use Rattle.nf_simplex.proofs.Terms.{v, nought, unit, minus, ◌:+◌, ◌:*◌, ◌:-◌, ring, zero-mul}
use Rattle.nf_basis.specs.declared.col.Col.{Col}
use Rattle.nf_basis.specs.Dense.{IsInverseOf, HasParts, spread_values}
use Rattle.nf_basis.specs.Names.{col_of}
use Rattle.nf_basis.specs.Numbers.{in_slot, slot_number, ListBasics}
use Rattle.nf_basis.proofs.Inverse.{slots_are}
use Rattle.nf_basis.proofs.Spread.{value_in_slot, values_stand}
use Rattle.nf_inverse.specs.Weights.{weight}
use Rattle.nf_stage_two.specs.Wide.{AreWideSlots, AreWideValues, is_own_turned}
use Rattle.nf_stage_two.proofs.WideSlots.{RowCases, by_slack, by_artificial, stays, row_at, own_at, rows_one, rows_two, wide_listed, nonarc_not}
use Rattle.nf_stage_two.proofs.WideInverse.{first_slots}

-- ---- numbers
none_basic : (n : ℕ) → count_basic n (λ j. model.Absent) ≡ 0
none_basic zero = refl
none_basic (suc n) = let a = none_basic n in omega arith

nonarc_stands : (l u : Option ℚ) → StandsAt (nonarc_place l u) l u (nonarc_number l u)
nonarc_stands (Some l) u = refl
nonarc_stands None (Some u) = refl
nonarc_stands None None = refl

idle_zero : (k : RowKind) (a : ℚ) → StandsAt (idle_place k) (Some zero_ℚ) None a → a ≡ zero_ℚ
idle_zero Eq a h = h
idle_zero Le a h = h
idle_zero Ge a h = h

signed_twice : (b : Bool) (r : ℚ) → with_sign b one_ℚ *ℚ with_sign b r ≡ r
signed_twice true r = ring (r ∷ []) (minus unit :* minus (v 0)) (v 0) refl
signed_twice false r = ring (r ∷ []) (unit :* v 0) (v 0) refl

at_own : (a b : ℚ) (n : ℕ) → a *ℚ delta n n ≡ b *ℚ delta n n → a ≡ b
at_own a b n e =
    ring (a ∷ []) (v 0) (v 0 :* unit) refl
    ∙ (ap (λ d. a *ℚ d) (sym (unit_same n)) ∙ (e ∙ (ap (λ d. b *ℚ d) (unit_same n) ∙ ring (b ∷ []) (v 0 :* unit) (v 0) refl)))

-- ---- as many basic columns as rows
pub count_of_slots : (p : LinearProgram) (t : Standing) (slots : List Col) → IsProblem p → ListBasics p t slots → count_basic (all_columns (layout_of p)) (place_at t) ≡ rows_of p t
count_of_slots p t slots ok listed =
    let a = slots_are p t slots ok listed in
    count_entered (λ j. model.Absent) (place_at t) (slot_number p slots) (all_columns (layout_of p)) (rows_of p t) a.within (λ q r h k e. a.distinct q r h k e) (λ q h e. cc) a.basic
    (λ j h none. not_basic_none (place_at t j) (λ b. let (k, m, e) = a.onto j h b in none k m e))
    ∙ (ap (λ k. k + rows_of p t) (none_basic (all_columns (layout_of p))) ∙ omega arith)

module _ (p : LinearProgram) (s t : Standing) (x : ℕ → ℚ) (ok : IsProblem p) (one : s.stage ≡ StageOne) (st : IsStateOf p s) (second : IsSecondState p s x t) (first slots : List Col) (listed : ListBasics p s first) (are : AreWideSlots p t first slots)
    (xs : AreValuesOf p s x) (values : List ℚ) (w : AreWideValues p t x (second_rest (layout_of p) x) slots values) where
  abbrev y : ℕ → ℚ
  y = spread_values p t slots values

  abbrev now_listed : ListBasics p t slots
  now_listed = wide_listed p s t x ok one second first slots listed are

  all_rows : rows_of p t ≡ p.nodes + (layout_of p).sides
  all_rows = rows_two p s t x ok one second first slots listed are

  first_rows : rows_of p s ≡ p.nodes
  first_rows = rows_one p s t x ok one second first slots listed are

  stand : (j : ℕ) (c : columns.Col) → j < all_columns (layout_of p) → col_at (layout_of p) j ≡ c → StandsAt (place_at t j) (col_lower (layout_of p) c) (col_upper (layout_of p) c) (y j)
  stand j c h e = subst (λ d. StandsAt (place_at t j) (col_lower (layout_of p) d) (col_upper (layout_of p) d) (y j)) e (values_stand p t slots ok now_listed values second.state j h)

  -- A column of stage one keeps its value.
  kept : (c : columns.Col) → IsOfStage (layout_of p) StageOne c → y (number_in p c) ≡ x (number_in p c)
  kept c here = of (basic_or_not (place_at s (number_in p c)))
    where
      within : number_in p c < all_columns (layout_of p)
      within = number_within (layout_of p) StageOne c ok.arcs_within here

      same : place_at t (number_in p c) ≡ place_at s (number_in p c)
      same = stays p s t x ok one second c here

      of : (place_at s (number_in p c) ≡ Basic) ⊎ (place_at s (number_in p c) ≢ Basic) → y (number_in p c) ≡ x (number_in p c)
      of (inl b) =
          let (k, m, e) = (first_slots p s t x ok one st second first slots listed are).onto (number_in p c) within b in
          let n = subst (λ i. k < i) first_rows m in
          subst (λ j. y j ≡ x j) e (value_in_slot p t slots ok now_listed values k (subst (λ i. k < i) (sym all_rows) (omega arith)) ∙ w.first_ones k n)
      of (inr n) =
          stands_same (place_at t (number_in p c)) _ _ (y (number_in p c)) (x (number_in p c)) (λ b. n (sym same ∙ b)) (stand (number_in p c) _ within refl)
          (subst (λ a. StandsAt a (col_lower (layout_of p) (col_at (layout_of p) (number_in p c))) (col_upper (layout_of p) (col_at (layout_of p) (number_in p c))) (x (number_in p c))) (sym same) (xs.stands (number_in p c) within))

  -- A given column has the number of the start.
  given_number : (j : ℕ) → j < length p.columns → y j ≡ second_number (layout_of p) x j
  given_number j h = of (less_or_not j p.arcs)
    where
      of : (j < p.arcs) ⊎ (p.arcs ≤ j) → y j ≡ second_number (layout_of p) x j
      of (inl l) = kept (columns.Given j) l ∙ sym (yes_less j p.arcs (x j) _ l)
      of (inr l) =
          stands_same (nonarc_place ((layout_of p).lower j) ((layout_of p).upper j)) ((layout_of p).lower j) ((layout_of p).upper j) (y j) _ (nonarc_not ((layout_of p).lower j) ((layout_of p).upper j))
          (subst (λ a. StandsAt a ((layout_of p).lower j) ((layout_of p).upper j) (y j)) (there (p.arcs + (j - p.arcs)) (omega arith)) (stand j (columns.Given j) (omega arith) (column_given (layout_of p) j h)))
          (nonarc_stands ((layout_of p).lower j) ((layout_of p).upper j))
          ∙ sym (not_less j p.arcs (x j) _ l)
        where
          there : (k : ℕ) → k ≡ j → place_at t j ≡ nonarc_place ((layout_of p).lower j) ((layout_of p).upper j)
          there k e = let f : p.arcs + (j - p.arcs) ≡ j = omega arith in subst (λ i. place_at t i ≡ nonarc_place ((layout_of p).lower i) ((layout_of p).upper i)) f (second.nonarcs (j - p.arcs) (omega arith))

  -- ---- side rows
  own_value : (q : ℕ) → q < (layout_of p).sides → y (slot_number p slots (p.nodes + q)) ≡ with_sign (is_own_turned p t slots q) (second_rest (layout_of p) x (p.nodes + q))
  own_value q h = value_in_slot p t slots ok now_listed values (p.nodes + q) (subst (λ i. p.nodes + q < i) (sym all_rows) (omega arith)) ∙ w.own_ones q (omega arith)

  -- The slack and the artificial of a side row make up what it lacks.
  made_up : (q : ℕ) → q < (layout_of p).sides
      → slack_sign ((layout_of p).kind (p.nodes + q)) *ℚ y (length p.columns + q) +ℚ sign (is_negative t (p.nodes + q)) *ℚ y (length p.columns + (layout_of p).sides + (p.nodes + q)) ≡ second_rest (layout_of p) x (p.nodes + q)
  made_up q h = of (own_at p s t x ok one second first slots listed are q h).number_is (row_at p s t x ok one second q (omega arith))
    where
      entry : (r : ℕ) → entry_of (layout_of p) (is_negative t) (col_of (in_slot slots (p.nodes + q))) r ≡ with_sign (is_own_turned p t slots q) one_ℚ *ℚ delta (p.nodes + q) r
      entry = (own_at p s t x ok one second first slots listed are q h).entry

      of : ((slot_number p slots (p.nodes + q) ≡ length p.columns + q) × ((layout_of p).kind (p.nodes + q) ≢ Eq) × (col_of (in_slot slots (p.nodes + q)) ≡ columns.Slack (p.nodes + q)))
          ⊎ ((slot_number p slots (p.nodes + q) ≡ length p.columns + (layout_of p).sides + (p.nodes + q)) × (col_of (in_slot slots (p.nodes + q)) ≡ columns.Artificial (p.nodes + q)))
          → RowCases ((layout_of p).kind (p.nodes + q)) (place_at t (length p.columns + q)) (place_at t (length p.columns + (layout_of p).sides + (p.nodes + q)))
          → slack_sign ((layout_of p).kind (p.nodes + q)) *ℚ y (length p.columns + q) +ℚ sign (is_negative t (p.nodes + q)) *ℚ y (length p.columns + (layout_of p).sides + (p.nodes + q)) ≡ second_rest (layout_of p) x (p.nodes + q)
      of (inl a) (by_artificial c n d) = absurd (n (ap (place_at t) (sym a.0) ∙ (own_at p s t x ok one second first slots listed are q h).basic))
      of (inr a) (by_slack k c d) = absurd (let z : model.Lower ≡ Basic = sym d ∙ (ap (place_at t) (sym a.0) ∙ (own_at p s t x ok one second first slots listed are q h).basic) in cc)
      of (inl a) (by_slack k c d) =
          let its : slack_sign ((layout_of p).kind (p.nodes + q)) ≡ with_sign (is_own_turned p t slots q) one_ℚ = at_own _ _ (p.nodes + q) (sym (ap (λ z. entry_of (layout_of p) (is_negative t) z (p.nodes + q)) a.2) ∙ entry (p.nodes + q)) in
          let zero : y (length p.columns + (layout_of p).sides + (p.nodes + q)) ≡ zero_ℚ = subst (λ z. StandsAt z (Some zero_ℚ) None (y (length p.columns + (layout_of p).sides + (p.nodes + q)))) d (stand (length p.columns + (layout_of p).sides + (p.nodes + q)) (columns.Artificial (p.nodes + q)) (omega arith) (column_artificial (layout_of p) (p.nodes + q))) in
          ap₂ (λ z u. z +ℚ sign (is_negative t (p.nodes + q)) *ℚ u) (ap₂ (λ z u. z *ℚ u) its (ap y (sym a.0) ∙ own_value q h) ∙ signed_twice (is_own_turned p t slots q) (second_rest (layout_of p) x (p.nodes + q))) zero
          ∙ ring (second_rest (layout_of p) x (p.nodes + q) ∷ sign (is_negative t (p.nodes + q)) ∷ []) (v 0 :+ v 1 :* nought) (v 0) refl
      of (inr a) (by_artificial c n d) =
          let its : sign (is_negative t (p.nodes + q)) ≡ with_sign (is_own_turned p t slots q) one_ℚ = at_own _ _ (p.nodes + q) (sym (ap (λ z. entry_of (layout_of p) (is_negative t) z (p.nodes + q)) a.1) ∙ entry (p.nodes + q)) in
          let zero : y (length p.columns + q) ≡ zero_ℚ = idle_zero ((layout_of p).kind (p.nodes + q)) _ (subst (λ z. StandsAt z (Some zero_ℚ) None (y (length p.columns + q))) c (stand (length p.columns + q) (columns.Slack (p.nodes + q)) (omega arith) (column_slack (layout_of p) q h))) in
          ap₂ (λ z u. slack_sign ((layout_of p).kind (p.nodes + q)) *ℚ z +ℚ u) zero (ap₂ (λ z u. z *ℚ u) its (ap y (sym a.0) ∙ own_value q h) ∙ signed_twice (is_own_turned p t slots q) (second_rest (layout_of p) x (p.nodes + q)))
          ∙ ring (second_rest (layout_of p) x (p.nodes + q) ∷ slack_sign ((layout_of p).kind (p.nodes + q)) ∷ []) (v 1 :* nought :+ v 0) (v 0) refl

  -- ---- equations
  parts : (i : ℕ) → i < p.nodes + (layout_of p).sides → sum_ℚ (all_columns (layout_of p)) (λ j. y j *ℚ (stage_of p t).entry j i)
      ≡ given_sum (layout_of p) y i +ℚ slack_sign ((layout_of p).kind i) *ℚ y (length p.columns + (i - p.nodes)) +ℚ sign (is_negative t i) *ℚ y (length p.columns + (layout_of p).sides + i)
  parts i h = row_parts (layout_of p) (layout_fits p ok) (is_negative t) y i h

  node_equation : (i : ℕ) → i < p.nodes → sum_ℚ (all_columns (layout_of p)) (λ j. y j *ℚ (stage_of p t).entry j i) ≡ (layout_of p).right i
  node_equation i h =
      parts i (omega arith)
      ∙ (ap₂ (λ a b. a +ℚ b)
      (ap₂ (λ a b. a +ℚ b) (sum_ext (length p.columns) _ _ (λ j l. of j l (less_or_not j p.arcs)))
      (ap (λ k. slack_sign k *ℚ y (length p.columns + (i - p.nodes))) ((layout_fits p ok).node_kind i h) ∙ (zero-mul _ ∙ sym (ap (λ k. slack_sign k *ℚ x (length p.columns + (i - p.nodes))) ((layout_fits p ok).node_kind i h) ∙ zero-mul _))))
      (ap₂ (λ b z. sign b *ℚ z) (second.nodes i h).1 (kept (columns.Artificial i) h))
      ∙ (sym (row_parts (layout_of p) (layout_fits p ok) (is_negative s) x i (omega arith)) ∙ xs.equations i (subst (λ n. i < n) (sym first_rows) h)))
    where
      of : (j : ℕ) → j < length p.columns → (j < p.arcs) ⊎ (p.arcs ≤ j) → (layout_of p).entry j i *ℚ y j ≡ (layout_of p).entry j i *ℚ x j
      of j l (inl a) = ap (λ z. (layout_of p).entry j i *ℚ z) (kept (columns.Given j) a)
      of j l (inr a) = ap (λ z. z *ℚ y j) ((layout_fits p ok).nonarcs_off j i a h) ∙ (zero-mul _ ∙ sym (ap (λ z. z *ℚ x j) ((layout_fits p ok).nonarcs_off j i a h) ∙ zero-mul _))

  side_equation : (q : ℕ) → q < (layout_of p).sides → sum_ℚ (all_columns (layout_of p)) (λ j. y j *ℚ (stage_of p t).entry j (p.nodes + q)) ≡ (layout_of p).right (p.nodes + q)
  side_equation q h =
      parts (p.nodes + q) (omega arith)
      ∙ (ap (λ n. given_sum (layout_of p) y (p.nodes + q) +ℚ slack_sign ((layout_of p).kind (p.nodes + q)) *ℚ y n +ℚ sign (is_negative t (p.nodes + q)) *ℚ y (length p.columns + (layout_of p).sides + (p.nodes + q))) (let e : length p.columns + (p.nodes + q - p.nodes) ≡ length p.columns + q = omega arith in e)
      ∙ (ring (given_sum (layout_of p) y (p.nodes + q) ∷ slack_sign ((layout_of p).kind (p.nodes + q)) *ℚ y (length p.columns + q) ∷ sign (is_negative t (p.nodes + q)) *ℚ y (length p.columns + (layout_of p).sides + (p.nodes + q)) ∷ []) (v 0 :+ v 1 :+ v 2) (v 0 :+ (v 1 :+ v 2)) refl
      ∙ (ap₂ (λ a b. a +ℚ b) (sum_ext (length p.columns) _ _ (λ j l. ap (λ z. (layout_of p).entry j (p.nodes + q) *ℚ z) (given_number j l) ∙ mul_comm _ _)) (made_up q h)
      ∙ ring (sum_ℚ (length p.columns) (λ j. second_number (layout_of p) x j *ℚ (layout_of p).entry j (p.nodes + q)) ∷ (layout_of p).right (p.nodes + q) ∷ []) (v 0 :+ (v 1 :- v 0)) (v 1) refl)))

  wide_values_are : AreValuesOf p t (spread_values p t slots values)
  wide_values_are = record {
    stands = values_stand p t slots ok now_listed values second.state;
    equations = λ i h. of i (below_or_past i p.nodes (layout_of p).sides (subst (λ n. i < n) all_rows h));
  }
    where
      of : (i : ℕ) → (i < p.nodes) ⊎ ((q : ℕ) × (i ≡ p.nodes + q) × (q < (layout_of p).sides)) → sum_ℚ (all_columns (layout_of p)) (λ j. y j *ℚ (stage_of p t).entry j i) ≡ (layout_of p).right i
      of i (inl l) = node_equation i l
      of i (inr (q, e, l)) = subst (λ k. sum_ℚ (all_columns (layout_of p)) (λ j. y j *ℚ (stage_of p t).entry j k) ≡ (layout_of p).right k) (sym e) (side_equation q l)

  -- ---- the parts
  pub wide_parts : (u : List (List ℚ)) → IsInverseOf p t slots u → HasParts p t slots u values
  wide_parts u inv = record {
    basics = record {
      basis = record {
        as_many = count_of_slots p t slots ok now_listed;
        independent = independent_of_matrix (stage_of p t) (place_at t) (slot_number p slots) (slots_are p t slots ok now_listed) (weight u) record { right = inv.right; left = inv.left };
      };
      listed = now_listed;
      value_each = w.as_many ∙ (let z = ok.nodes_within in let e : length p.rows ≡ p.nodes + (layout_of p).sides = omega arith in e ∙ sym all_rows);
      values = wide_values_are;
    };
    inverse = inv;
  }
