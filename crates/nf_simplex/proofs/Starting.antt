-- The starts of both stages, as data, are lexicographically feasible states.
use Rattle.std.proofs.Common.{◌≡◌, ℕ, ◌+◌, ◌-◌, ◌<◌, ◌≤◌, ◌⊎◌, inl, inr, Bool, true, false, cond, ltb, [], ◌∷◌, refl, sym, ap, ap₂, ◌∙◌, subst, arith}
use Rattle.nf_num.specs.Rational.{ℚ, zero_ℚ, one_ℚ, ◌+ℚ◌, ◌*ℚ◌, neg_ℚ, ◌-ℚ◌, ◌≤ℚ◌, ◌<ℚ◌}
use Rattle.nf_num.specs.Sum.{sum_ℚ, delta}
use Rattle.nf_num.proofs.Laws.{le_or_lt, not_le_of_lt}
use Rattle.nf_num.proofs.Order.{eq_or_lt_of_le}
use Rattle.nf_num.proofs.Sums.{sum-split}
use Rattle.nf_model.specs.declared.RowKind.{RowKind}
use Rattle.nf_model.specs.declared.RowKind.TheVariants.{Eq, Le, Ge}
use Rattle.nf_model.specs.Program.{LinearProgram}
use Rattle.nf_model.specs.Problem.{IsProblem}
use Rattle.nf_simplex.specs.Place.{Place, Lower, Upper, Zero, Absent, Basic}
use Rattle.nf_simplex.specs.Numbers.{IsValues}
use Rattle.nf_simplex.specs.Lex.{IsLexFeasible}
use Rattle.nf_simplex.specs.Layout.{Layout, layout_of}
use Rattle.nf_simplex.specs.Columns.{Col, Given, Slack, Artificial, all_columns, number_of, col_at, slack_sign, sign, entry_of}
use Rattle.nf_simplex.specs.StageOf.{StageNumber, StageOne, StageTwo, stage_in, IsPresent}
use Rattle.nf_simplex.specs.Starts.{or_zero, first_place, first_rest, nonarc_place, nonarc_number, second_number, second_rest, StartsRow}
use Rattle.nf_simplex.specs.States.{IsState}
use Rattle.nf_simplex.specs.Standing.{Standing, place_at, place_of, is_negative, stage_of, AreValuesOf, IsFeasibleState}
use Rattle.nf_simplex.specs.Laws.{FirstIsFeasible, SecondIsFeasible}
use Rattle.nf_simplex.proofs.Basis.{values_unique}
use Rattle.nf_simplex.proofs.FieldLaws.{add-zero, mul-one}
use Rattle.nf_simplex.proofs.Lex.{neg_positive}
use Rattle.nf_simplex.proofs.Sum.{sum_ext, sum_zero, unit_other}
use Rattle.nf_simplex.proofs.Terms.{v, unit, minus, ◌:*◌, ring, zero-mul, mul-zero}
use Rattle.nf_simplex.proofs.Orders.{yes_less, not_less, less_or_not}
use Rattle.nf_simplex.proofs.Fits.{layout_fits}
use Rattle.nf_simplex.proofs.StageOf.{by_columns, column_given, column_slack, column_artificial}
use Rattle.nf_simplex.proofs.StartForms.{places, first_number, rest_in_first, takes_slack, slack_place, second_place, number_in_second, rest_in_second, own_sign}
use Rattle.nf_simplex.proofs.Rows.{split_columns, slack_at, artificial_at}
use Rattle.nf_simplex.proofs.Numbered.{number_col}
use Rattle.nf_simplex.proofs.Same.{feasible_same, values_same}
use Rattle.nf_simplex.proofs.States.{first_is_state, second_is_state}
use Rattle.nf_simplex.proofs.Standings.{state_of}

-- a sum whose terms are 0 from m on
sum_first : (m n : ℕ) (f g : ℕ → ℚ) → m ≤ n → ((j : ℕ) → j < m → f j ≡ g j) → ((j : ℕ) → m ≤ j → j < n → f j ≡ zero_ℚ) → sum_ℚ n f ≡ sum_ℚ m g
sum_first m n f g h same none =
    ap (λ k. sum_ℚ k f) (let e : n ≡ m + (n - m) = omega arith in e)
    ∙ (sum-split m (n - m) f ∙ (ap₂ (λ a b. a +ℚ b) (sum_ext m f g same) (sum_zero (n - m) _ (λ k l. none (m + k) (omega arith) (omega arith))) ∙ add-zero _))

-- a sum over all columns whose slacks and artificials have no term
sum_given : (p : Layout) (f g : ℕ → ℚ) → ((j : ℕ) → j < p.columns → f j ≡ g j) → ((q : ℕ) → q < p.sides → f (slack_at p q) ≡ zero_ℚ) → ((r : ℕ) → r < p.nodes + p.sides → f (artificial_at p r) ≡ zero_ℚ)
    → sum_ℚ (all_columns p) f ≡ sum_ℚ p.columns g
sum_given p f g given slack artificial =
    split_columns p f
    ∙ (ap₂ (λ a b. a +ℚ b) (ap₂ (λ a b. a +ℚ b) (sum_ext p.columns f g given) (sum_zero p.sides _ slack)) (sum_zero (p.nodes + p.sides) _ artificial)
    ∙ (add-zero _ ∙ add-zero _))

-- ---- stage one
first_rest_is : (p : Layout) → p.arcs ≤ p.columns → (negative : ℕ → Bool) (i : ℕ) → rest_in_first p negative i ≡ first_rest p i
unfolding rest_in_first first_number
first_rest_is p w negative i =
    ap (λ z. p.right i -ℚ z)
    (sum_given p (λ j. first_number p (col_at p j) *ℚ entry_of p negative (col_at p j) i) (λ j. cond (ltb j p.arcs) (or_zero (p.lower j)) zero_ℚ *ℚ p.entry j i)
    (λ j h. ap (λ c. first_number p c *ℚ entry_of p negative c i) (column_given p j h))
    (λ q h. ap (λ c. first_number p c *ℚ entry_of p negative c i) (column_slack p q h) ∙ zero-mul _)
    (λ r h. ap (λ c. first_number p c *ℚ entry_of p negative c i) (column_artificial p r) ∙ zero-mul _)
    ∙ sum_first p.arcs p.columns _ _ w
    (λ j h. ap (λ z. z *ℚ p.entry j i) (yes_less j p.arcs _ _ h))
    (λ j h l. ap (λ z. z *ℚ p.entry j i) (not_less j p.arcs _ _ h) ∙ zero-mul _))

not_true : (b : Bool) → (b ≡ true → ⊥) → b ≡ false
not_true true h = absurd (h refl)
not_true false h = refl

pub first_start : FirstIsFeasible
first_start p s ok st = record { state = st.state; feasible = subst (λ n. IsLexFeasible (stage_in (layout_of p) n (is_negative s)) (place_at s)) (sym st.stage) here }
  where
    rest : (i : ℕ) → rest_in_first (layout_of p) (is_negative s) i ≡ first_rest (layout_of p) i
    rest = first_rest_is (layout_of p) ok.arcs_within (is_negative s)

    start : IsState (layout_of p) StageOne (is_negative s) (places (layout_of p) (first_place (layout_of p)))
    start = first_is_state (layout_of p) (layout_fits p ok) (is_negative s)
        (λ i h n. not_true (is_negative s i) (λ e. n (subst (λ z. z <ℚ zero_ℚ) (sym (rest i)) ((st.signs i h).0 e))))
        (λ i h l. (st.signs i h).1 (subst (λ z. z <ℚ zero_ℚ) (rest i) l))

    here : IsLexFeasible (stage_in (layout_of p) StageOne (is_negative s)) (place_at s)
    here = feasible_same (stage_in (layout_of p) StageOne (is_negative s)) (places (layout_of p) (first_place (layout_of p))) (place_at s) (λ j h. st.places j h) start.feasible

-- ---- how a side row starts
is_basic : Place → Bool
is_basic Lower = false
is_basic Upper = false
is_basic Zero = false
is_basic Absent = false
is_basic Basic = true

-- the sign of the column that is basic for it
sign_of_row : RowKind → Bool → Bool → ℚ
sign_of_row kind b negative = cond (takes_slack kind b) (slack_sign kind) (sign negative)

Positive : ℚ → ℚ → Type 0
Positive rest a = (zero_ℚ <ℚ rest *ℚ a) ⊎ ((rest ≡ zero_ℚ) × (a ≡ one_ℚ))

module _ (rest : ℚ) where
  plus : zero_ℚ ≤ℚ rest → (a : ℚ) → a ≡ one_ℚ → Positive rest a
  unfolding Positive
  plus h a e = of (eq_or_lt_of_le zero_ℚ rest h)
    where
      of : (zero_ℚ ≡ rest) ⊎ (zero_ℚ <ℚ rest) → (zero_ℚ <ℚ rest *ℚ a) ⊎ ((rest ≡ zero_ℚ) × (a ≡ one_ℚ))
      of (inl z) = inr (sym z, e)
      of (inr l) = inl (subst (λ z. zero_ℚ <ℚ z) (sym (ap (λ z. rest *ℚ z) e ∙ mul-one rest)) l)

  less : rest <ℚ zero_ℚ → (a : ℚ) → a ≡ neg_ℚ one_ℚ → Positive rest a
  unfolding Positive
  less h a e = inl (subst (λ z. zero_ℚ <ℚ z) (sym (ap (λ z. rest *ℚ z) e ∙ ring (rest ∷ []) (v 0 :* minus unit) (minus (v 0)) refl)) (neg_positive rest h))

  -- what a side row that starts so has
  record Started (kind : RowKind) (slack artificial : Place) (negative : Bool) : Type 0 where
    slack_is : slack ≡ slack_place kind (is_basic slack)
    artificial_is : artificial ≡ cond (takes_slack kind (is_basic slack)) Lower Basic
    positive : Positive rest (sign_of_row kind (is_basic slack) negative)

  signed_rest : (negative : Bool) → (negative ≡ true → rest <ℚ zero_ℚ) → (rest <ℚ zero_ℚ → negative ≡ true) → Positive rest (sign negative)
  signed_rest true h k = less (h refl) _ refl
  signed_rest false h k = of (le_or_lt zero_ℚ rest)
    where
      of : (zero_ℚ ≤ℚ rest) ⊎ (rest <ℚ zero_ℚ) → Positive rest one_ℚ
      of (inl l) = plus l _ refl
      of (inr l) = absurd (let e : false ≡ true = k l in cc)

  started : (kind : RowKind) (slack artificial : Place) (negative : Bool) → StartsRow kind rest slack artificial negative → Started kind slack artificial negative
  unfolding is_basic sign_of_row
  started Eq slack artificial negative r =
      let (a, b, c) = r.by_artificial (λ t. t) in
      record { slack_is = a; artificial_is = b; positive = signed_rest negative c.0 c.1 }
  started Le slack artificial negative r = of (le_or_lt zero_ℚ rest)
    where
      of : (zero_ℚ ≤ℚ rest) ⊎ (rest <ℚ zero_ℚ) → Started Le slack artificial negative
      of (inl h) =
          let (a, b, c) = r.by_slack h in
          record {
            slack_is = a ∙ sym (ap (λ z. cond (is_basic z) Basic Lower) a);
            artificial_is = b ∙ sym (ap (λ z. cond (is_basic z) Lower Basic) a);
            positive = plus h _ (ap (λ z. cond (is_basic z) one_ℚ (sign negative)) a);
          }
      of (inr h) =
          let (a, b, c) = r.by_artificial (λ t. not_le_of_lt rest zero_ℚ h t) in
          record {
            slack_is = a ∙ sym (ap (λ z. cond (is_basic z) Basic Lower) a);
            artificial_is = b ∙ sym (ap (λ z. cond (is_basic z) Lower Basic) a);
            positive = less h _ (ap (λ z. cond (is_basic z) one_ℚ (sign negative)) a ∙ ap sign (c.1 h));
          }
  started Ge slack artificial negative r = of (le_or_lt zero_ℚ rest)
    where
      of : (zero_ℚ ≤ℚ rest) ⊎ (rest <ℚ zero_ℚ) → Started Ge slack artificial negative
      of (inr h) =
          let (a, b, c) = r.by_slack h in
          record {
            slack_is = a ∙ sym (ap (λ z. cond (is_basic z) Basic Lower) a);
            artificial_is = b ∙ sym (ap (λ z. cond (is_basic z) Lower Basic) a);
            positive = less h _ (ap (λ z. cond (is_basic z) (neg_ℚ one_ℚ) (sign negative)) a);
          }
      of (inl h) =
          let (a, b, c) = r.by_artificial (λ t. not_le_of_lt rest zero_ℚ t h) in
          record {
            slack_is = a ∙ sym (ap (λ z. cond (is_basic z) Basic Lower) a);
            artificial_is = b ∙ sym (ap (λ z. cond (is_basic z) Lower Basic) a);
            positive = plus h _ (ap (λ z. cond (is_basic z) (neg_ℚ one_ℚ) (sign negative)) a ∙ ap sign (not_true negative (λ e. not_le_of_lt rest zero_ℚ (c.0 e) h)));
          }

-- ---- stage two
second_rest_is : (p : Layout) (negative : ℕ → Bool) (x z : ℕ → ℚ) → ((j : ℕ) → j < p.columns → z j ≡ x j) → (q : ℕ) → rest_in_second p negative z q ≡ second_rest p x (p.nodes + q)
unfolding rest_in_second number_in_second
second_rest_is p negative x z same q =
    ap (λ w. p.right (p.nodes + q) -ℚ w)
    (sum_given p (λ j. number_in_second p z (col_at p j) *ℚ entry_of p negative (col_at p j) (p.nodes + q)) (λ j. second_number p x j *ℚ p.entry j (p.nodes + q))
    (λ j h. ap (λ c. number_in_second p z c *ℚ entry_of p negative c (p.nodes + q)) (column_given p j h) ∙ ap (λ w. cond (ltb j p.arcs) w (nonarc_number (p.lower j) (p.upper j)) *ℚ p.entry j (p.nodes + q)) (same j h))
    (λ k h. ap (λ c. number_in_second p z c *ℚ entry_of p negative c (p.nodes + q)) (column_slack p k h) ∙ zero-mul _)
    (λ r h. ap (λ c. number_in_second p z c *ℚ entry_of p negative c (p.nodes + q)) (column_artificial p r) ∙ none r (less_or_not r p.nodes)))
  where
    none : (r : ℕ) → (r < p.nodes) ⊎ (p.nodes ≤ r) → cond (ltb r p.nodes) (z (p.columns + p.sides + r)) zero_ℚ *ℚ (sign (negative r) *ℚ delta r (p.nodes + q)) ≡ zero_ℚ
    none r (inl l) = ap (λ w. cond (ltb r p.nodes) (z (p.columns + p.sides + r)) zero_ℚ *ℚ (sign (negative r) *ℚ w)) (unit_other r (p.nodes + q) (omega arith)) ∙ (ap (λ w. cond (ltb r p.nodes) (z (p.columns + p.sides + r)) zero_ℚ *ℚ w) (mul-zero (sign (negative r))) ∙ mul-zero _)
    none r (inr l) = ap (λ w. w *ℚ (sign (negative r) *ℚ delta r (p.nodes + q))) (not_less r p.nodes _ _ l) ∙ zero-mul _

-- the places of a state of stage one, by name
old_of : LinearProgram → Standing → Col → Place
old_of p s (Given j) = cond (ltb j p.arcs) (place_at s j) Absent
old_of p s (Slack r) = Absent
old_of p s (Artificial r) = cond (ltb r p.nodes) (place_at s ((layout_of p).columns + (layout_of p).sides + r)) Absent

module _ (p : LinearProgram) (ok : IsProblem p) (s : Standing) (f : IsFeasibleState p s) (one : s.stage ≡ StageOne) where
  abbrev L : Layout
  L = layout_of p

  absent_at : (j : ℕ) → j < all_columns L → (c : Col) → col_at L j ≡ c → (IsPresent L StageOne c → ⊥) → place_at s j ≡ Absent
  absent_at j h c e none = (f.state.fits j h).absent (λ g. none (subst (λ n. IsPresent L n c) one (subst (IsPresent L s.stage) e g)))

  old_is : (j : ℕ) → j < all_columns L → places L (old_of p s) j ≡ place_at s j
  unfolding old_of
  old_is j h = by_columns L (λ c. old_of p s c ≡ place_at s (number_of L c)) given slack artificial j h ∙ ap (place_at s) (number_col L j h)
    where
      given : (j : ℕ) → j < L.columns → cond (ltb j p.arcs) (place_at s j) Absent ≡ place_at s j
      given j h = of (less_or_not j p.arcs)
        where
          of : (j < p.arcs) ⊎ (p.arcs ≤ j) → cond (ltb j p.arcs) (place_at s j) Absent ≡ place_at s j
          of (inl l) = yes_less j p.arcs _ _ l
          of (inr l) = not_less j p.arcs _ _ l ∙ sym (absent_at j (omega arith) (Given j) (column_given L j h) (λ g. omega arith))

      slack : (q : ℕ) → q < L.sides → Absent ≡ place_at s (number_of L (Slack (L.nodes + q)))
      slack q h = sym (ap (place_at s) (let e : L.columns + (L.nodes + q - L.nodes) ≡ L.columns + q = omega arith in e) ∙ absent_at (L.columns + q) (omega arith) (Slack (L.nodes + q)) (column_slack L q h) (λ g. g))

      artificial : (i : ℕ) → i < L.nodes + L.sides → cond (ltb i p.nodes) (place_at s (L.columns + L.sides + i)) Absent ≡ place_at s (L.columns + L.sides + i)
      artificial i h = of (less_or_not i p.nodes)
        where
          of : (i < p.nodes) ⊎ (p.nodes ≤ i) → cond (ltb i p.nodes) (place_at s (L.columns + L.sides + i)) Absent ≡ place_at s (L.columns + L.sides + i)
          of (inl l) = yes_less i p.nodes _ _ l
          of (inr l) = not_less i p.nodes _ _ l ∙ sym (absent_at (L.columns + L.sides + i) (omega arith) (Artificial i) (column_artificial L i) (λ g. omega arith))

  old_state : IsState L StageOne (is_negative s) (places L (old_of p s))
  old_state = subst (λ n. IsState L n (is_negative s) (places L (old_of p s))) one record {
    present = λ j h g e. (state_of p s f).present j h g (sym (old_is j h) ∙ e);
    absent = λ j h g. old_is j h ∙ (state_of p s f).absent j h g;
    feasible = feasible_same (stage_of p s) (place_at s) (places L (old_of p s)) old_is f.feasible;
  }

  old_values : (x : ℕ → ℚ) → AreValuesOf p s x → (j : ℕ) → j < L.columns → old_state.feasible.values j ≡ x j
  old_values x xs j h =
      values_unique (stage_in L StageOne (is_negative s)) (places L (old_of p s)) old_state.feasible.values x old_state.feasible.basis.independent old_state.feasible.are_values
      (subst (λ n. IsValuesAt n) one (values_same (stage_of p s) (place_at s) (places L (old_of p s)) old_is x xs)) j (omega arith)
    where
      IsValuesAt : StageNumber → Type 0
      IsValuesAt n = IsValues (stage_in L n (is_negative s)) (places L (old_of p s)) x

-- whether the slack of row r is basic
chosen_of : LinearProgram → Standing → ℕ → Bool
chosen_of p t r = is_basic (place_of p t (Slack r))

pub second_start : SecondIsFeasible
unfolding old_of chosen_of sign_of_row Positive
second_start p s x t ok f one xs st = record {
  state = st.state;
  feasible = subst (λ n. IsLexFeasible (stage_in L n (is_negative t)) (place_at t)) (sym st.stage)
      (feasible_same (stage_in L StageTwo (is_negative t)) (places L (second_place L (old_of p s) (chosen_of p t))) (place_at t) places_are start.feasible);
}
  where
    L : Layout
    L = layout_of p

    row : (q : ℕ) → q < L.sides → Started (second_rest L x (L.nodes + q)) (L.kind (L.nodes + q)) (place_of p t (Slack (L.nodes + q))) (place_of p t (Artificial (L.nodes + q))) (is_negative t (L.nodes + q))
    row q h = started (second_rest L x (L.nodes + q)) (L.kind (L.nodes + q)) _ _ _ (st.sides q (omega arith))

    rest : (q : ℕ) → rest_in_second L (is_negative t) (old_state p ok s f one).feasible.values q ≡ second_rest L x (L.nodes + q)
    rest q = second_rest_is L (is_negative t) x (old_state p ok s f one).feasible.values (old_values p ok s f one x xs) q

    clash : Absent ≡ Basic → ⊥
    clash e = cc

    start : IsState L StageTwo (is_negative t) (places L (second_place L (old_of p s) (chosen_of p t)))
    start = second_is_state L (layout_fits p ok) (is_negative t) (is_negative s) (old_of p s) (chosen_of p t) (old_state p ok s f one)
        (λ i h. (st.nodes i h).1)
        (λ j h e. clash (sym (not_less j p.arcs _ _ h) ∙ e))
        (λ r e. clash e)
        (λ r h e. clash (sym (not_less r p.nodes _ _ h) ∙ e))
        (λ q h. subst (λ z. Positive z (own_sign L (is_negative t) (chosen_of p t) q)) (sym (rest q)) (row q h).positive)

    places_are : (j : ℕ) → j < all_columns L → place_at t j ≡ places L (second_place L (old_of p s) (chosen_of p t)) j
    places_are j h = sym (ap (place_at t) (number_col L j h)) ∙ by_columns L (λ c. place_of p t c ≡ second_place L (old_of p s) (chosen_of p t) c) given (λ q h. (row q h).slack_is) artificial j h
      where
        given : (j : ℕ) → j < L.columns → place_at t j ≡ cond (ltb j p.arcs) (cond (ltb j p.arcs) (place_at s j) Absent) (nonarc_place (L.lower j) (L.upper j))
        given j h = of (less_or_not j p.arcs)
          where
            of : (j < p.arcs) ⊎ (p.arcs ≤ j) → place_at t j ≡ cond (ltb j p.arcs) (cond (ltb j p.arcs) (place_at s j) Absent) (nonarc_place (L.lower j) (L.upper j))
            of (inl l) = st.arcs j l ∙ sym (yes_less j p.arcs _ _ l ∙ yes_less j p.arcs _ _ l)
            of (inr l) = nonarc ∙ sym (not_less j p.arcs _ _ l)
              where
                nonarc : place_at t j ≡ nonarc_place (L.lower j) (L.upper j)
                nonarc = let e : p.arcs + (j - p.arcs) ≡ j = omega arith in subst (λ k. place_at t k ≡ nonarc_place (L.lower k) (L.upper k)) e (st.nonarcs (j - p.arcs) (omega arith))

        artificial : (i : ℕ) → i < L.nodes + L.sides → place_of p t (Artificial i) ≡ cond (ltb i p.nodes) (cond (ltb i p.nodes) (place_of p s (Artificial i)) Absent) (cond (takes_slack (L.kind i) (is_basic (place_of p t (Slack i)))) Lower Basic)
        artificial i h = of (less_or_not i p.nodes)
          where
            of : (i < p.nodes) ⊎ (p.nodes ≤ i) → place_of p t (Artificial i) ≡ cond (ltb i p.nodes) (cond (ltb i p.nodes) (place_of p s (Artificial i)) Absent) (cond (takes_slack (L.kind i) (is_basic (place_of p t (Slack i)))) Lower Basic)
            of (inl l) = (st.nodes i l).0 ∙ sym (yes_less i p.nodes _ _ l ∙ yes_less i p.nodes _ _ l)
            of (inr l) = side ∙ sym (not_less i p.nodes _ _ l)
              where
                side : place_of p t (Artificial i) ≡ cond (takes_slack (L.kind i) (is_basic (place_of p t (Slack i)))) Lower Basic
                side = let e : p.nodes + (i - p.nodes) ≡ i = omega arith in subst (λ k. place_of p t (Artificial k) ≡ cond (takes_slack (L.kind k) (is_basic (place_of p t (Slack k)))) Lower Basic) e ((row (i - p.nodes) (omega arith)).artificial_is)
