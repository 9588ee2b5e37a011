-- The first state of stage one of a problem is lexicographically feasible.
use Rattle.std.proofs.Common.{◌≡◌, ◌≢◌, ℕ, ◌+◌, ◌-◌, ◌<◌, ◌≤◌, ◌⊎◌, inl, inr, Bool, true, false, cond, ltb, lt-ltb, le-ltb, [], refl, sym, ap, ◌∙◌, subst, arith, Option, Some, None}
use Rattle.nf_num.specs.Rational.{ℚ, zero_ℚ, one_ℚ, ◌*ℚ◌, ◌<ℚ◌}
use Rattle.nf_num.specs.Sum.{delta}
use Rattle.nf_model.specs.declared.RowKind.{RowKind}
use Rattle.nf_model.specs.declared.RowKind.TheVariants.{Le, Eq, Ge}
use Rattle.nf_simplex.specs.Columns.{Col, Given, Slack, Artificial, col_at, slack_sign, sign, entry_of, col_lower, col_upper}
use Rattle.nf_simplex.specs.Layout.{Layout, IsLayout}
use Rattle.nf_simplex.specs.Lex.{IsLexFeasible}
use Rattle.nf_simplex.specs.Numbers.{StandsAt}
use Rattle.nf_simplex.specs.Place.{Place, Lower, Absent, Basic}
use Rattle.nf_simplex.specs.Stage.{Stage}
use Rattle.nf_simplex.specs.StageOf.{stage_in, StageOne, StageTwo}
use Rattle.nf_simplex.specs.Starts.{or_zero, first_place, nonarc_place, nonarc_number}
use Rattle.nf_simplex.proofs.FieldLaws.{mul-one}
use Rattle.nf_simplex.proofs.Orders.{yes_less, not_less, less_or_not, past_sides, no_sides_order}
use Rattle.nf_simplex.proofs.Start.{IsStart, start_feasible}
use Rattle.nf_simplex.proofs.StartForms.{places, first_number, rest_in_first, takes_slack, slack_place, second_place, number_in_second, rest_in_second, own_sign, own_column}
use Rattle.nf_simplex.proofs.Sum.{below_or_past, unit_other}
use Rattle.nf_simplex.proofs.Terms.{unit, minus, ◌:*◌, ring, mul-zero}
use Rattle.nf_simplex.proofs.Widen.{IsWidened, widened_feasible}

module _ (p : Layout) where
  pub column_given : (j : ℕ) → j < p.columns → col_at p j ≡ Given j
  column_given j h = yes_less j p.columns _ _ h

  pub column_slack : (q : ℕ) → q < p.sides → col_at p (p.columns + q) ≡ Slack (p.nodes + q)
  column_slack q h =
      not_less (p.columns + q) p.columns _ _ (omega arith)
      ∙ (yes_less (p.columns + q) (p.columns + p.sides) _ _ (omega arith) ∙ ap (λ k. Slack (p.nodes + k)) (omega arith))

  pub column_artificial : (i : ℕ) → col_at p (p.columns + p.sides + i) ≡ Artificial i
  column_artificial i =
      not_less (p.columns + p.sides + i) p.columns _ _ (omega arith)
      ∙ (not_less (p.columns + p.sides + i) (p.columns + p.sides) _ _ (omega arith) ∙ ap Artificial (omega arith))

  -- Each column is given, a slack or an artificial.
  pub column_cases : (j : ℕ) → j < p.columns + p.sides + (p.nodes + p.sides)
      → (j < p.columns) ⊎ (((q : ℕ) × (j ≡ p.columns + q) × (q < p.sides)) ⊎ ((i : ℕ) × (j ≡ p.columns + p.sides + i) × (i < p.nodes + p.sides)))
  column_cases j h = of (below_or_past j (p.columns + p.sides) (p.nodes + p.sides) h)
    where
      of : (j < p.columns + p.sides) ⊎ ((i : ℕ) × (j ≡ p.columns + p.sides + i) × (i < p.nodes + p.sides))
          → (j < p.columns) ⊎ (((q : ℕ) × (j ≡ p.columns + q) × (q < p.sides)) ⊎ ((i : ℕ) × (j ≡ p.columns + p.sides + i) × (i < p.nodes + p.sides)))
      of (inr x) = inr (inr x)
      of (inl l) = at (below_or_past j p.columns p.sides l)
        where
          at : (j < p.columns) ⊎ ((q : ℕ) × (j ≡ p.columns + q) × (q < p.sides))
              → (j < p.columns) ⊎ (((q : ℕ) × (j ≡ p.columns + q) × (q < p.sides)) ⊎ ((i : ℕ) × (j ≡ p.columns + p.sides + i) × (i < p.nodes + p.sides)))
          at (inl a) = inl a
          at (inr a) = inr (inl a)

  -- A statement on columns, by their kinds.
  pub by_columns : (P : Col → Type 0) → ((j : ℕ) → j < p.columns → P (Given j)) → ((q : ℕ) → q < p.sides → P (Slack (p.nodes + q))) → ((i : ℕ) → i < p.nodes + p.sides → P (Artificial i))
      → (j : ℕ) → j < p.columns + p.sides + (p.nodes + p.sides) → P (col_at p j)
  by_columns P given slack artificial j h = of (column_cases j h)
    where
      of : (j < p.columns) ⊎ (((q : ℕ) × (j ≡ p.columns + q) × (q < p.sides)) ⊎ ((i : ℕ) × (j ≡ p.columns + p.sides + i) × (i < p.nodes + p.sides))) → P (col_at p j)
      of (inl a) = subst P (sym (column_given j a)) (given j a)
      of (inr (inl (q, e, m))) = subst P (sym (ap (λ x. col_at p x) e ∙ column_slack q m)) (slack q m)
      of (inr (inr (i, e, m))) = subst P (sym (ap (λ x. col_at p x) e ∙ column_artificial i)) (artificial i m)

  module _ (ok : IsLayout p) (negative : ℕ → Bool)
      (plus : (i : ℕ) → i < p.nodes → (rest_in_first p negative i <ℚ zero_ℚ → ⊥) → negative i ≡ false)
      (minus_one : (i : ℕ) → i < p.nodes → rest_in_first p negative i <ℚ zero_ℚ → negative i ≡ true) where
    artificial_basic : (i : ℕ) → i < p.nodes → first_place p (Artificial i) ≡ Basic
    artificial_basic i h = yes_less i p.nodes Basic Absent h

    only_artificials : (j : ℕ) → j < p.columns + p.sides + (p.nodes + p.sides) → first_place p (col_at p j) ≡ Basic → (q : ℕ) × (q < p.nodes) × (p.columns + p.sides + q ≡ j)
    only_artificials j h b = of (column_cases j h)
      where
        given : (j < p.arcs) ⊎ (p.arcs ≤ j) → first_place p (Given j) ≡ Basic → ⊥
        given (inl l) e = let x : Lower ≡ Basic = sym (yes_less j p.arcs Lower Absent l) ∙ e in cc
        given (inr l) e = let x : Absent ≡ Basic = sym (not_less j p.arcs Lower Absent l) ∙ e in cc

        artificial : (i : ℕ) → (i < p.nodes) ⊎ (p.nodes ≤ i) → first_place p (Artificial i) ≡ Basic → i < p.nodes
        artificial i (inl l) e = l
        artificial i (inr l) e = absurd (let x : Absent ≡ Basic = sym (not_less i p.nodes Basic Absent l) ∙ e in cc)

        of : (j < p.columns) ⊎ (((q : ℕ) × (j ≡ p.columns + q) × (q < p.sides)) ⊎ ((i : ℕ) × (j ≡ p.columns + p.sides + i) × (i < p.nodes + p.sides))) → (q : ℕ) × (q < p.nodes) × (p.columns + p.sides + q ≡ j)
        of (inl a) = absurd (given (less_or_not j p.arcs) (sym (ap (first_place p) (column_given j a)) ∙ b))
        of (inr (inl (q, e, m))) = absurd (let x : Absent ≡ Basic = sym (ap (first_place p) (ap (λ y. col_at p y) e ∙ column_slack q m)) ∙ b in cc)
        of (inr (inr (i, e, m))) = (i, artificial i (less_or_not i p.nodes) (sym (ap (first_place p) (ap (λ y. col_at p y) e ∙ column_artificial i)) ∙ b), sym e)

    stands : (c : Col) → StandsAt (first_place p c) (col_lower p c) (col_upper p c) (first_number p c)
    unfolding first_number
    stands (Given j) = of (less_or_not j p.arcs)
      where
        of : (j < p.arcs) ⊎ (p.arcs ≤ j) → StandsAt (cond (ltb j p.arcs) Lower Absent) (p.lower j) (p.upper j) (cond (ltb j p.arcs) (or_zero (p.lower j)) zero_ℚ)
        of (inl l) =
            let (b, e) = ok.arcs_lower j l in
            subst (λ t. StandsAt (cond t Lower Absent) (p.lower j) (p.upper j) (cond t (or_zero (p.lower j)) zero_ℚ)) (sym (lt-ltb j p.arcs l))
            (subst (λ o. StandsAt Lower o (p.upper j) (or_zero o)) (sym e) refl)
        of (inr l) = subst (λ t. StandsAt (cond t Lower Absent) (p.lower j) (p.upper j) (cond t (or_zero (p.lower j)) zero_ℚ)) (sym (le-ltb j p.arcs l)) refl
    stands (Slack r) = refl
    stands (Artificial r) = of (less_or_not r p.nodes)
      where
        of : (r < p.nodes) ⊎ (p.nodes ≤ r) → StandsAt (cond (ltb r p.nodes) Basic Absent) (Some zero_ℚ) None zero_ℚ
        of (inl l) = subst (λ t. StandsAt (cond t Basic Absent) (Some zero_ℚ) None zero_ℚ) (sym (lt-ltb r p.nodes l)) tt
        of (inr l) = subst (λ t. StandsAt (cond t Basic Absent) (Some zero_ℚ) None zero_ℚ) (sym (le-ltb r p.nodes l)) refl

    fits : IsStart (stage_in p StageOne negative) (places p (first_place p)) (λ i. p.columns + p.sides + i) (λ i. sign (negative i)) (λ j. first_number p (col_at p j))
    unfolding first_number rest_in_first
    fits = record {
      in_order = λ q h. no_sides_order (stage_in p StageOne negative) refl q;
      own_there = λ q h. omega arith;
      own_distinct = λ q r h m e. omega arith;
      own_basic = λ q h. ap (first_place p) (column_artificial q) ∙ artificial_basic q h;
      own_entry = λ q i h m. ap (λ c. entry_of p negative c i) (column_artificial q);
      own_lower = λ q h. ap (col_lower p) (column_artificial q);
      own_upper = λ q h. ap (col_upper p) (column_artificial q);
      only = λ j h b. only_artificials j h b;
      stands = λ j h. stands (col_at p j);
      own_zero = λ q h. ap (first_number p) (column_artificial q);
      plus = λ q h r. ap (sign) (plus q h r);
      minus_one = λ q h r. ap (sign) (minus_one q h r);
    }

    -- The first state of stage one.
    pub first_feasible : IsLexFeasible (stage_in p StageOne negative) (places p (first_place p))
    first_feasible = start_feasible (stage_in p StageOne negative) (places p (first_place p)) (λ i. p.columns + p.sides + i) (λ i. sign (negative i)) (λ j. first_number p (col_at p j)) fits

  abbrev pub two : (ℕ → Bool) → Stage
  two negative = stage_in p StageTwo negative

  -- The first state of stage two, from a lexicographically feasible state of stage one.
  module _ (ok : IsLayout p) (negative before : ℕ → Bool) (old : Col → Place) (chosen : ℕ → Bool)
      (f : IsLexFeasible (stage_in p StageOne before) (places p old))
      (same_signs : (i : ℕ) → i < p.nodes → negative i ≡ before i)
      (nonarcs : (j : ℕ) → p.arcs ≤ j → old (Given j) ≢ Basic) (slacks : (r : ℕ) → old (Slack r) ≢ Basic) (others : (r : ℕ) → p.nodes ≤ r → old (Artificial r) ≢ Basic)
      (signs : (q : ℕ) → q < p.sides → (zero_ℚ <ℚ rest_in_second p negative f.values q *ℚ own_sign p negative chosen q) ⊎ ((rest_in_second p negative f.values q ≡ zero_ℚ) × (own_sign p negative chosen q ≡ one_ℚ))) where
    c : ℕ
    c = p.columns

    takes : ℕ → Bool
    takes q = takes_slack (p.kind (p.nodes + q)) (chosen (p.nodes + q))

    new : ℕ → Place
    new = places p (second_place p old chosen)

    z : ℕ → ℚ
    z j = number_in_second p f.values (col_at p j)

    slack_of : (k : RowKind) (b : Bool) → takes_slack k b ≡ true → (slack_place k b ≡ Basic) × (slack_sign k *ℚ slack_sign k ≡ one_ℚ)
    slack_of Eq b e = absurd (cc)
    slack_of Le b e = (ap (λ y. cond y Basic Lower) e, mul-one one_ℚ)
    slack_of Ge b e = (ap (λ y. cond y Basic Lower) e, ring [] (minus unit :* minus unit) unit refl)

    slack_not : (k : RowKind) (b : Bool) → takes_slack k b ≡ false → slack_place k b ≢ Basic
    slack_not Eq b e q = cc
    slack_not Le b e q = let x : Lower ≡ Basic = sym (ap (λ y. cond y Basic Lower) e) ∙ q in cc
    slack_not Ge b e q = let x : Lower ≡ Basic = sym (ap (λ y. cond y Basic Lower) e) ∙ q in cc

    sign_square : (b : Bool) → sign b *ℚ sign b ≡ one_ℚ
    sign_square true = ring [] (minus unit :* minus unit) unit refl
    sign_square false = mul-one one_ℚ

    nonarc_not : (l u : Option ℚ) → nonarc_place l u ≢ Basic
    nonarc_not (Some l) u e = cc
    nonarc_not None (Some u) e = cc
    nonarc_not None None e = cc

    nonarc_stands : (l u : Option ℚ) → StandsAt (nonarc_place l u) l u (nonarc_number l u)
    nonarc_stands (Some l) u = refl
    nonarc_stands None (Some u) = refl
    nonarc_stands None None = refl

    bool_cases : (b : Bool) → (b ≡ true) ⊎ (b ≡ false)
    bool_cases true = inl refl
    bool_cases false = inr refl

    -- the column that is basic for a side row, by name
    own_is : (q : ℕ) → q < p.sides → ((takes q ≡ true) × (own_column p chosen q ≡ p.columns + q)) ⊎ ((takes q ≡ false) × (own_column p chosen q ≡ p.columns + p.sides + (p.nodes + q)))
    unfolding takes
    own_is q h = of (bool_cases (takes_slack (p.kind (p.nodes + q)) (chosen (p.nodes + q))))
      where
        of : (takes_slack (p.kind (p.nodes + q)) (chosen (p.nodes + q)) ≡ true) ⊎ (takes_slack (p.kind (p.nodes + q)) (chosen (p.nodes + q)) ≡ false)
            → ((takes q ≡ true) × (own_column p chosen q ≡ p.columns + q)) ⊎ ((takes q ≡ false) × (own_column p chosen q ≡ p.columns + p.sides + (p.nodes + q)))
        of (inl e) = inl (e, ap (λ y. cond y (p.columns + q) (p.columns + p.sides + (p.nodes + q))) e)
        of (inr e) = inr (e, ap (λ y. cond y (p.columns + q) (p.columns + p.sides + (p.nodes + q))) e)

    -- the same as a statement on the column's name
    at_own : (q : ℕ) → q < p.sides → (P : Col → ℚ → Type 0) → (takes q ≡ true → P (Slack (p.nodes + q)) (slack_sign (p.kind (p.nodes + q)))) → (takes q ≡ false → P (Artificial (p.nodes + q)) (sign (negative (p.nodes + q))))
        → P (col_at p (own_column p chosen q)) (own_sign p negative chosen q)
    unfolding takes
    at_own q h P slack artificial = of (own_is q h)
      where
        of : ((takes q ≡ true) × (own_column p chosen q ≡ p.columns + q)) ⊎ ((takes q ≡ false) × (own_column p chosen q ≡ p.columns + p.sides + (p.nodes + q))) → P (col_at p (own_column p chosen q)) (own_sign p negative chosen q)
        of (inl (e, o)) =
            subst (λ y. P y (own_sign p negative chosen q)) (sym (ap (λ y. col_at p y) o ∙ column_slack q h))
            (subst (λ y. P (Slack (p.nodes + q)) y) (sym (ap (λ y. cond y (slack_sign (p.kind (p.nodes + q))) (sign (negative (p.nodes + q)))) e)) (slack e))
        of (inr (e, o)) =
            subst (λ y. P y (own_sign p negative chosen q)) (sym (ap (λ y. col_at p y) o ∙ column_artificial (p.nodes + q)))
            (subst (λ y. P (Artificial (p.nodes + q)) y) (sym (ap (λ y. cond y (slack_sign (p.kind (p.nodes + q))) (sign (negative (p.nodes + q)))) e)) (artificial e))

    entry_same : (x : Col) (i : ℕ) → i < p.nodes → entry_of p negative x i ≡ entry_of p before x i
    entry_same (Given j) i h = refl
    entry_same (Slack r) i h = refl
    entry_same (Artificial r) i h = of (less_or_not r p.nodes)
      where
        of : (r < p.nodes) ⊎ (p.nodes ≤ r) → sign (negative r) *ℚ delta r i ≡ sign (before r) *ℚ delta r i
        of (inl l) = ap (λ b. sign b *ℚ delta r i) (same_signs r l)
        of (inr l) = ap (λ y. sign (negative r) *ℚ y) (unit_other r i (omega arith)) ∙ (mul-zero _ ∙ (sym (mul-zero _) ∙ ap (λ y. sign (before r) *ℚ y) (sym (unit_other r i (omega arith)))))

    place_kept : (x : Col) → old x ≡ Basic → second_place p old chosen x ≡ Basic
    place_kept (Given j) b = of (less_or_not j p.arcs)
      where
        of : (j < p.arcs) ⊎ (p.arcs ≤ j) → cond (ltb j p.arcs) (old (Given j)) (nonarc_place (p.lower j) (p.upper j)) ≡ Basic
        of (inl l) = yes_less j p.arcs _ _ l ∙ b
        of (inr l) = absurd (nonarcs j l b)
    place_kept (Slack r) b = absurd (slacks r b)
    place_kept (Artificial r) b = of (less_or_not r p.nodes)
      where
        of : (r < p.nodes) ⊎ (p.nodes ≤ r) → cond (ltb r p.nodes) (old (Artificial r)) (cond (takes_slack (p.kind r) (chosen r)) Lower Basic) ≡ Basic
        of (inl l) = yes_less r p.nodes _ _ l ∙ b
        of (inr l) = absurd (others r l b)

    distinct : (q r : ℕ) → q < p.sides → r < p.sides → own_column p chosen q ≡ own_column p chosen r → q ≡ r
    unfolding takes
    distinct q r h m e = of (own_is q h) (own_is r m)
      where
        of : ((takes q ≡ true) × (own_column p chosen q ≡ p.columns + q)) ⊎ ((takes q ≡ false) × (own_column p chosen q ≡ p.columns + p.sides + (p.nodes + q)))
            → ((takes r ≡ true) × (own_column p chosen r ≡ p.columns + r)) ⊎ ((takes r ≡ false) × (own_column p chosen r ≡ p.columns + p.sides + (p.nodes + r))) → q ≡ r
        of (inl a) (inl b) = let x : p.columns + q ≡ p.columns + r = sym a.1 ∙ (e ∙ b.1) in omega arith
        of (inl a) (inr b) = let x : p.columns + q ≡ p.columns + p.sides + (p.nodes + r) = sym a.1 ∙ (e ∙ b.1) in absurd (omega arith)
        of (inr a) (inl b) = let x : p.columns + p.sides + (p.nodes + q) ≡ p.columns + r = sym a.1 ∙ (e ∙ b.1) in absurd (omega arith)
        of (inr a) (inr b) = let x : p.columns + p.sides + (p.nodes + q) ≡ p.columns + p.sides + (p.nodes + r) = sym a.1 ∙ (e ∙ b.1) in omega arith

    own_within : (q : ℕ) → q < p.sides → own_column p chosen q < p.columns + p.sides + (p.nodes + p.sides)
    unfolding takes
    own_within q h = of (own_is q h)
      where
        of : ((takes q ≡ true) × (own_column p chosen q ≡ p.columns + q)) ⊎ ((takes q ≡ false) × (own_column p chosen q ≡ p.columns + p.sides + (p.nodes + q))) → own_column p chosen q < p.columns + p.sides + (p.nodes + p.sides)
        of (inl a) = subst (λ y. y < p.columns + p.sides + (p.nodes + p.sides)) (sym a.1) (omega arith)
        of (inr a) = subst (λ y. y < p.columns + p.sides + (p.nodes + p.sides)) (sym a.1) (omega arith)

    only_these : (j : ℕ) → j < p.columns + p.sides + (p.nodes + p.sides) → second_place p old chosen (col_at p j) ≡ Basic → (old (col_at p j) ≡ Basic) ⊎ ((q : ℕ) × (q < p.sides) × (own_column p chosen q ≡ j))
    unfolding takes
    only_these j h b = of (column_cases j h)
      where
        given : j < p.columns → (j < p.arcs) ⊎ (p.arcs ≤ j) → old (col_at p j) ≡ Basic
        given a (inl l) = ap old (column_given j a) ∙ (sym (yes_less j p.arcs (old (Given j)) (nonarc_place (p.lower j) (p.upper j)) l) ∙ (sym (ap (second_place p old chosen) (column_given j a)) ∙ b))
        given a (inr l) = absurd (nonarc_not (p.lower j) (p.upper j) (sym (not_less j p.arcs (old (Given j)) (nonarc_place (p.lower j) (p.upper j)) l) ∙ (sym (ap (second_place p old chosen) (column_given j a)) ∙ b)))

        slack : (q : ℕ) → j ≡ p.columns + q → q < p.sides → ((takes q ≡ true) × (own_column p chosen q ≡ p.columns + q)) ⊎ ((takes q ≡ false) × (own_column p chosen q ≡ p.columns + p.sides + (p.nodes + q))) → (k : ℕ) × (k < p.sides) × (own_column p chosen k ≡ j)
        slack q e m (inl a) = (q, m, a.1 ∙ sym e)
        slack q e m (inr a) = absurd (slack_not (p.kind (p.nodes + q)) (chosen (p.nodes + q)) a.0 (sym (ap (second_place p old chosen) (ap (λ y. col_at p y) e ∙ column_slack q m)) ∙ b))

        side : (i q : ℕ) → j ≡ p.columns + p.sides + i → i ≡ p.nodes + q → q < p.sides → second_place p old chosen (Artificial i) ≡ Basic → ((takes q ≡ true) × (own_column p chosen q ≡ p.columns + q)) ⊎ ((takes q ≡ false) × (own_column p chosen q ≡ p.columns + p.sides + (p.nodes + q))) → (k : ℕ) × (k < p.sides) × (own_column p chosen k ≡ j)
        side i q e w m x (inr a) = (q, m, a.1 ∙ (ap (λ y. p.columns + p.sides + y) (sym w) ∙ sym e))
        side i q e w m x (inl a) =
            absurd (let y : Lower ≡ Basic = sym (not_less (p.nodes + q) p.nodes (old (Artificial (p.nodes + q))) (cond (takes_slack (p.kind (p.nodes + q)) (chosen (p.nodes + q))) Lower Basic) (omega arith) ∙ ap (λ y. cond y Lower Basic) a.0) ∙ (ap (λ y. second_place p old chosen (Artificial y)) (sym w) ∙ x) in cc)

        artificial : (i : ℕ) → j ≡ p.columns + p.sides + i → second_place p old chosen (Artificial i) ≡ Basic → (i < p.nodes) ⊎ ((q : ℕ) × (i ≡ p.nodes + q) × (q < p.sides)) → (old (col_at p j) ≡ Basic) ⊎ ((q : ℕ) × (q < p.sides) × (own_column p chosen q ≡ j))
        artificial i e x (inl l) = inl (ap old (ap (λ y. col_at p y) e ∙ column_artificial i) ∙ (sym (yes_less i p.nodes (old (Artificial i)) (cond (takes_slack (p.kind i) (chosen i)) Lower Basic) l) ∙ x))
        artificial i e x (inr (q, w, m)) = inr (side i q e w m x (own_is q m))

        of : (j < p.columns) ⊎ (((q : ℕ) × (j ≡ p.columns + q) × (q < p.sides)) ⊎ ((i : ℕ) × (j ≡ p.columns + p.sides + i) × (i < p.nodes + p.sides))) → (old (col_at p j) ≡ Basic) ⊎ ((q : ℕ) × (q < p.sides) × (own_column p chosen q ≡ j))
        of (inl a) = inl (given a (less_or_not j p.arcs))
        of (inr (inl (q, e, m))) = inr (slack q e m (own_is q m))
        of (inr (inr (i, e, m))) = artificial i e (sym (ap (second_place p old chosen) (ap (λ y. col_at p y) e ∙ column_artificial i)) ∙ b) (below_or_past i p.nodes p.sides m)

    slack_stands : (k : RowKind) (b : Bool) → StandsAt (slack_place k b) (Some zero_ℚ) None zero_ℚ
    slack_stands Eq b = refl
    slack_stands Le true = tt
    slack_stands Le false = refl
    slack_stands Ge true = tt
    slack_stands Ge false = refl

    lower_or_basic : (b : Bool) → StandsAt (cond b Lower Basic) (Some zero_ℚ) None zero_ℚ
    lower_or_basic true = refl
    lower_or_basic false = tt

    stands_two : (j : ℕ) → j < p.columns + p.sides + (p.nodes + p.sides) → StandsAt (second_place p old chosen (col_at p j)) (col_lower p (col_at p j)) (col_upper p (col_at p j)) (number_in_second p f.values (col_at p j))
    unfolding number_in_second
    stands_two = by_columns (λ x. StandsAt (second_place p old chosen x) (col_lower p x) (col_upper p x) (number_in_second p f.values x)) given (λ q h. slack_stands (p.kind (p.nodes + q)) (chosen (p.nodes + q))) artificial
      where
        given : (j : ℕ) → j < p.columns → StandsAt (cond (ltb j p.arcs) (old (Given j)) (nonarc_place (p.lower j) (p.upper j))) (p.lower j) (p.upper j) (cond (ltb j p.arcs) (f.values j) (nonarc_number (p.lower j) (p.upper j)))
        given j h = of (less_or_not j p.arcs)
          where
            of : (j < p.arcs) ⊎ (p.arcs ≤ j) → StandsAt (cond (ltb j p.arcs) (old (Given j)) (nonarc_place (p.lower j) (p.upper j))) (p.lower j) (p.upper j) (cond (ltb j p.arcs) (f.values j) (nonarc_number (p.lower j) (p.upper j)))
            of (inl l) =
                subst (λ t. StandsAt (cond t (old (Given j)) (nonarc_place (p.lower j) (p.upper j))) (p.lower j) (p.upper j) (cond t (f.values j) (nonarc_number (p.lower j) (p.upper j)))) (sym (lt-ltb j p.arcs l))
                (subst (λ y. StandsAt (old y) (col_lower p y) (col_upper p y) (f.values j)) (column_given j h) (f.are_values.stands j (omega arith)))
            of (inr l) =
                subst (λ t. StandsAt (cond t (old (Given j)) (nonarc_place (p.lower j) (p.upper j))) (p.lower j) (p.upper j) (cond t (f.values j) (nonarc_number (p.lower j) (p.upper j)))) (sym (le-ltb j p.arcs l))
                (nonarc_stands (p.lower j) (p.upper j))

        artificial : (i : ℕ) → i < p.nodes + p.sides → StandsAt (cond (ltb i p.nodes) (old (Artificial i)) (cond (takes_slack (p.kind i) (chosen i)) Lower Basic)) (Some zero_ℚ) None (cond (ltb i p.nodes) (f.values (p.columns + p.sides + i)) zero_ℚ)
        artificial i h = of (less_or_not i p.nodes)
          where
            of : (i < p.nodes) ⊎ (p.nodes ≤ i) → StandsAt (cond (ltb i p.nodes) (old (Artificial i)) (cond (takes_slack (p.kind i) (chosen i)) Lower Basic)) (Some zero_ℚ) None (cond (ltb i p.nodes) (f.values (p.columns + p.sides + i)) zero_ℚ)
            of (inl l) =
                subst (λ t. StandsAt (cond t (old (Artificial i)) (cond (takes_slack (p.kind i) (chosen i)) Lower Basic)) (Some zero_ℚ) None (cond t (f.values (p.columns + p.sides + i)) zero_ℚ)) (sym (lt-ltb i p.nodes l))
                (subst (λ y. StandsAt (old y) (col_lower p y) (col_upper p y) (f.values (p.columns + p.sides + i))) (column_artificial i) (f.are_values.stands (p.columns + p.sides + i) (omega arith)))
            of (inr l) =
                subst (λ t. StandsAt (cond t (old (Artificial i)) (cond (takes_slack (p.kind i) (chosen i)) Lower Basic)) (Some zero_ℚ) None (cond t (f.values (p.columns + p.sides + i)) zero_ℚ)) (sym (le-ltb i p.nodes l))
                (lower_or_basic (takes_slack (p.kind i) (chosen i)))

    -- a column of stage one keeps its number, and another one has no entry in a node row
    kept_or_off : (j : ℕ) → j < p.columns + p.sides + (p.nodes + p.sides) → (number_in_second p f.values (col_at p j) ≡ f.values j) ⊎ ((old (col_at p j) ≢ Basic) × ((i : ℕ) → i < p.nodes → entry_of p before (col_at p j) i ≡ zero_ℚ))
    unfolding number_in_second
    kept_or_off j h = of (column_cases j h)
      where
        given : j < p.columns → (j < p.arcs) ⊎ (p.arcs ≤ j) → (number_in_second p f.values (col_at p j) ≡ f.values j) ⊎ ((old (col_at p j) ≢ Basic) × ((i : ℕ) → i < p.nodes → entry_of p before (col_at p j) i ≡ zero_ℚ))
        given a (inl l) = inl (ap (number_in_second p f.values) (column_given j a) ∙ yes_less j p.arcs _ _ l)
        given a (inr l) = inr ((λ b. nonarcs j l (sym (ap old (column_given j a)) ∙ b)), λ i m. ap (λ y. entry_of p before y i) (column_given j a) ∙ ok.nonarcs_off j i l m)

        artificial : (i : ℕ) → j ≡ p.columns + p.sides + i → (i < p.nodes) ⊎ (p.nodes ≤ i) → (number_in_second p f.values (col_at p j) ≡ f.values j) ⊎ ((old (col_at p j) ≢ Basic) × ((i : ℕ) → i < p.nodes → entry_of p before (col_at p j) i ≡ zero_ℚ))
        artificial i e (inl l) = inl (ap (number_in_second p f.values) (ap (λ y. col_at p y) e ∙ column_artificial i) ∙ (yes_less i p.nodes _ _ l ∙ ap f.values (sym e)))
        artificial i e (inr l) = inr ((λ b. others i l (sym (ap old (ap (λ y. col_at p y) e ∙ column_artificial i)) ∙ b)), λ k m. ap (λ y. entry_of p before y k) (ap (λ y. col_at p y) e ∙ column_artificial i) ∙ (ap (λ y. sign (before i) *ℚ y) (unit_other i k (omega arith)) ∙ mul-zero _))

        of : (j < p.columns) ⊎ (((q : ℕ) × (j ≡ p.columns + q) × (q < p.sides)) ⊎ ((i : ℕ) × (j ≡ p.columns + p.sides + i) × (i < p.nodes + p.sides))) → (number_in_second p f.values (col_at p j) ≡ f.values j) ⊎ ((old (col_at p j) ≢ Basic) × ((i : ℕ) → i < p.nodes → entry_of p before (col_at p j) i ≡ zero_ℚ))
        of (inl a) = given a (less_or_not j p.arcs)
        of (inr (inl (q, e, m))) = inr ((λ b. slacks (p.nodes + q) (sym (ap old (ap (λ y. col_at p y) e ∙ column_slack q m)) ∙ b)), λ i l. ap (λ y. entry_of p before y i) (ap (λ y. col_at p y) e ∙ column_slack q m) ∙ (ap (λ y. slack_sign (p.kind (p.nodes + q)) *ℚ y) (unit_other (p.nodes + q) i (omega arith)) ∙ mul-zero _))
        of (inr (inr (i, e, m))) = artificial i e (less_or_not i p.nodes)

    old_number : (j : ℕ) → j < p.columns + p.sides + (p.nodes + p.sides) → old (col_at p j) ≡ Basic → number_in_second p f.values (col_at p j) ≡ f.values j
    old_number j h b = of (kept_or_off j h)
      where
        of : (number_in_second p f.values (col_at p j) ≡ f.values j) ⊎ ((old (col_at p j) ≢ Basic) × ((i : ℕ) → i < p.nodes → entry_of p before (col_at p j) i ≡ zero_ℚ)) → number_in_second p f.values (col_at p j) ≡ f.values j
        of (inl e) = e
        of (inr n) = absurd (n.0 b)

    off_or_kept : (j : ℕ) → j < p.columns + p.sides + (p.nodes + p.sides) → (number_in_second p f.values (col_at p j) ≡ f.values j) ⊎ ((i : ℕ) → i < p.nodes → entry_of p before (col_at p j) i ≡ zero_ℚ)
    off_or_kept j h = of (kept_or_off j h)
      where
        of : (number_in_second p f.values (col_at p j) ≡ f.values j) ⊎ ((old (col_at p j) ≢ Basic) × ((i : ℕ) → i < p.nodes → entry_of p before (col_at p j) i ≡ zero_ℚ)) → (number_in_second p f.values (col_at p j) ≡ f.values j) ⊎ ((i : ℕ) → i < p.nodes → entry_of p before (col_at p j) i ≡ zero_ℚ)
        of (inl e) = inl e
        of (inr n) = inr n.1

    fits_two : IsWidened (stage_in p StageOne before) (two negative) (places p old) new f p.sides (own_column p chosen) (own_sign p negative chosen) z
    unfolding new z takes rest_in_second number_in_second
    fits_two = record {
      rows = refl;
      columns = refl;
      entries = λ j i h m. entry_same (col_at p j) i m;
      rights = λ i h. refl;
      new_order = λ q h. yes_less q p.sides _ _ h ∙ omega arith;
      old_order = λ i h. past_sides (p.nodes + p.sides - p.sides) p.sides i ∙ sym (no_sides_order (stage_in p StageOne before) refl i);
      kept = λ j h b. (place_kept (col_at p j) b, refl, refl);
      own_there = own_within;
      own_distinct = distinct;
      own_new = λ q h. at_own q h (λ x y. old x ≢ Basic) (λ e. slacks (p.nodes + q)) (λ e. others (p.nodes + q) (omega arith));
      own_basic = λ q h. at_own q h (λ x y. second_place p old chosen x ≡ Basic) (λ e. (slack_of (p.kind (p.nodes + q)) (chosen (p.nodes + q)) e).0) (λ e. not_less (p.nodes + q) p.nodes _ _ (omega arith) ∙ ap (λ y. cond y Lower Basic) e);
      own_entry = λ q i h m. at_own q h (λ x y. entry_of p negative x i ≡ y *ℚ delta (p.nodes + q) i) (λ e. refl) (λ e. refl);
      own_lower = λ q h. at_own q h (λ x y. col_lower p x ≡ Some zero_ℚ) (λ e. refl) (λ e. refl);
      own_upper = λ q h. at_own q h (λ x y. col_upper p x ≡ None) (λ e. refl) (λ e. refl);
      only = only_these;
      stands = stands_two;
      own_zero = λ q h. at_own q h (λ x y. number_in_second p f.values x ≡ zero_ℚ) (λ e. refl) (λ e. not_less (p.nodes + q) p.nodes _ _ (omega arith));
      old_values = old_number;
      moved_off = off_or_kept;
      square = λ q h. at_own q h (λ x y. y *ℚ y ≡ one_ℚ) (λ e. (slack_of (p.kind (p.nodes + q)) (chosen (p.nodes + q)) e).1) (λ e. sign_square (negative (p.nodes + q)));
      signs = signs;
    }

    -- It is lexicographically feasible.
    pub second_feasible : IsLexFeasible (two negative) (places p (second_place p old chosen))
    unfolding new
    second_feasible = widened_feasible (stage_in p StageOne before) (two negative) (places p old) new f p.sides (own_column p chosen) (own_sign p negative chosen) z fits_two
