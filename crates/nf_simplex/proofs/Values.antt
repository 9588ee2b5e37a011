-- The values of a state in which the artificials add up to 0, with no stage two to come, are a feasible list of the problem.
use Rattle.std.proofs.Common.{◌≡◌, ◌≢◌, ℕ, ◌+◌, ◌-◌, ◌<◌, ◌≤◌, ◌⊎◌, inl, inr, Bool, [], ◌∷◌, refl, sym, ap, ◌∙◌, subst, arith, Some, None}
use Rattle.nf_num.specs.Rational.{ℚ, zero_ℚ, ◌+ℚ◌, ◌*ℚ◌, ◌≤ℚ◌}
use Rattle.nf_num.specs.Sum.{sum_ℚ}
use Rattle.nf_num.proofs.Sums.{sum_zero_each}
use Rattle.nf_num.proofs.Order.{le_of_eq}
use Rattle.nf_num.proofs.Field.{ring, codes}
use Rattle.nf_num.proofs.Linear.{linear_le, le, eq, qe}
use Rattle.nf_num.proofs.Linear as linear
use Rattle.nf_model.specs.Problem.{AreInOrder}
use Rattle.nf_model.specs.Program.{IsAtLeast, IsAtMost, Stands}
use Rattle.nf_model.specs.declared.RowKind.{RowKind}
use Rattle.nf_model.specs.declared.RowKind.TheVariants.{Eq, Le, Ge}
use Rattle.nf_simplex.specs.Columns.{Given, Slack, col_lower, col_upper, slack_sign, sign, ones}
use Rattle.nf_simplex.specs.Layout.{Layout, IsLayout}
use Rattle.nf_simplex.specs.Numbers.{StandsAt}
use Rattle.nf_simplex.specs.Place.{Place, Absent}
use Rattle.nf_simplex.specs.Stage.{Stage}
use Rattle.nf_simplex.specs.StageOf.{StageNumber, StageOne, StageTwo, rows_in, stage_in, IsPresent, IsLast}
use Rattle.nf_simplex.specs.States.{IsState, HasValues}
use Rattle.nf_simplex.proofs.Rows.{slack_at, artificial_at, given_sum, ones_total, row_parts}
use Rattle.nf_simplex.proofs.StageOf.{column_given, column_slack, column_artificial, by_columns}
use Rattle.nf_simplex.proofs.Within.{values_within}

pub absent_or_not : (a : Place) → (a ≡ Absent) ⊎ (a ≢ Absent)
absent_or_not Place.Lower = inr (λ e. cc)
absent_or_not Place.Upper = inr (λ e. cc)
absent_or_not Place.Zero = inr (λ e. cc)
absent_or_not Place.Absent = inl refl
absent_or_not Place.Basic = inr (λ e. cc)

pub stands_from : (k : RowKind) (g w b : ℚ) → g +ℚ slack_sign k *ℚ w ≡ b → (k ≢ Eq → zero_ℚ ≤ℚ w) → Stands k g b
stands_from Eq g w b e h = (let q : g ≡ g +ℚ zero_ℚ *ℚ w = ring (g ∷ w ∷ []) (search codes depth 8) refl in q) ∙ e
stands_from Le g w b e h = linear_le (g ∷ w ∷ b ∷ []) (eq e ∷ qe e ∷ le (h (λ q. cc)) ∷ []) (search linear.codes depth 12) tt
stands_from Ge g w b e h = linear_le (g ∷ w ∷ b ∷ []) (eq e ∷ qe e ∷ le (h (λ q. cc)) ∷ []) (search linear.codes depth 12) tt

no_sides : (p : Layout) → IsLast p StageOne → p.sides ≡ 0
no_sides p last = of (zero_or p.sides)
  where
    zero_or : (k : ℕ) → (k ≡ 0) ⊎ (0 < k)
    zero_or k = grind arith

    of : (p.sides ≡ 0) ⊎ (0 < p.sides) → p.sides ≡ 0
    of (inl e) = e
    of (inr h) = absurd (last (inl h))

-- With no stage two to come, all rows and all given columns are there.
pub all_rows : (p : Layout) (n : StageNumber) → IsLast p n → rows_in p n ≡ p.nodes + p.sides
all_rows p StageTwo last = refl
all_rows p StageOne last = let e = no_sides p last in omega arith

pub all_given : (p : Layout) (n : StageNumber) → IsLast p n → (j : ℕ) → j < p.columns → IsPresent p n (Given j)
all_given p StageTwo last j h = h
all_given p StageOne last j h = of (less_or j p.arcs)
  where
    less_or : (j k : ℕ) → (j < k) ⊎ (k ≤ j)
    less_or j k = grind arith

    of : (j < p.arcs) ⊎ (p.arcs ≤ j) → j < p.arcs
    of (inl l) = l
    of (inr l) = absurd (last (inr (omega arith)))

-- a slack is there where its row is there and is no equation
pub slack_present : (p : Layout) (n : StageNumber) (q : ℕ) → p.nodes + q < rows_in p n → p.kind (p.nodes + q) ≢ Eq → IsPresent p n (Slack (p.nodes + q))
slack_present p StageOne q h k = absurd (omega arith)
slack_present p StageTwo q h k = (omega arith, h, k)

-- A state's values are within their bounds.
pub values_of_state : (p : Layout) → IsLayout p → (n : StageNumber) (negative : ℕ → Bool) (s : ℕ → Place) (st : IsState p n negative s) → HasValues p n negative s st.feasible.values
values_of_state p ok n negative s st = record {
  present = st.present;
  absent = st.absent;
  are_values = st.feasible.are_values;
  within = λ j h a. values_within (stage_in p n negative) s st.feasible j h a (by_columns p (λ c. AreInOrder (col_lower p c) (col_upper p c)) ok.ordered (λ q l. tt) (λ r l. tt) j h);
}

module _ (p : Layout) (ok : IsLayout p) (n : StageNumber) (negative : ℕ → Bool) (s : ℕ → Place) (x : ℕ → ℚ) (hv : HasValues p n negative s x) where
  abbrev pub S : Stage
  S = stage_in p n negative

  pub given_there : IsLast p n → (j : ℕ) → j < p.columns → s j ≢ Absent
  given_there last j h = hv.present j (omega arith) (subst (IsPresent p n) (sym (column_given p j h)) (all_given p n last j h))

  -- a number that is 0 in an absent column
  pub absent_zero : (j : ℕ) → j < p.columns + p.sides + (p.nodes + p.sides) → s j ≡ Absent → x j ≡ zero_ℚ
  absent_zero j h a = subst (λ y. StandsAt y (S.lower j) (S.upper j) (x j)) a (hv.are_values.stands j h)

  -- a column with the lower bound 0 and no upper bound
  nonneg : (j : ℕ) → j < p.columns + p.sides + (p.nodes + p.sides) → S.lower j ≡ Some zero_ℚ → S.upper j ≡ None → zero_ℚ ≤ℚ x j
  nonneg j h low high = of (absent_or_not (s j))
    where
      of : (s j ≡ Absent) ⊎ (s j ≢ Absent) → zero_ℚ ≤ℚ x j
      of (inl a) = le_of_eq zero_ℚ (x j) (sym (absent_zero j h a))
      of (inr a) = subst (λ l. IsAtLeast l (x j)) low (hv.within j h a).0

  pub slack_nonneg : (q : ℕ) → q < p.sides → zero_ℚ ≤ℚ x (slack_at p q)
  slack_nonneg q h = nonneg (slack_at p q) (omega arith) (ap (col_lower p) (column_slack p q h)) (ap (col_upper p) (column_slack p q h))

  pub artificial_nonneg : (r : ℕ) → r < p.nodes + p.sides → zero_ℚ ≤ℚ x (artificial_at p r)
  artificial_nonneg r h = nonneg (artificial_at p r) (omega arith) (ap (col_lower p) (column_artificial p r)) (ap (col_upper p) (column_artificial p r))

  pub artificial_zero : sum_ℚ S.columns (λ j. ones p j *ℚ x j) ≡ zero_ℚ → (r : ℕ) → r < p.nodes + p.sides → x (artificial_at p r) ≡ zero_ℚ
  artificial_zero e = sum_zero_each (p.nodes + p.sides) (λ r. x (artificial_at p r)) artificial_nonneg (sym (ones_total p x) ∙ e)

  -- a row and its slack
  pub row_with_slack : IsLast p n → sum_ℚ S.columns (λ j. ones p j *ℚ x j) ≡ zero_ℚ → (i : ℕ) → i < p.nodes + p.sides
      → given_sum p x i +ℚ slack_sign (p.kind i) *ℚ x (slack_at p (i - p.nodes)) ≡ p.right i
  row_with_slack last e i h =
      added (given_sum p x i +ℚ slack_sign (p.kind i) *ℚ x (slack_at p (i - p.nodes))) (sign (negative i))
      ∙ (ap (λ z. given_sum p x i +ℚ slack_sign (p.kind i) *ℚ x (slack_at p (i - p.nodes)) +ℚ sign (negative i) *ℚ z) (sym (artificial_zero e i h))
      ∙ (sym (row_parts p ok negative x i h) ∙ hv.are_values.equations i (subst (λ m. i < m) (sym (all_rows p n last)) h)))
    where
      added : (a b : ℚ) → a ≡ a +ℚ b *ℚ zero_ℚ
      added a b = ring (a ∷ b ∷ []) (search codes depth 8) refl

  slack_side : (i : ℕ) → i < p.nodes + p.sides → p.kind i ≢ Eq → zero_ℚ ≤ℚ x (slack_at p (i - p.nodes))
  slack_side i h k = of (less_or i p.nodes)
    where
      less_or : (j k : ℕ) → (j < k) ⊎ (k ≤ j)
      less_or j k = grind arith

      of : (i < p.nodes) ⊎ (p.nodes ≤ i) → zero_ℚ ≤ℚ x (slack_at p (i - p.nodes))
      of (inl l) = absurd (k (ok.node_kind i l))
      of (inr l) = slack_nonneg (i - p.nodes) (omega arith)

  pub row_stands : IsLast p n → sum_ℚ S.columns (λ j. ones p j *ℚ x j) ≡ zero_ℚ → (i : ℕ) → i < p.nodes + p.sides → Stands (p.kind i) (given_sum p x i) (p.right i)
  row_stands last e i h = stands_from (p.kind i) (given_sum p x i) (x (slack_at p (i - p.nodes))) (p.right i) (row_with_slack last e i h) (slack_side i h)

  -- the bounds of a given column
  pub given_within : (j : ℕ) → j < p.columns → s j ≢ Absent → IsAtLeast (p.lower j) (x j) × IsAtMost (p.upper j) (x j)
  given_within j h a = subst (λ c. IsAtLeast (col_lower p c) (x j) × IsAtMost (col_upper p c) (x j)) (column_given p j h) (hv.within j (omega arith) a)
