-- A state that has ended INFEASIBLE: the duals of phase one, with 0 for absent rows, are a valid Farkas certificate, whose gap is what the artificials add up to.
use Rattle.std.proofs.Common.{◌≡◌, ◌≢◌, ℕ, ◌+◌, ◌-◌, ◌<◌, ◌≤◌, ◌⊎◌, inl, inr, Bool, [], ◌∷◌, List, length, refl, sym, ap, ap₂, ◌∙◌, subst, subst₂, arith, Option, Some, None}
use Rattle.nf_num.specs.Rational.{ℚ, zero_ℚ, one_ℚ, ◌+ℚ◌, ◌*ℚ◌, ◌-ℚ◌, neg_ℚ, ◌≤ℚ◌, ◌<ℚ◌}
use Rattle.nf_num.specs.Sum.{sum_ℚ}
use Rattle.nf_num.proofs.Laws.{le_refl}
use Rattle.nf_num.proofs.Order.{le_of_eq}
use Rattle.nf_num.proofs.Sums.{sum_le}
use Rattle.nf_num.proofs.Field.{ring, codes}
use Rattle.nf_num.proofs.Linear.{linear_le, linear_lt, le, lt, eq, qe}
use Rattle.nf_num.proofs.Linear as linear
use Rattle.nf_model.specs.Certificate.{IsSigned, IsSignedByBounds, combined}
use Rattle.nf_model.specs.Farkas.{combined_right, IsGreatest, IsGap, IsValidFarkas}
use Rattle.nf_model.specs.Lists.{list_of}
use Rattle.nf_model.specs.Problem.{AreInOrder, IsProblem}
use Rattle.nf_model.specs.Program.{at, row, LinearProgram, column, lower_of, upper_of, IsAtLeast, IsAtMost}
use Rattle.nf_model.specs.declared.RowKind.{RowKind}
use Rattle.nf_model.specs.declared.RowKind.TheVariants.{Eq, Le, Ge}
use Rattle.nf_simplex.specs.Columns.{Given, col_lower, col_upper, slack_sign, entry_of, cost_one, ones}
use Rattle.nf_simplex.specs.Ends.{HasEndedInfeasible}
use Rattle.nf_simplex.specs.Layout.{Layout, IsLayout, layout_of}
use Rattle.nf_simplex.specs.Numbers.{StandsAt, AreDuals, reduced}
use Rattle.nf_simplex.specs.Place.{Place, Lower, Upper, Zero, Absent, Basic}
use Rattle.nf_simplex.specs.Stage.{Stage}
use Rattle.nf_simplex.specs.StageOf.{StageNumber, StageOne, StageTwo, rows_in, stage_in, IsPresent}
use Rattle.nf_simplex.specs.States.{IsState}
use Rattle.nf_model.proofs.Duality.{best_column}
use Rattle.nf_model.proofs.Lists.{length-list_of, at-list_of}
use Rattle.nf_simplex.proofs.Basis.{sum_through}
use Rattle.nf_simplex.proofs.FieldLaws.{mul_comm, add-zero}
use Rattle.nf_simplex.proofs.Fits.{layout_fits}
use Rattle.nf_simplex.proofs.Optimal.{signed_from_slack}
use Rattle.nf_simplex.proofs.Orders.{yes_less, not_less}
use Rattle.nf_simplex.proofs.Padded.{padded, padded_sum, over_list, combined_list, right_list, rows_are}
use Rattle.nf_simplex.proofs.Rows.{slack_at, artificial_at, split_columns, ones_total, reduced_given, reduced_slack}
use Rattle.nf_simplex.proofs.StageOf.{column_given, column_slack, column_artificial}
use Rattle.nf_simplex.proofs.Sum.{sum_ext, sum_zero}
use Rattle.nf_simplex.proofs.Terms.{mul-zero, zero-mul}
use Rattle.nf_simplex.proofs.Values.{values_of_state, slack_present, given_within}
use Rattle.nf_simplex.proofs.Within.{signed_by_place}

-- a column that is there keeps its number, and an absent one takes a number within its bounds
abbrev pub some_bound : Option ℚ → Option ℚ → ℚ
some_bound (Some l) u = l
some_bound None (Some u) = u
some_bound None None = zero_ℚ

abbrev pub stand_in : Place → Option ℚ → Option ℚ → ℚ → ℚ
stand_in Lower l u x = x
stand_in Upper l u x = x
stand_in Zero l u x = x
stand_in Basic l u x = x
stand_in Absent l u x = some_bound l u

pub some_within : (l u : Option ℚ) → AreInOrder l u → IsAtLeast l (some_bound l u) × IsAtMost u (some_bound l u)
some_within (Some l) u o = (le_refl l, o)
some_within None (Some u) o = (tt, le_refl u)
some_within None None o = (tt, tt)

stand_in_within : (a : Place) (l u : Option ℚ) (x : ℚ) → AreInOrder l u → (a ≢ Absent → IsAtLeast l x × IsAtMost u x) → IsAtLeast l (stand_in a l u x) × IsAtMost u (stand_in a l u x)
stand_in_within Lower l u x o h = h (λ e. cc)
stand_in_within Upper l u x o h = h (λ e. cc)
stand_in_within Zero l u x o h = h (λ e. cc)
stand_in_within Basic l u x o h = h (λ e. cc)
stand_in_within Absent l u x o h = some_within l u o

stand_in_same : (a : Place) (l u : Option ℚ) (x : ℚ) → a ≢ Absent → stand_in a l u x ≡ x
stand_in_same Lower l u x na = refl
stand_in_same Upper l u x na = refl
stand_in_same Zero l u x na = refl
stand_in_same Basic l u x na = refl
stand_in_same Absent l u x na = absurd (na refl)

-- a column with the lower bound 0 alone stands at 0, or has the reduced cost 0
one_is_zero : (a : Place) (x d : ℚ) → StandsAt a (Some zero_ℚ) None x → (a ≡ Basic → d ≡ zero_ℚ) → x *ℚ d ≡ zero_ℚ
one_is_zero Lower x d h b = ap (λ z. z *ℚ d) h ∙ zero-mul d
one_is_zero Upper x d h b = absurd h
one_is_zero Zero x d h b = absurd h
one_is_zero Absent x d h b = ap (λ z. z *ℚ d) h ∙ zero-mul d
one_is_zero Basic x d h b = ap (λ z. x *ℚ z) (b refl) ∙ mul-zero x

less_or : (j k : ℕ) → (j < k) ⊎ (k ≤ j)
less_or j k = grind arith

signed_zero : (k : RowKind) → IsSigned k zero_ℚ
signed_zero Eq = tt
signed_zero Le = le_refl zero_ℚ
signed_zero Ge = le_refl zero_ℚ

pub rows_within : (p : Layout) (n : StageNumber) → rows_in p n ≤ p.nodes + p.sides
rows_within p StageOne = omega arith
rows_within p StageTwo = omega arith

module _ (p : Layout) (ok : IsLayout p) (n : StageNumber) (negative : ℕ → Bool) (s : ℕ → Place) (st : IsState p n negative s)
    (y : ℕ → ℚ) (d1 : AreDuals (stage_in p n negative) s (ones p) y) where
  abbrev S : Stage
  S = stage_in p n negative

  abbrev x : ℕ → ℚ
  x = st.feasible.values

  -- the combination of the present rows by y
  abbrev pub weight : ℕ → ℚ
  weight j = sum_ℚ (rows_in p n) (λ i. y i *ℚ p.entry j i)

  -- A column that the stage lacks has no entry in the stage's rows.
  pub there_or_zero : (j : ℕ) → j < p.columns → (s j ≢ Absent) ⊎ (weight j ≡ zero_ℚ)
  there_or_zero j h = by n (λ g. st.present j (omega arith) (subst (IsPresent p n) (sym (column_given p j h)) g)) refl
    where
      by : (k : StageNumber) → (IsPresent p n (Given j) → s j ≢ Absent) → n ≡ k → (s j ≢ Absent) ⊎ (weight j ≡ zero_ℚ)
      by StageTwo here e = inl (here (subst (λ k. IsPresent p k (Given j)) (sym e) h))
      by StageOne here e = of (less_or j p.arcs)
        where
          of : (j < p.arcs) ⊎ (p.arcs ≤ j) → (s j ≢ Absent) ⊎ (weight j ≡ zero_ℚ)
          of (inl l) = inl (here (subst (λ k. IsPresent p k (Given j)) (sym e) l))
          of (inr l) = inr (subst (λ k. sum_ℚ (rows_in p k) (λ i. y i *ℚ p.entry j i) ≡ zero_ℚ) (sym e) (sum_zero p.nodes _ (λ i m. ap (λ z. y i *ℚ z) (ok.nonarcs_off j i l m) ∙ mul-zero (y i))))

  -- what a column adds to the combined right sides
  part : ℕ → ℚ
  part j = x j *ℚ sum_ℚ (rows_in p n) (λ i. S.entry j i *ℚ y i)

  given_part : (j : ℕ) → j < p.columns → part j ≡ weight j *ℚ x j
  unfolding part
  given_part j h = ap (λ z. x j *ℚ z) (sum_ext (rows_in p n) _ _ (λ i m. mul_comm (S.entry j i) (y i) ∙ ap (λ c. y i *ℚ entry_of p negative c i) (column_given p j h))) ∙ mul_comm (x j) (weight j)

  other_part : (j : ℕ) → j < S.columns → S.lower j ≡ Some zero_ℚ → S.upper j ≡ None → part j ≡ ones p j *ℚ x j
  unfolding part reduced
  other_part j h low high =
      ap (λ z. x j *ℚ z) (sum_ext (rows_in p n) _ _ (λ i m. mul_comm (S.entry j i) (y i)))
      ∙ (turn (x j) (ones p j) (sum_ℚ (rows_in p n) (λ i. y i *ℚ S.entry j i))
      ∙ (ap (λ z. ones p j *ℚ x j +ℚ neg_ℚ z) (one_is_zero (s j) (x j) (reduced S (ones p) y j) (subst₂ (λ l u. StandsAt (s j) l u (x j)) low high (st.feasible.are_values.stands j h)) (λ b. d1 j h b)) ∙ (ring (ones p j *ℚ x j ∷ []) (search codes depth 8) refl)))
    where
      turn : (a c t : ℚ) → a *ℚ t ≡ c *ℚ a +ℚ neg_ℚ (a *ℚ (c +ℚ neg_ℚ t))
      turn a c t = ring (a ∷ c ∷ t ∷ []) (search codes depth 8) refl

  -- The combined right sides are the combined rows at the values and what the artificials add up to.
  pub right_is : sum_ℚ (rows_in p n) (λ i. y i *ℚ p.right i) ≡ sum_ℚ p.columns (λ j. weight j *ℚ x j) +ℚ sum_ℚ S.columns (λ j. ones p j *ℚ x j)
  unfolding part
  right_is =
      sum_ext (rows_in p n) (λ i. y i *ℚ p.right i) (λ i. sum_ℚ S.columns (λ j. x j *ℚ S.entry j i) *ℚ y i) (λ i h. mul_comm (y i) (p.right i) ∙ ap (λ z. z *ℚ y i) (sym (st.feasible.are_values.equations i h)))
      ∙ (sym (sum_through S.columns (rows_in p n) x y S.entry)
      ∙ (split_columns p part
      ∙ (ap₂ (λ a b. a +ℚ b) (ap₂ (λ a b. a +ℚ b) (sum_ext p.columns _ _ given_part) (sum_zero p.sides _ (λ q h. other_part (slack_at p q) (omega arith) (ap (col_lower p) (column_slack p q h)) (ap (col_upper p) (column_slack p q h)) ∙ (ap (λ c. cost_one c *ℚ x (slack_at p q)) (column_slack p q h) ∙ zero-mul _))))
      (sum_ext (p.nodes + p.sides) _ (λ r. x (artificial_at p r)) (λ r h. other_part (artificial_at p r) (omega arith) (ap (col_lower p) (column_artificial p r)) (ap (col_upper p) (column_artificial p r)) ∙ (ap (λ c. cost_one c *ℚ x (artificial_at p r)) (column_artificial p r) ∙ one (x (artificial_at p r)))))
      ∙ ap₂ (λ a b. a +ℚ b) (add-zero (sum_ℚ p.columns (λ j. weight j *ℚ x j))) (sym (ones_total p x)))))
    where
      one : (a : ℚ) → one_ℚ *ℚ a ≡ a
      one a = ring (a ∷ []) (search codes depth 8) refl

  module _ (ended : HasEndedInfeasible S s x (ones p) y) where
    fits : (j : ℕ) → j < S.columns → j < S.entering → s j ≢ Absent → IsSignedByBounds (reduced S (ones p) y j) (S.lower j) (S.upper j) (x j)
    fits j h e a =
        signed_by_place (s j) (S.lower j) (S.upper j) (x j) (reduced S (ones p) y j) (st.feasible.are_values.stands j h) a (λ b. d1 j h b)
        (λ differ wrong. ended.0 j (record { within = h; priced = e; bounds_differ = differ }, wrong))

    given_fits : (j : ℕ) → j < p.columns → s j ≢ Absent → IsSignedByBounds (zero_ℚ +ℚ neg_ℚ (weight j)) (p.lower j) (p.upper j) (x j)
    given_fits j h a =
        subst (λ d. IsSignedByBounds d (p.lower j) (p.upper j) (x j))
        (reduced_given p n negative (ones p) y j h ∙ ap (λ c. cost_one c +ℚ neg_ℚ (weight j)) (column_given p j h))
        (subst (λ c. IsSignedByBounds (reduced S (ones p) y j) (col_lower p c) (col_upper p c) (x j)) (column_given p j h) (fits j (omega arith) (omega arith) a))

    -- Each column's multiple is greatest at the state's value.
    pub term_le : (j : ℕ) → j < p.columns → (z : ℚ) → IsAtLeast (p.lower j) z → IsAtMost (p.upper j) z → weight j *ℚ z ≤ℚ weight j *ℚ x j
    term_le j h z low high = of (there_or_zero j h)
      where
        turned : (a b c : ℚ) → (zero_ℚ +ℚ neg_ℚ a) *ℚ b ≤ℚ (zero_ℚ +ℚ neg_ℚ a) *ℚ c → a *ℚ c ≤ℚ a *ℚ b
        turned a b c k = linear_le (a ∷ b ∷ c ∷ []) (le k ∷ []) (search linear.codes depth 12) tt

        of : (s j ≢ Absent) ⊎ (weight j ≡ zero_ℚ) → weight j *ℚ z ≤ℚ weight j *ℚ x j
        of (inl a) = let f = given_fits j h a in turned (weight j) (x j) z (best_column (p.lower j) (p.upper j) (zero_ℚ +ℚ neg_ℚ (weight j)) (x j) z f.0 f.1 low high)
        of (inr e) = le_of_eq _ _ (ap (λ a. a *ℚ z) e ∙ (zero-mul z ∙ sym (ap (λ a. a *ℚ x j) e ∙ zero-mul (x j))))

    pub signs : (i : ℕ) → i < p.nodes + p.sides → IsSigned (p.kind i) (padded (rows_in p n) y i)
    signs i h = of (less_or i (rows_in p n))
      where
        side : (q : ℕ) → p.nodes + q < rows_in p n → q < p.sides → IsSigned (p.kind (p.nodes + q)) (y (p.nodes + q))
        side q m l =
            signed_from_slack (p.kind (p.nodes + q)) (y (p.nodes + q)) (x (slack_at p q)) (λ k.
            subst (λ d. IsSignedByBounds d (Some zero_ℚ) None (x (slack_at p q)))
            (reduced_slack p n negative (ones p) y q l m ∙ ap (λ c. cost_one c +ℚ neg_ℚ (slack_sign (p.kind (p.nodes + q)) *ℚ y (p.nodes + q))) (column_slack p q l))
            (subst (λ c. IsSignedByBounds (reduced S (ones p) y (slack_at p q)) (col_lower p c) (col_upper p c) (x (slack_at p q))) (column_slack p q l)
            (fits (slack_at p q) (omega arith) (omega arith) (st.present (slack_at p q) (omega arith) (subst (IsPresent p n) (sym (column_slack p q l)) (slack_present p n q m k))))))

        at_row : i < rows_in p n → (i < p.nodes) ⊎ (p.nodes ≤ i) → IsSigned (p.kind i) (y i)
        at_row m (inl l) = subst (λ k. IsSigned k (y i)) (sym (ok.node_kind i l)) tt
        at_row m (inr l) = let e : p.nodes + (i - p.nodes) ≡ i = omega arith in subst (λ k. IsSigned (p.kind k) (y k)) e (side (i - p.nodes) (subst (λ k. k < rows_in p n) (sym e) m) (omega arith))

        of : (i < rows_in p n) ⊎ (rows_in p n ≤ i) → IsSigned (p.kind i) (padded (rows_in p n) y i)
        of (inl l) = subst (IsSigned (p.kind i)) (sym (yes_less i (rows_in p n) (y i) zero_ℚ l)) (at_row l (less_or i p.nodes))
        of (inr l) = subst (IsSigned (p.kind i)) (sym (not_less i (rows_in p n) (y i) zero_ℚ l)) (signed_zero (p.kind i))

-- the duals of a Farkas certificate: 0 for absent rows
abbrev pub farkas_duals : LinearProgram → StageNumber → (ℕ → ℚ) → List ℚ
farkas_duals P n y = list_of (length P.rows) (padded (rows_in (layout_of P) n) y)

-- The infeasible end: the duals of phase one, with 0 for absent rows, are a valid certificate with this gap.
pub infeasible_is_farkas : (P : LinearProgram) → IsProblem P → (n : StageNumber) (negative : ℕ → Bool) (s : ℕ → Place) (st : IsState (layout_of P) n negative s)
    → (y : ℕ → ℚ) → AreDuals (stage_in (layout_of P) n negative) s (ones (layout_of P)) y → HasEndedInfeasible (stage_in (layout_of P) n negative) s st.feasible.values (ones (layout_of P)) y
    → IsValidFarkas P (farkas_duals P n y) × IsGap P (farkas_duals P n y) (sum_ℚ (stage_in (layout_of P) n negative).columns (λ j. ones (layout_of P) j *ℚ st.feasible.values j))
infeasible_is_farkas P ok n negative s st y d1 ended = (record { one_each = length-list_of (length P.rows) (padded (rows_in p n) y); signed = signed; beyond = (value, greatest, beyond) }, (value, greatest, gap))
  where
    p : Layout
    p = layout_of P

    x : ℕ → ℚ
    x = st.feasible.values

    total : ℚ
    total = sum_ℚ (stage_in (layout_of P) n negative).columns (λ j. ones p j *ℚ x j)

    w : ℕ → ℚ
    w j = weight p (layout_fits P ok) n negative s st y d1 j

    value : ℚ
    value = sum_ℚ (length P.columns) (λ j. w j *ℚ x j)

    fits_rows : rows_in p n ≤ length P.rows
    fits_rows = subst (λ k. rows_in p n ≤ k) (rows_are P ok) (rows_within p n)

    combined_is : (j : ℕ) → combined P (farkas_duals P n y) j ≡ w j
    combined_is j = combined_list P (padded (rows_in p n) y) j ∙ padded_sum (rows_in p n) (length P.rows) y (λ i. p.entry j i) fits_rows

    right_is' : combined_right P (farkas_duals P n y) ≡ value +ℚ total
    right_is' = right_list P (padded (rows_in p n) y) ∙ (padded_sum (rows_in p n) (length P.rows) y p.right fits_rows ∙ right_is p (layout_fits P ok) n negative s st y d1)

    signed : (i : ℕ) → i < length P.rows → IsSigned (row P i).kind (at (farkas_duals P n y) i)
    signed i h = subst (IsSigned (row P i).kind) (sym (at-list_of (length P.rows) (padded (rows_in p n) y) i h)) (signs p (layout_fits P ok) n negative s st y d1 ended i (subst (λ k. i < k) (sym (rows_are P ok)) h))

    z : ℕ → ℚ
    z j = stand_in (s j) (p.lower j) (p.upper j) (x j)

    same : (j : ℕ) → j < length P.columns → combined P (farkas_duals P n y) j *ℚ z j ≡ w j *ℚ x j
    same j h = ap (λ a. a *ℚ z j) (combined_is j) ∙ of (there_or_zero p (layout_fits P ok) n negative s st y d1 j h)
      where
        of : (s j ≢ Absent) ⊎ (w j ≡ zero_ℚ) → w j *ℚ z j ≡ w j *ℚ x j
        of (inl a) = ap (λ b. w j *ℚ b) (stand_in_same (s j) (p.lower j) (p.upper j) (x j) a)
        of (inr e) = ap (λ a. a *ℚ z j) e ∙ (zero-mul (z j) ∙ sym (ap (λ a. a *ℚ x j) e ∙ zero-mul (x j)))

    greatest : IsGreatest P (combined P (farkas_duals P n y)) value
    greatest = record {
      bound = λ v h. sum_le (length P.columns) _ _ (λ j b. subst (λ a. a *ℚ at v j ≤ℚ w j *ℚ x j) (sym (combined_is j)) (term_le p (layout_fits P ok) n negative s st y d1 ended j b (at v j) (h.in_bounds j b).0 (h.in_bounds j b).1));
      reached = (
        list_of (length P.columns) z,
        record {
          one_each = length-list_of (length P.columns) z;
          in_bounds = λ j b. subst (λ v. IsAtLeast (lower_of (column P j)) v × IsAtMost (upper_of (column P j)) v) (sym (at-list_of (length P.columns) z j b)) (stand_in_within (s j) (p.lower j) (p.upper j) (x j) ((layout_fits P ok).ordered j b) (given_within p (layout_fits P ok) n negative s x (values_of_state p (layout_fits P ok) n negative s st) j b));
        },
        over_list P (combined P (farkas_duals P n y)) z ∙ sum_ext (length P.columns) _ _ same,
      );
    }

    apart : (a b c : ℚ) → c ≡ a +ℚ b → zero_ℚ <ℚ b → a <ℚ c
    apart a b c e h = linear_lt (a ∷ b ∷ c ∷ []) (eq e ∷ qe e ∷ lt h ∷ []) (search linear.codes depth 12) tt

    beyond : value <ℚ combined_right P (farkas_duals P n y)
    beyond = apart value total (combined_right P (farkas_duals P n y)) right_is' ended.1

    gap : total ≡ combined_right P (farkas_duals P n y) -ℚ value
    gap = sym (ap (λ a. a -ℚ value) right_is' ∙ less value total)
      where
        less : (a b : ℚ) → (a +ℚ b) -ℚ a ≡ b
        less a b = ring (a ∷ b ∷ []) (search codes depth 8) refl
