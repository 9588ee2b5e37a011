-- The factor of the phase-one duals, found column by column, and the printed duals, row by row.
use Rattle.std.proofs.Common.{Ordering, Equal, Greater, true, ◌≡◌, ◌≢◌, ◌⊎◌, inl, inr, ⊎_elim, ℕ, ◌<◌, ◌≤◌, ◌+◌, List, length, refl, sym, ◌∙◌, ap, subst, subst₂, arith}
use Rattle.nf_num.specs.Rational.{ℚ, zero_ℚ, ◌+ℚ◌, ◌*ℚ◌, neg_ℚ, inv_ℚ, ◌<ℚ◌}
use Rattle.nf_num.proofs.Order.{lt_irrefl}
use Rattle.nf_model.specs.Program.{LinearProgram, HoldsBelow, at}
use Rattle.nf_frac.specs.declared.Passed.{Passed}
use Rattle.nf_frac.specs.declared.Op.TheVariants.{Div}
use Rattle.nf_frac.specs.Compared.{IsOrder}
use Rattle.nf_frac.specs.Range.{Passes}
use Rattle.nf_simplex.specs.Columns.{ones, twos}
use Rattle.nf_simplex.proofs.FieldLaws.{less_trans}
use Rattle.nf_simplex.specs.Ends.{IsFactor}
use Rattle.nf_simplex.specs.Layout.{layout_of}
use Rattle.nf_simplex.specs.Numbers.{reduced}
use Rattle.nf_simplex.specs.Place.{Place}
use Rattle.nf_simplex.specs.Stage.{Stage}
use Rattle.nf_simplex.specs.Moves.{Prices, HasEndedOptimalIn}
use Rattle.nf_simplex.specs.Standing.{Standing, PhaseOne, PhaseTwo, place_at, rows_of, stage_of, AreDualsOf, AreValuesOf}
use Rattle.nf_duals.specs.Printed.{ArePrintedBy}
use Rattle.nf_sums.specs.Terms.{PassesIn, Is}
use Rattle.nf_sums.specs.Rows.{printed_dual_terms, quotient_terms}
use Rattle.nf_sums.specs.Steps.{AddsProduct}
use Rattle.nf_sums.proofs.Laws.{wider, known, flip_added}
use Rattle.nf_basis.specs.Arising.{StateTerms, count_columns}
use Rattle.nf_basis.specs.Arising.StateTerms.{printed_factor, printed_dual}
use Rattle.nf_duals.specs.Factor.{IsQuotientAt, IsFactorBelow, PrintedTerms}

-- ---- the factor
module _ (S : Stage) (s : ℕ → Place) (d1 d2 : ℕ → ℚ) where
  pub none_yet : IsFactorBelow S s d1 d2 0 zero_ℚ
  none_yet = record { not_negative = lt_irrefl zero_ℚ; not_less = λ j q b h. absurd (omega arith); attained = inl refl }

  -- a column without a quotient changes nothing
  pub none_here : (n : ℕ) (m : ℚ) → ((q : ℚ) → IsQuotientAt S s d1 d2 n q → ⊥) → IsFactorBelow S s d1 d2 n m → IsFactorBelow S s d1 d2 (n + 1) m
  none_here n m h f = record {
    not_negative = f.not_negative;
    not_less = λ j q b a l. of j q a l (below_or_last j b);
    attained = f.attained;
  }
    where
      below_or_last : (j : ℕ) → j < n + 1 → (j < n) ⊎ (j ≡ n)
      below_or_last j b = grind arith

      of : (j : ℕ) (q : ℚ) → IsQuotientAt S s d1 d2 j q → m <ℚ q → (j < n) ⊎ (j ≡ n) → ⊥
      of j q a l (inl b) = f.not_less j q b a l
      of j q a l (inr e) = h q (subst (λ k. IsQuotientAt S s d1 d2 k q) e a)

  -- one with a quotient: the greater of both
  pub greater_here : (n : ℕ) (m q r : ℚ) → ((r ≡ m) × (m <ℚ q → ⊥)) ⊎ ((r ≡ q) × (m <ℚ q)) → IsQuotientAt S s d1 d2 n q → IsFactorBelow S s d1 d2 n m → IsFactorBelow S s d1 d2 (n + 1) r
  greater_here n m q r g h f = record { not_negative = λ l. not_below zero_ℚ l f.not_negative; not_less = λ j t b a l. of j t a l (below_or_last j b); attained = some g }
    where
      below_or_last : (j : ℕ) → j < n + 1 → (j < n) ⊎ (j ≡ n)
      below_or_last j b = grind arith

      -- what m is not less than r is not less than
      not_below : (t : ℚ) → r <ℚ t → (m <ℚ t → ⊥) → ⊥
      not_below t l fits = ⊎_elim (λ a. fits (subst (λ z. z <ℚ t) a.0 l)) (λ a. fits (less_trans m q t a.1 (subst (λ z. z <ℚ t) a.0 l))) g

      same : (t : ℚ) → IsQuotientAt S s d1 d2 n t → t ≡ q
      same t a = a.is ∙ sym h.is

      not_here : (t : ℚ) → t ≡ q → r <ℚ t → ⊥
      not_here t e l = ⊎_elim (λ a. a.1 (subst₂ (λ x y. x <ℚ y) a.0 e l)) (λ a. lt_irrefl q (subst₂ (λ x y. x <ℚ y) a.0 e l)) g

      of : (j : ℕ) (t : ℚ) → IsQuotientAt S s d1 d2 j t → r <ℚ t → (j < n) ⊎ (j ≡ n) → ⊥
      of j t a l (inl b) = not_below t l (f.not_less j t b a)
      of j t a l (inr e) = not_here t (same t (subst (λ k. IsQuotientAt S s d1 d2 k t) e a)) l

      some : ((r ≡ m) × (m <ℚ q → ⊥)) ⊎ ((r ≡ q) × (m <ℚ q)) → (r ≡ zero_ℚ) ⊎ ((j : ℕ) × IsQuotientAt S s d1 d2 j r)
      some (inl a) = subst (λ z. (z ≡ zero_ℚ) ⊎ ((j : ℕ) × IsQuotientAt S s d1 d2 j z)) (sym a.0) f.attained
      some (inr a) = inr (n, subst (λ z. IsQuotientAt S s d1 d2 n z) (sym a.0) h)

  -- after all columns that are priced it is the factor
  pub factor_found : (n : ℕ) (m : ℚ) → S.entering ≤ n → IsFactorBelow S s d1 d2 n m → IsFactor S s d1 d2 m
  factor_found n m b f = record {
    not_negative = f.not_negative;
    not_less = λ j k h l. f.not_less j (neg_ℚ (d2 j) *ℚ inv_ℚ (d1 j)) (let e = k.1 in omega (arith, b, e)) (record { priced = k; not_zero = h; is = refl }) l;
    attained = ⊎_elim (λ e. inl e) (λ a. inr (a.0, a.1.priced, a.1.not_zero, a.1.is)) f.attained;
  }

-- its divisions are of a row of the state
pub quotient_passed_in : (p : LinearProgram) (s : Standing) (one two : List ℚ) (j : ℕ) (x y d1 d2 : ℚ) (c : Passed)
    → j < count_columns p → HasEndedOptimalIn p s → AreDualsOf p s PhaseOne (at one) → AreDualsOf p s PhaseTwo (at two)
    → d1 ≢ zero_ℚ → d1 ≡ reduced (stage_of p s) (ones (layout_of p)) (at one) j → d2 ≡ reduced (stage_of p s) (twos (layout_of p)) (at two) j
    → x ≡ neg_ℚ d2 → y ≡ d1 → (c ≡ record { op = Div; left = x; right = y }) × Passes Div x y → PassesIn (StateTerms p s) c
quotient_passed_in p s one two j x y d1 d2 c within ended a b ne e f g h is =
    known (StateTerms p s) Div x y c is.0 (subst (λ (z : Passed). Passes z.op z.left z.right) (sym is.0) is.1)
    (quotient_terms (reduced (stage_of p s) (twos (layout_of p)) (at two) j) (reduced (stage_of p s) (ones (layout_of p)) (at one) j))
    (printed_factor j (at one) (at two) within ended a b (λ z. ne (e ∙ z)))
    (0, omega arith, (inr (g ∙ ap neg_ℚ f), inl (h ∙ e)))

-- ---- the printed duals
pub printed_passed : (m : ℚ) (one two : List ℚ) (i : ℕ) (x y : ℚ) (c : Passed) → i < length two → x ≡ at two i → y ≡ at one i → AddsProduct x m y c → PassesIn (PrintedTerms m one two) c
printed_passed m one two i x y c h e f a =
    wider (Is (printed_dual_terms (at two i) m (at one i))) (PrintedTerms m one two) c (λ t r. (i, h, r)) (flip_added (at two i) m (at one i) x m y c e refl f a)

pub printed_in_state : (p : LinearProgram) (s : Standing) (m : ℚ) (one two : List ℚ) (c : Passed) → length two ≡ rows_of p s → HasEndedOptimalIn p s → AreDualsOf p s PhaseOne (at one) → AreDualsOf p s PhaseTwo (at two)
    → IsFactor (stage_of p s) (place_at s) (reduced (stage_of p s) (ones (layout_of p)) (at one)) (reduced (stage_of p s) (twos (layout_of p)) (at two)) m
    → PassesIn (PrintedTerms m one two) c → PassesIn (StateTerms p s) c
printed_in_state p s m one two c len ended a b f =
    wider (PrintedTerms m one two) (StateTerms p s) c (λ t w. subst (StateTerms p s) (sym w.2) (printed_dual w.0 (at one) (at two) m (subst (λ n. w.0 < n) len w.1) ended a b f))

-- the other answers of a comparison
pub not_less_by : (m q : ℚ) (o : Ordering) → IsOrder o m q → (o ≡ Equal) ⊎ (o ≡ Greater) → m <ℚ q → ⊥
not_less_by m q o h (inl e) l = let same : m ≡ q = subst (λ z. IsOrder z m q) e h in lt_irrefl q (subst (λ z. z <ℚ q) same l)
not_less_by m q o h (inr e) l = let more : q <ℚ m = subst (λ z. IsOrder z m q) e h in lt_irrefl m (less_trans m q m l more)

-- what is printed of a state that has ended optimal
pub printed_by : (p : LinearProgram) (s : Standing) (x : ℕ → ℚ) (one two new : List ℚ) (m : ℚ) → AreValuesOf p s x → AreDualsOf p s PhaseOne (at one) → AreDualsOf p s PhaseTwo (at two) → length two ≡ rows_of p s
    → IsFactor (stage_of p s) (place_at s) (reduced (stage_of p s) (ones (layout_of p)) (at one)) (reduced (stage_of p s) (twos (layout_of p)) (at two)) m
    → HoldsBelow (length two) (λ i. at new i ≡ at two i +ℚ m *ℚ at one i) → ArePrintedBy p s true m new
printed_by p s x one two new m v a b len f h =
    let n : Prices p s = record { values = x; one = at one; two = at two; are_values = v; are_duals_one = a; are_duals_two = b } in
    ((n, f), (n, λ i l. h i (omega (arith, len, l))))
