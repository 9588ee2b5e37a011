-- The artificials of a stage: how many there are, and what they sum to.
use Rattle.std.proofs.Common.{◌≡◌, ◌⊎◌, inl, inr, ℕ, zero, suc, ◌+◌, ◌-◌, ◌*◌, ◌<◌, ◌≤◌, Bool, true, false, length, refl, sym, ap, ap₂, ◌∙◌, subst, subst₂, arith}
use mathlib.Core.Bool.{not}
use Rattle.nf_num.specs.Rational.{ℚ, zero_ℚ, ◌+ℚ◌, neg_ℚ, ◌<ℚ◌, ◌≤ℚ◌}
use Rattle.nf_num.specs.Sum.{sum_ℚ}
use Rattle.nf_num.proofs.Laws.{le_antisymm, le_of_lt}
use Rattle.nf_num.proofs.Order.{eq_or_lt_of_le, le_of_eq}
use Rattle.nf_num.proofs.Sums.{sum-split}
use Rattle.nf_model.specs.Program.{LinearProgram}
use Rattle.nf_model.specs.Problem.{IsProblem}
use Rattle.nf_simplex.specs.Columns.{Artificial, all_columns}
use Rattle.nf_simplex.specs.Layout.{Layout, layout_of}
use Rattle.nf_simplex.specs.Numbers.{StandsAt}
use Rattle.nf_simplex.specs.Size.{size}
use Rattle.nf_simplex.specs.StageOf.{StageNumber, StageOne, StageTwo, IsPresent, rows_in}
use Rattle.nf_simplex.specs.Moves.{IsLowerThan, objective_of}
use Rattle.nf_simplex.specs.Standing.{Standing, HasColumn, AreValuesOf, IsBasisOf, IsFeasibleState, IsStateOf, is_negative, number_in, place_at, rows_of, stage_of}
use Rattle.nf_simplex.specs.Verdicts.{artificial_sum}
use Rattle.nf_simplex.proofs.FieldLaws.{add-less}
use Rattle.nf_simplex.proofs.Fits.{layout_fits}
use Rattle.nf_simplex.proofs.Prices.{artificial_sum_any, artificials_nonneg, values_any}
use Rattle.nf_simplex.proofs.Standings.{state_of}
use Rattle.nf_simplex.proofs.Values.{artificial_zero, values_of_state}
use Rattle.nf_simplex.proofs.Rows.{ones_total}
use Rattle.nf_simplex.proofs.StageOf.{column_artificial}
use Rattle.nf_simplex.proofs.Sum.{sum_zero}
use Rattle.nf_simplex.proofs.Terms.{v as var, nought, ◌:+◌, ◌:-◌, ring}
use Rattle.std.proofs.Common.{[], ◌∷◌}
use Rattle.nf_basis.specs.Names.{number_of_stage}
use Rattle.nf_price.specs.Choice.{TellsShort}

-- ---- the rows of a stage
pub one_rows : (p : LinearProgram) (n : StageNumber) → number_of_stage n ≡ 1 → p.nodes ≡ rows_in (layout_of p) n
one_rows p StageOne e = refl
one_rows p StageTwo e = absurd (omega (arith, e))

pub two_rows : (p : LinearProgram) (n : StageNumber) → IsProblem p → (number_of_stage n ≡ 1 → ⊥) → length p.rows ≡ rows_in (layout_of p) n
two_rows p StageOne ok n = absurd (n refl)
two_rows p StageTwo ok n = let h = ok.nodes_within in omega arith

-- A stage has an artificial for each of its rows.
pub artificial_there : (p : LinearProgram) (n : StageNumber) (i : ℕ) → i < rows_in (layout_of p) n → IsPresent (layout_of p) n (Artificial i)
artificial_there p StageOne i h = h
artificial_there p StageTwo i h = h

pub rows_few : (p : LinearProgram) (n : StageNumber) → IsProblem p → rows_in (layout_of p) n ≤ length p.rows
rows_few p StageOne ok = ok.nodes_within
rows_few p StageTwo ok = let h = ok.nodes_within in omega arith

square : (k : ℕ) → k < (k + 1) * (k + 1)
square k = grind arith

-- The rows of a stage are fewer than its size.
pub rows_below : (p : LinearProgram) (n : StageNumber) → rows_in (layout_of p) n < size p n
rows_below p StageOne = omega arith
rows_below p StageTwo = let h = square (length p.rows - p.nodes) in omega arith

-- ---- their sum
-- an artificial that the stage lacks has the value 0
absent_zero : (p : LinearProgram) (s : Standing) (x : ℕ → ℚ) → IsStateOf p s → AreValuesOf p s x → (r : ℕ) → number_in p (Artificial r) < all_columns (layout_of p) → (HasColumn p s (Artificial r) → ⊥) → x (number_in p (Artificial r)) ≡ zero_ℚ
absent_zero p s x st v r h none =
    subst (λ a. StandsAt a ((stage_of p s).lower k) ((stage_of p s).upper k) (x k)) ((st.fits k h).absent (λ y. none (subst (HasColumn p s) (column_artificial (layout_of p) r) y))) (v.stands k h)
  where
    k : ℕ
    k = number_in p (Artificial r)

-- The artificials of the stage sum to the cost of phase one.
pub sum_is : (p : LinearProgram) (s : Standing) (x : ℕ → ℚ) → IsStateOf p s → AreValuesOf p s x → sum_ℚ (rows_of p s) (λ i. x (number_in p (Artificial i))) ≡ artificial_sum p x
sum_is p s x st v = of s.stage refl
  where
    L : Layout
    L = layout_of p

    whole : sum_ℚ (L.nodes + L.sides) (λ i. x (number_in p (Artificial i))) ≡ artificial_sum p x
    whole = sym (ones_total L x)

    of : (n : StageNumber) → s.stage ≡ n → sum_ℚ (rows_in L n) (λ i. x (number_in p (Artificial i))) ≡ artificial_sum p x
    of StageTwo e = whole
    of StageOne e =
        ring (sum_ℚ L.nodes (λ i. x (number_in p (Artificial i))) ∷ []) (var 0) (var 0 :+ nought) refl
        ∙ (ap (λ z. sum_ℚ L.nodes (λ i. x (number_in p (Artificial i))) +ℚ z) (sym (sum_zero L.sides _ (λ q h. absent_zero p s x st v (L.nodes + q) (omega (arith, h)) (λ y. past q (subst (λ n. IsPresent L n (Artificial (L.nodes + q))) e y)))))
        ∙ (sym (sum-split L.nodes L.sides (λ i. x (number_in p (Artificial i)))) ∙ whole))
      where
        past : (q : ℕ) → L.nodes + q < L.nodes → ⊥
        past q h = omega (arith, h)

-- An artificial that is not 0 shows that they are short,
pub short_found : (p : LinearProgram) (s : Standing) (x : ℕ → ℚ) → IsProblem p → IsFeasibleState p s → AreValuesOf p s x → (i : ℕ) → i < rows_of p s → (x (number_in p (Artificial i)) ≡ zero_ℚ → ⊥) → TellsShort p s true
short_found p s x ok f v i h ne = (x, v, of (eq_or_lt_of_le zero_ℚ (artificial_sum p x) (artificials_nonneg p s ok f x v)))
  where
    L : Layout
    L = layout_of p

    within : i < L.nodes + L.sides
    within = let a = rows_few p s.stage ok in let b = ok.nodes_within in omega arith

    none : zero_ℚ ≡ artificial_sum p x → x (number_in p (Artificial i)) ≡ zero_ℚ
    none e =
        values_any p s f.feasible.basis x f.feasible.values v f.feasible.are_values (number_in p (Artificial i)) (let w = within in omega arith)
        ∙ artificial_zero L (layout_fits p ok) s.stage (is_negative s) (place_at s) f.feasible.values (values_of_state L (layout_fits p ok) s.stage (is_negative s) (place_at s) (state_of p s f))
        (artificial_sum_any p s f.feasible.basis f.feasible.values x f.feasible.are_values v ∙ sym e) i within

    of : (zero_ℚ ≡ artificial_sum p x) ⊎ (zero_ℚ <ℚ artificial_sum p x) → zero_ℚ <ℚ artificial_sum p x
    of (inl e) = absurd (ne (none e))
    of (inr l) = l

-- and if all are 0 they are met.
pub none_short : (p : LinearProgram) (s : Standing) (x : ℕ → ℚ) → IsStateOf p s → AreValuesOf p s x → ((i : ℕ) → i < rows_of p s → x (number_in p (Artificial i)) ≡ zero_ℚ) → TellsShort p s false
none_short p s x st v zeros = (x, v, sym (sum_is p s x st v) ∙ sum_zero (rows_of p s) (λ i. x (number_in p (Artificial i))) zeros)

-- Once they are met, a step leaves them so: it does not raise the first member of the objective vector.
pub stays_met : (p : LinearProgram) (s t : Standing) → IsProblem p → IsBasisOf p s → IsFeasibleState p t → IsLowerThan p t s → TellsShort p s false → TellsShort p t false
stays_met p s t ok basis f l (x, v, e) = (l.after.values, l.after.are_values, le_antisymm (artificial_sum p l.after.values) zero_ℚ (of l.less.first refl) (artificials_nonneg p t ok f l.after.values l.after.are_values))
  where
    met : artificial_sum p l.before.values ≡ zero_ℚ
    met = artificial_sum_any p s basis l.before.values x l.before.are_values v ∙ e

    back : (a b : ℚ) → b +ℚ neg_ℚ a ≡ zero_ℚ → b ≡ zero_ℚ → a ≡ zero_ℚ
    back a b q z = ring (a ∷ b ∷ []) (var 0) (var 1 :- (var 1 :- var 0)) refl ∙ (ap₂ (λ u w. u +ℚ neg_ℚ w) z q ∙ ring [] (nought :- nought) nought refl)

    below : (a b : ℚ) → zero_ℚ <ℚ b +ℚ neg_ℚ a → b ≡ zero_ℚ → a <ℚ zero_ℚ
    below a b h z =
        subst₂ (λ u w. u <ℚ w) (ring (a ∷ []) (nought :+ var 0) (var 0) refl) (ring (a ∷ b ∷ []) ((var 1 :- var 0) :+ var 0) (var 1) refl ∙ z) (add-less zero_ℚ (b +ℚ neg_ℚ a) a h)

    of : (k : ℕ) → l.less.first ≡ k → artificial_sum p l.after.values ≤ℚ zero_ℚ
    of zero q = le_of_lt (artificial_sum p l.after.values) zero_ℚ (below (artificial_sum p l.after.values) (artificial_sum p l.before.values) (subst (λ k. zero_ℚ <ℚ objective_of p s l.before k +ℚ neg_ℚ (objective_of p t l.after k)) q l.less.positive) met)
    of (suc k) q = le_of_eq (artificial_sum p l.after.values) zero_ℚ (back (artificial_sum p l.after.values) (artificial_sum p l.before.values) (l.less.zeros 0 (omega arith)) met)

pub still_met : (p : LinearProgram) (s t : Standing) → IsProblem p → IsFeasibleState p s → IsFeasibleState p t → IsLowerThan p t s → (short : Bool) → not short ≡ true → TellsShort p s short → TellsShort p t false
still_met p s t ok f g l true e h = absurd (let y : false ≡ true = e in cc)
still_met p s t ok f g l false e h = stays_met p s t ok f.feasible.basis g l h
