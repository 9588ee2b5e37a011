-- Reduced costs by the entries of a column, and the duals after a pivot and after a flip: what they are, and where they
-- arise.
use Rattle.std.proofs.Common.{◌≡◌, ◌≢◌, ◌⊎◌, inl, inr, ℕ, zero, suc, ◌<◌, List, [], ◌∷◌, length, false, refl, sym, ap, ap₂, ◌∙◌, subst, ⊎_elim, arith}
use Rattle.nf_num.specs.Rational.{ℚ, zero_ℚ, one_ℚ, ◌+ℚ◌, ◌-ℚ◌, ◌*ℚ◌, neg_ℚ, inv_ℚ}
use Rattle.nf_num.specs.Sum.{sum_ℚ, delta}
use Rattle.nf_num.proofs.Field.{ring, codes}
use Rattle.nf_num.proofs.Laws.{zero_add}
use Rattle.nf_num.proofs.Sums.{sum-suc, sum-zero}
use Rattle.nf_frac.specs.declared.Op.TheVariants.{Add, Mul}
use Rattle.nf_frac.specs.declared.Passed.{Passed}
use Rattle.nf_model.specs.Program.{LinearProgram, at}
use Rattle.nf_sums.specs.Steps.{AddsProduct}
use Rattle.nf_sums.specs.Terms.{PassesIn, Is, Term, value_of}
use Rattle.nf_sums.specs.Terms.Term.{Number, Scaled}
use Rattle.nf_sums.specs.Rows.{first_then, remainder_terms, reduced_cost_terms, update_terms}
use Rattle.nf_sums.proofs.Part.{IsPartOf, IsTermOf, same_term}
use Rattle.nf_sums.proofs.Laws.{carried, known, next_sums, wider}
use Rattle.nf_inverse.specs.Weights.{GivesEntries}
use Rattle.nf_inverse.proofs.Sums.{entries_sum}
use Rattle.nf_simplex.specs.Place as model
use Rattle.nf_simplex.specs.Stage.{Stage}
use Rattle.nf_simplex.specs.Changes.{flipped}
use Rattle.nf_simplex.specs.Numbers.{reduced}
use Rattle.nf_simplex.specs.Standing.{Standing, Phase, place_at, stage_of, rows_of, costs_of, AreDualsOf}
use Rattle.nf_simplex.proofs.Basis.{sum_move}
use Rattle.nf_simplex.proofs.Sum.{sum_ext, unit_same, unit_other, equal_or_not}
use Rattle.nf_basis.specs.declared.col.Col.{Col}
use Rattle.nf_basis.specs.declared.col.Phase as named
use Rattle.nf_basis.specs.declared.duals.Duals.{Duals}
use Rattle.nf_basis.specs.Names.{col_of, phase_of}
use Rattle.nf_basis.specs.Kept.{number, place_in}
use Rattle.nf_basis.specs.Arising.{StateTerms, count_columns}
use Rattle.nf_basis.specs.Arising.StateTerms.{reduced_cost, update as state_update}
use Rattle.nf_basis.specs.Arising.ArePricing.{of_phase}
use Rattle.nf_basis.specs.Arising.IsUpdated.{dual as updated_dual}
use Rattle.nf_basis.specs.Arising.IsChange.{reduced_cost as cost_change}
use Rattle.nf_basis.specs.Arising.IsMultiple.{weight as by_weight}
use Rattle.nf_basis.specs.Duals.{PriceTerms, KeepsDuals, IsPivotRow, less_paid, after_pivot}
use Rattle.nf_basis.proofs.Flipped.{was_basic_before}

-- ---- the entries of a column
module _ (gives : ℕ → ℕ × ℚ → Type 0) (count : ℕ) (cost : ℚ) (y : List ℚ) (a : ℕ → ℚ) (entries : GivesEntries gives count (length y) a) where
  -- A dual and the entry at its row are those of the entry's place,
  pub paid_at : (k r : ℕ) (v : ℚ) (t : ℚ × ℚ) → k < count → gives k (r, v) → (t.0 ≡ at y r) × (t.1 ≡ v) → (t.0 ≡ at y (entries.row k)) × (t.1 ≡ a (entries.row k))
  paid_at k r v t h given is = let e = entries.entries k (r, v) h given in (is.0 ∙ ap (at y) e.0, is.1 ∙ e.1)

  -- the products over the entries are those over all rows,
  pub paid_in_all : cost -ℚ sum_ℚ count (λ k. at y (entries.row k) *ℚ a (entries.row k)) ≡ less_paid cost y a
  paid_in_all = ap (λ z. cost -ℚ z) (entries_sum gives count (length y) (at y) a entries)

  -- and so are their terms.
  abbrev place_of : ℕ → ℕ
  place_of zero = 0
  place_of (suc k) = suc (entries.row k)

  part_of : IsPartOf (remainder_terms cost count (λ k. at y (entries.row k)) (λ k. a (entries.row k))) (reduced_cost_terms cost (length y) (at y) a)
  part_of = record { place = place_of; within = within; apart = apart; turned = false; term = term }
    where
      within : (k : ℕ) → k < suc count → place_of k < suc (length y)
      within zero b = omega arith
      within (suc k) b = let c = entries.within k (omega arith) in omega arith

      apart : (k l : ℕ) → k < suc count → l < suc count → place_of k ≡ place_of l → k ≡ l
      apart zero zero a b e = refl
      apart zero (suc l) a b e = absurd (omega arith)
      apart (suc k) zero a b e = absurd (omega arith)
      apart (suc k) (suc l) a b e = ap suc (entries.apart k l (omega arith) (omega arith) (omega arith))

      term : (k : ℕ) → k < suc count → IsTermOf false ((reduced_cost_terms cost (length y) (at y) a).term (place_of k)) ((remainder_terms cost count (λ k. at y (entries.row k)) (λ k. a (entries.row k))).term k)
      term zero b = same_term (Number cost) (Number cost) refl
      term (suc k) b = same_term _ _ refl

  pub price_passed : (c : Passed) → PassesIn (Is (remainder_terms cost count (λ k. at y (entries.row k)) (λ k. a (entries.row k)))) c → PassesIn (PriceTerms cost y a) c
  price_passed c = carried (Is (remainder_terms cost count (λ k. at y (entries.row k)) (λ k. a (entries.row k)))) (PriceTerms cost y a) c
      (λ part e. (reduced_cost_terms cost (length y) (at y) a, subst (λ t. IsPartOf t (reduced_cost_terms cost (length y) (at y) a)) (sym e) part_of, refl))

-- n and a multiple of a scaled number
first_sum : (a : ℚ) (f : ℕ → Term) → a ≡ sum_ℚ 1 (λ k. value_of (first_then a f k))
first_sum a f = sym (sum-suc 0 (λ k. value_of (first_then a f k)) ∙ ap (λ z. z +ℚ a) (sum-zero (λ k. value_of (first_then a f k))) ∙ zero_add a)

scaled_added : (n p q r total a b : ℚ) (c : Passed) → total ≡ n → a ≡ p *ℚ inv_ℚ r → b ≡ q → AddsProduct total a b c → PassesIn (Is (update_terms n false p q r)) c
scaled_added n p q r total a b c e d f s = ⊎_elim factor sum s.is_one
  where
    factor : c ≡ record { op = Mul; left = a; right = b } → PassesIn (Is (update_terms n false p q r)) c
    factor g = known (Is (update_terms n false p q r)) Mul a b c g s.passes (update_terms n false p q r) refl (1, omega arith, inr (inr (inr (inl f, inl d))))

    same : p *ℚ inv_ℚ r *ℚ q ≡ p *ℚ q *ℚ inv_ℚ r
    same = ring (p ∷ q ∷ inv_ℚ r ∷ []) (search codes depth 8) refl

    sum : c ≡ record { op = Add; left = total; right = a *ℚ b } → PassesIn (Is (update_terms n false p q r)) c
    sum g = known (Is (update_terms n false p q r)) Add total (a *ℚ b) c g s.passes (update_terms n false p q r) refl (next_sums (update_terms n false p q r) 1 false total (a *ℚ b) (omega arith) (e ∙ first_sum n (λ k. Scaled p q r)) (ap₂ ◌*ℚ◌ d f ∙ same))

-- ---- reduced costs of a state
module _ (p : LinearProgram) (s : Standing) (phase : Phase) (y : List ℚ) (len : length y ≡ rows_of p s) (j : ℕ) (cost : ℚ) (cost_is : cost ≡ costs_of p phase j) where
  pub price_is_reduced : less_paid cost y ((stage_of p s).entry j) ≡ reduced (stage_of p s) (costs_of p phase) (at y) j
  unfolding reduced
  price_is_reduced = ap₂ (λ c n. c +ℚ neg_ℚ (sum_ℚ n (λ i. at y i *ℚ (stage_of p s).entry j i))) cost_is len

  pub price_arises : j < count_columns p → AreDualsOf p s phase (at y) → (c : Passed) → PassesIn (PriceTerms cost y ((stage_of p s).entry j)) c → PassesIn (StateTerms p s) c
  price_arises h are c = wider (PriceTerms cost y ((stage_of p s).entry j)) (StateTerms p s) c
      (λ t e. subst (StateTerms p s) (ap₂ (λ b n. reduced_cost_terms b n (at y) ((stage_of p s).entry j)) (sym cost_is) (sym len) ∙ sym e) (reduced_cost j (costs_of p phase) (at y) h (of_phase phase (at y) are)))

-- ---- a pivot
module _ (p : LinearProgram) (s : Standing) (e l : Col) (a : model.Place) (w : List ℚ) (row : IsPivotRow p s e l a w) (phase : Phase) (y : List ℚ) (are : AreDualsOf p s phase (at y)) (d : ℚ) (d_is : d ≡ reduced (stage_of p s) (costs_of p phase) (at y) (number p e)) where
  S : Stage
  S = stage_of p s

  -- The duals after it.
  pub duals_after : (z : List ℚ) → ((i : ℕ) → i < rows_of p s → at z i ≡ at y i +ℚ at w i *ℚ d) → AreDualsOf p (after_pivot p s e l a) phase (at z)
  unfolding reduced S
  duals_after z added j h b =
      ap (λ x. c +ℚ neg_ℚ x)
      (sum_ext (rows_of p s) (λ i. at z i *ℚ (stage_of p s).entry j i) (λ i. (at y i +ℚ d *ℚ at w i) *ℚ (stage_of p s).entry j i) (λ i m. ap (λ x. x *ℚ (stage_of p s).entry j i) (added i m ∙ turn (at y i) (at w i)))
      ∙ (sum_move (rows_of p s) (at y) (at w) ((stage_of p s).entry j) d
      ∙ ap (λ x. paid +ℚ d *ℚ x) (row.gives j h b)))
      ∙ of (equal_or_not j (number p e))
    where
      c : ℚ
      c = costs_of p phase j

      paid : ℚ
      paid = sum_ℚ (rows_of p s) (λ i. at y i *ℚ (stage_of p s).entry j i)

      turn : (u v : ℚ) → u +ℚ v *ℚ d ≡ u +ℚ d *ℚ v
      turn u v = ring (u ∷ v ∷ d ∷ []) (search codes) refl

      unchanged : (b x : ℚ) → b +ℚ neg_ℚ (x +ℚ d *ℚ zero_ℚ) ≡ b +ℚ neg_ℚ x
      unchanged b x = ring (b ∷ x ∷ d ∷ []) (search codes depth 8) refl

      paid_off : (b x z : ℚ) → z ≡ b +ℚ neg_ℚ x → b +ℚ neg_ℚ (x +ℚ z *ℚ one_ℚ) ≡ zero_ℚ
      paid_off b x z q = ap (λ n. b +ℚ neg_ℚ (x +ℚ n *ℚ one_ℚ)) q ∙ ring (b ∷ x ∷ []) (search codes depth 8) refl

      of : (j ≡ number p e) ⊎ (j ≢ number p e) → c +ℚ neg_ℚ (paid +ℚ d *ℚ delta (number p e) j) ≡ zero_ℚ
      of (inl q) = ap (λ x. c +ℚ neg_ℚ (paid +ℚ d *ℚ x)) (ap (delta (number p e)) q ∙ unit_same (number p e)) ∙ paid_off c paid d (d_is ∙ ap (reduced (stage_of p s) (costs_of p phase) (at y)) (sym q))
      of (inr n) = ap (λ x. c +ℚ neg_ℚ (paid +ℚ d *ℚ x)) (unit_other (number p e) j (λ q. n (sym q))) ∙ (unchanged c paid ∙ are j h (row.others j h b n))

  -- One dual's change is an update.
  pub dual_arises : (i : ℕ) → i < rows_of p s → (c : Passed) → AddsProduct (at y i) (at w i) d c → PassesIn (StateTerms p s) c
  dual_arises i h c step =
      let (v, has, is) = row.divided i h in
      wider (Is (update_terms (at y i) false v d (row.entries (number p l)))) (StateTerms p s) c
      (λ t q. subst (StateTerms p s) (sym q)
      (state_update (col_of e) (number p l) row.entries (at y i) v d false row.pivots (updated_dual (at y i) i (h, phase, at y, are, refl)) (by_weight v has) (cost_change d phase (at y) are d_is)))
      (scaled_added (at y i) v d (row.entries (number p l)) (at y i) (at w i) d c refl is refl step)

-- ---- a flip
-- Duals stay where no other column becomes basic,
duals_stay : (p : LinearProgram) (s t : Standing) (phase : Phase) (y : ℕ → ℚ) → stage_of p t ≡ stage_of p s → ((j : ℕ) → place_at t j ≡ model.Basic → place_at s j ≡ model.Basic) → AreDualsOf p s phase y → AreDualsOf p t phase y
duals_stay p s t phase y same was are j h b =
    ap (λ (S : Stage). reduced S (costs_of p phase) y j) same ∙ are j (subst (λ (S : Stage). j < S.columns) same h) (was j b)

-- so a flip keeps them.
pub kept_by_flip : (p : LinearProgram) (s : Standing) (e : Col) (phase : named.Phase) (d : Duals) → number p e < length s.places → place_in p s e ≢ model.Basic → KeepsDuals p s phase d → KeepsDuals p (flipped p s (col_of e)) phase d
kept_by_flip p s e phase d has not_basic kept = record {
  one_each = kept.one_each;
  are = λ k. duals_stay p s (flipped p s (col_of e)) (phase_of phase) (at d.by_row.items) refl (was_basic_before p s e has not_basic) (kept.are k);
}
