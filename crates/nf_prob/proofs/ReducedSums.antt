-- The operations of a reduced cost by a column's entries arise in the row over all rows.
use Rattle.std.proofs.Common.{◌≡◌, ℕ, zero, suc, ◌<◌, ◌-◌, List, length, map, refl, sym, ◌∙◌, ap, subst, arith, false}
use Rattle.std.proofs.lemmas.List.{length-map}
use Rattle.nf_num.specs.Rational.{ℚ, neg_ℚ}
use Rattle.nf_frac.specs.declared.Passed.{Passed}
use Rattle.nf_model.specs.Program.{Entry, LinearProgram, column, entry_at, coefficient, at}
use Rattle.nf_model.specs.Problem.{RiseBetween, IsProblem}
use Rattle.nf_prob.specs.declared.stored.Entry as stored
use Rattle.nf_prob.specs.Numbers.{entry_of}
use Rattle.nf_prob.specs.Stored.{stored_entry}
use Rattle.nf_prob.specs.Reduced.{ReducedTerms}
use Rattle.nf_sums.specs.Terms.{PassesIn, Is}
use Rattle.nf_sums.specs.Terms.Term.{Number, Product}
use Rattle.nf_sums.specs.Rows.{remainder_terms, reduced_cost_terms}
use Rattle.nf_sums.proofs.Part.{IsPartOf, IsTermOf, same_term}
use Rattle.nf_sums.proofs.Laws.{carried}
use Rattle.nf_prob.proofs.ColumnSums.{column_rises, rise_value, stored_is, entries_apart, weight_taken, value_taken}
use Rattle.nf_prob.proofs.Entries.{rise_below}

-- the place of a term: the cost first, and then each entry at its row
abbrev place_in : List stored.Entry → ℕ → ℕ
place_in es zero = 0
place_in es (suc k) = suc ((stored_entry es k).row - 1)

part_of : (p : LinearProgram) (cost : ℚ) (y : List ℚ) (j : ℕ) (es : List stored.Entry) → IsProblem p → j < length p.columns → map entry_of es ≡ (column p j).entries → IsPartOf (remainder_terms cost (length es) (weight_taken y es) (value_taken es)) (reduced_cost_terms cost (length p.rows) (at y) (λ i. coefficient p i j))
part_of p cost y j es q h same = record { place = place_in es; within = within; apart = apart; turned = false; term = term }
  where
    rise : RiseBetween 0 (length p.rows) (map entry_of es)
    rise = subst (RiseBetween 0 (length p.rows)) (sym same) (column_rises p j q h)

    inside : (k : ℕ) → k < length es → k < length (map entry_of es)
    inside k b = omega (arith, b, length-map es entry_of)

    below : (k : ℕ) → k < length es → (stored_entry es k).row - 1 < length p.rows
    below k b = subst (λ (e : Entry). e.row < length p.rows) (stored_is es k b) (rise_below 0 (length p.rows) (map entry_of es) k _ rise (inside k b))

    within : (k : ℕ) → k < suc (length es) → place_in es k < suc (length p.rows)
    within zero b = omega arith
    within (suc k) b = let c = below k (omega arith) in omega (arith, c)

    apart : (k l : ℕ) → k < suc (length es) → l < suc (length es) → place_in es k ≡ place_in es l → k ≡ l
    apart zero zero a b e = refl
    apart zero (suc l) a b e = absurd (omega arith)
    apart (suc k) zero a b e = absurd (omega arith)
    apart (suc k) (suc l) a b e = ap suc (entries_apart p j es q h same k l (omega arith) (omega arith) (omega arith))

    value : (k : ℕ) → k < length es → coefficient p ((stored_entry es k).row - 1) j ≡ (stored_entry es k).value
    value k b =
        ap (λ (l : List Entry). entry_at l ((stored_entry es k).row - 1)) (sym same)
        ∙ ap (λ (d : Entry). entry_at (map entry_of es) d.row) (sym (stored_is es k b))
        ∙ rise_value 0 (length p.rows) (map entry_of es) k rise (inside k b)
        ∙ ap (λ (d : Entry). d.value) (stored_is es k b)

    term : (k : ℕ) → k < suc (length es) → IsTermOf false ((reduced_cost_terms cost (length p.rows) (at y) (λ i. coefficient p i j)).term (place_in es k)) ((remainder_terms cost (length es) (weight_taken y es) (value_taken es)).term k)
    term zero b = same_term (Number cost) (Number cost) refl
    term (suc k) b = same_term _ _ (ap (λ v. Product (neg_ℚ (at y ((stored_entry es k).row - 1))) v) (value k (omega arith)))

pub reduced_passed : (p : LinearProgram) (cost : ℚ) (y : List ℚ) (j : ℕ) (es : List stored.Entry) (c : Passed) → IsProblem p → j < length p.columns → map entry_of es ≡ (column p j).entries → PassesIn (Is (remainder_terms cost (length es) (weight_taken y es) (value_taken es))) c → PassesIn (ReducedTerms p cost y j) c
reduced_passed p cost y j es c q h same =
    carried (Is (remainder_terms cost (length es) (weight_taken y es) (value_taken es))) (ReducedTerms p cost y j) c
    (λ part e. (reduced_cost_terms cost (length p.rows) (at y) (λ i. coefficient p i j), subst (λ t. IsPartOf t (reduced_cost_terms cost (length p.rows) (at y) (λ i. coefficient p i j))) (sym e) (part_of p cost y j es q h same), refl))
