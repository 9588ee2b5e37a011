-- The coefficient of a row in a column whose entries are amounts is an amount: the entries are of different rows.
use Rattle.std.proofs.Common.{◌≡◌, ◌≢◌, ◌⊎◌, inl, inr, ℕ, suc, ◌<◌, ◌^◌, List, [], ◌∷◌, length, refl, sym, ap₂, ◌∙◌, subst, arith}
use Rattle.std.specs.List.{All}
use Rattle.std.proofs.lemmas.List.Elements.{All-head, All-tail}
use Rattle.nf_num.specs.Rational.{zero_ℚ, ◌+ℚ◌}
use Rattle.nf_num.proofs.Field.{ring, codes}
use Rattle.nf_num.proofs.Rewrites.{add_zero}
use Rattle.nf_model.specs.Program.{LinearProgram, Entry, entry_at, column, coefficient}
use Rattle.nf_model.specs.Problem.{IsProblem, RiseBetween}
use Rattle.nf_prob.proofs.Entries.{at_same, at_other, entry_at-nil, entry_at-cons, entry_at-before}
use Rattle.nf_simplex.proofs.Sum.{equal_or_not}
use Rattle.nf_width.specs.Amounts.{IsAmount, HasAmounts}
use Rattle.nf_width.proofs.Whole.{whole_zero, whole_more}

pub entry_amount : (lo n : ℕ) (es : List Entry) (i : ℕ) → RiseBetween lo n es → All (λ e. IsAmount e.value) es → IsAmount (entry_at es i)
entry_amount lo n [] i r all = subst IsAmount (sym (entry_at-nil i)) (whole_more 1000 0 (10 ^ 12) zero_ℚ (omega arith) (whole_zero 1000))
entry_amount lo n (e ∷ es) i r all = of (equal_or_not e.row i) (entry_amount (suc e.row) n es i r.2 (All-tail (λ e. IsAmount e.value) e es all))
  where
    of : (e.row ≡ i) ⊎ (e.row ≢ i) → IsAmount (entry_at es i) → IsAmount (entry_at (e ∷ es) i)
    of (inl q) later =
        subst IsAmount (sym (entry_at-cons e es i ∙ (ap₂ (λ a b. a +ℚ b) (at_same i e q) (entry_at-before (suc e.row) n es i r.2 (omega (arith, q))) ∙ add_zero e.value))) (All-head (λ e. IsAmount e.value) e es all)
    of (inr q) later = subst IsAmount (sym (entry_at-cons e es i ∙ (ap₂ (λ a b. a +ℚ b) (at_other i e q) (λ k. entry_at es i) ∙ ring (entry_at es i ∷ []) (search codes) refl))) later

pub coefficient_amount : (p : LinearProgram) → IsProblem p → HasAmounts p → (i j : ℕ) → j < length p.columns → IsAmount (coefficient p i j)
coefficient_amount p ok has i j h = entry_amount 0 (length p.rows) (column p j).entries i (ok.each j _ h).by_row (has.entries j h)
