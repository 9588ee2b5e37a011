-- The two changes over the stored weights: what they leave, when the new matrix is singular, and the rows of terms.
use Rattle.std.proofs.Common.{◌≡◌, ◌≢◌, ℕ, ◌<◌, List, length, [], ◌∷◌, refl, sym, ap, ap₂, ◌∙◌, subst, true}
use Rattle.nf_num.specs.Rational.{ℚ, zero_ℚ, ◌*ℚ◌, ◌-ℚ◌, neg_ℚ}
use Rattle.nf_simplex.proofs.FieldLaws.{mul_comm}
use Rattle.nf_simplex.proofs.Terms.{v, minus, ◌:*◌, ring}
use Rattle.nf_simplex.proofs.Sum.{sum_ext, sum_neg}
use Rattle.nf_simplex.proofs.Exchange.{divide_times}
use Rattle.nf_sums.specs.Terms.{Terms}
use Rattle.nf_sums.specs.Rows.{quotient_terms, update_terms}
use Rattle.nf_inverse.specs.Weights.{weight}
use Rattle.nf_inverse.specs.Causes.{ExchangeTerms}
use Rattle.nf_inverse.specs.Causes.ExchangeTerms.{scaled, update}
use Rattle.nf_inverse.specs.Exchanged.{IsExchanged}
use Rattle.nf_work.specs.Matrix.{Matrix, IsRegular, AreInverses, IsColumnReplaced, IsRowChanged}
use Rattle.nf_sums.proofs.Laws.{wider}
use Rattle.nf_work.specs.declared.fault.WorkFault.{WorkFault}
use Rattle.nf_work.specs.declared.fault.WorkFault.TheVariants.{Passed, Singular}
use Rattle.nf_work.specs.Causes.{entries, IsChangedByRow, ReplaceTerms, RowColumnTerms}
use Rattle.nf_work.specs.Changed.{IsInverseOf, HasReplaced, HasReplacedRow, IsReplaceFault, IsRowFault}
use Rattle.nf_work.proofs.Inverses.{pivot, singular_column, column_update, row_update}

pivot_is : (w : List (List ℚ)) (Q : Matrix) (inv : IsInverseOf Q w) (at : ℕ) (c : ℕ → ℚ) (Q' : Matrix) (q : IsColumnReplaced (length w) Q at c Q') (a : ℕ) → pivot (length w) Q (weight w) inv at c Q' q a ≡ entries w c a
unfolding pivot
pivot_is w Q inv at c Q' q a = sum_ext (length w) (λ i. c i *ℚ weight w a i) (λ i. weight w a i *ℚ c i) (λ i m. mul_comm (c i) (weight w a i))

pub singular : (w : List (List ℚ)) (at : ℕ) (c : ℕ → ℚ) (e : ℚ) → e ≡ entries w c at → e ≡ zero_ℚ → (Q Q' : Matrix) → IsInverseOf Q w → IsColumnReplaced (length w) Q at c Q' → IsRegular (length w) Q' → ⊥
singular w at c e is z Q Q' inv q reg = singular_column (length w) Q (weight w) inv at c Q' q (pivot_is w Q inv at c Q' q at ∙ (sym is ∙ z)) reg

pub replaced : (old new : List (List ℚ)) (at : ℕ) (c e : ℕ → ℚ) → at < length old → length new ≡ length old → ((a : ℕ) → a < length old → e a ≡ entries old c a) → e at ≢ zero_ℚ → IsExchanged old new e at → (Q Q' : Matrix) → IsInverseOf Q old → IsColumnReplaced (length old) Q at c Q' → IsInverseOf Q' new
replaced old new at c e there size is nz changed Q Q' inv q =
    subst (λ n. AreInverses n Q' (weight new)) (sym size)
    (column_update (length old) Q (weight old) inv at c Q' q (weight new) (λ z. nz (e_is at there ∙ z))
    record {
      new_row = λ r h. ap₂ (λ x y. x *ℚ y) (changed.leaving_slot r h) (sym (e_is at there)) ∙ divide_times (weight old at r) (e at) nz;
      other_rows = λ a r h l d. changed.other_slots a r h l d ∙ ap (λ z. weight old a r -ℚ z *ℚ weight new at r) (e_is a h);
    })
  where
    e_is : (a : ℕ) → a < length old → e a ≡ pivot (length old) Q (weight old) inv at c Q' q a
    e_is a h = is a h ∙ sym (pivot_is old Q inv at c Q' q a)

-- the change by a row
pub changed_by_row : (old new : List (List ℚ)) (row : ℕ → ℚ) (at : ℕ) → IsChangedByRow old new row at → (Q E : Matrix) → IsInverseOf Q old → IsRowChanged (length old) Q row at E → IsInverseOf E new
changed_by_row old new row at t Q E inv q =
    subst (λ n. AreInverses n E (weight new)) (sym t.size)
    (row_update (length old) Q (weight old) inv row at E q (weight new)
    record {
      new_row = λ r h.
          t.there r h
          ∙ (sum_ext (length old) (λ b. weight old b r *ℚ neg_ℚ (row b)) (λ b. neg_ℚ (row b *ℚ weight old b r)) (λ b l. ring (weight old b r ∷ row b ∷ []) (v 0 :* minus (v 1)) (minus (v 1 :* v 0)) refl)
          ∙ sum_neg (length old) (λ b. row b *ℚ weight old b r));
      other_rows = λ a r h l d. t.others a r d;
    })

-- the rows of an exchange by entries that are equal
pub exchange_same : (w : List (List ℚ)) (e f : ℕ → ℚ) (l : ℕ) → l < length w → ((s : ℕ) → s < length w → e s ≡ f s) → (t : Terms) → ExchangeTerms w e l t → ExchangeTerms w f l t
exchange_same w e f l h same t (scaled i b) = subst (λ z. ExchangeTerms w f l (quotient_terms (weight w l i) z)) (sym (same l h)) (scaled i b)
exchange_same w e f l h same t (update s i a b) =
    subst (λ z. ExchangeTerms w f l (update_terms (weight w s i) true (e s) (weight w l i) z)) (sym (same l h))
    (subst (λ z. ExchangeTerms w f l (update_terms (weight w s i) true z (weight w l i) (f l))) (sym (same s a)) (update s i a b))

-- both changes
pub row_replaced : (old mid new : List (List ℚ)) (row : ℕ → ℚ) (at : ℕ) (c : ℕ → ℚ) → IsChangedByRow old mid row at → HasReplaced mid at c new → HasReplacedRow old row at c new
row_replaced old mid new row at c t h = λ Q E Q' inv q r. h E Q' (changed_by_row old mid row at t Q E inv q) (subst (λ n. IsColumnReplaced n E at c Q') (sym t.size) r)

pub row_fault : (old mid : List (List ℚ)) (row : ℕ → ℚ) (at : ℕ) (c : ℕ → ℚ) → IsChangedByRow old mid row at → (e : WorkFault) → IsReplaceFault mid at c e → IsRowFault old row at c e
row_fault old mid row at c t Singular h = λ Q E Q' inv q r reg. h E Q' (changed_by_row old mid row at t Q E inv q) (subst (λ n. IsColumnReplaced n E at c Q') (sym t.size) r) (subst (λ n. IsRegular n Q') (sym t.size) reg)
row_fault old mid row at c t (Passed p) h = wider (ReplaceTerms mid at c) (RowColumnTerms old row at c) p (λ s e. RowColumnTerms.replaced mid t s e) h
