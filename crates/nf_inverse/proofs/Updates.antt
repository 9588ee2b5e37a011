-- The rows of an exchange and of the values among those that their causes name.
use Rattle.std.proofs.Common.{◌≡◌, ℕ, List, ◌<◌, length, inl, inr, refl, sym, ◌∙◌, ap, ap₂, subst, true}
use Rattle.nf_num.specs.Rational.{ℚ, ◌-ℚ◌, ◌*ℚ◌, inv_ℚ}
use Rattle.nf_frac.specs.declared.Passed.{Passed}
use Rattle.nf_sums.specs.Terms.{Terms, PassesIn, Is}
use Rattle.nf_sums.specs.Rows.{difference_terms, quotient_terms, update_terms}
use Rattle.nf_sums.proofs.Laws.{scaled_passed, wider}
use Rattle.nf_inverse.specs.Causes.{ExchangeTerms, RatioTerms, ScaledTerms, SubtractsMultiple, ValueTerms}
use Rattle.nf_inverse.specs.Causes.ExchangeTerms.{scaled, update}
use Rattle.nf_inverse.specs.Causes.ValueTerms.{difference, quotient}
use Rattle.nf_inverse.specs.Weights.{at, weight, weights_of}

-- the rows of a ratio among those of the values
pub ratio_of_values : (values : List ℚ) (entry : ℕ → ℚ) (leaving : ℕ) (bound start v e : ℚ) → v ≡ at values leaving → e ≡ entry leaving → (t : Terms) → RatioTerms v bound e t → ValueTerms values entry leaving bound start t
ratio_of_values values entry leaving bound start v e a b t (inl h) = subst (ValueTerms values entry leaving bound start) (sym (h ∙ ap (λ z. difference_terms z bound) a)) difference
ratio_of_values values entry leaving bound start v e a b t (inr h) = subst (ValueTerms values entry leaving bound start) (sym (h ∙ ap₂ (λ y z. quotient_terms (y -ℚ bound) z) a b)) quotient

-- a weight of the leaving slot, divided
pub scaled_in_exchange : (w : List (List ℚ)) (entry : ℕ → ℚ) (leaving : ℕ) (row : List ℚ) (e : ℚ) → row ≡ weights_of w leaving → length (weights_of w leaving) ≡ length w → e ≡ entry leaving → (t : Terms) → ScaledTerms row e t → ExchangeTerms w entry leaving t
scaled_in_exchange w entry leaving row e r n d t h =
    subst (ExchangeTerms w entry leaving) (sym (h.2 ∙ ap₂ (λ (l : List ℚ) z. quotient_terms (at l h.0) z) r d)) (scaled h.0 (subst (λ m. h.0 < m) (ap length r ∙ n) h.1))

-- a weight of another slot, updated
pub update_in_exchange : (w : List (List ℚ)) (entry : ℕ → ℚ) (leaving s n : ℕ) (xs : List ℚ) (p : Passed) → n ≡ length w → s < n → ((i : ℕ) → i < n → at xs i ≡ weight w leaving i *ℚ inv_ℚ (entry leaving)) → SubtractsMultiple (weights_of w s) n (at xs) (entry s) p → PassesIn (ExchangeTerms w entry leaving) p
update_in_exchange w entry leaving s n xs p e h q step =
    let i = step.0 in
    wider (Is (update_terms (weight w s i) true (entry s) (weight w leaving i) (entry leaving))) (ExchangeTerms w entry leaving) p
    (λ t f. subst (ExchangeTerms w entry leaving) (sym f) (update s i (subst (λ m. s < m) e h) (subst (λ m. i < m) e step.1)))
    (scaled_passed (weight w s i) (entry s) (weight w leaving i) (entry leaving) _ _ _ _ refl (q i step.1) refl step.2)
