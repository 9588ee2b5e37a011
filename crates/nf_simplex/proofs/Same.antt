-- What of a stage's notions depends on the places of its own columns alone.
use Rattle.std.proofs.Common.{◌≡◌, ◌≢◌, ℕ, ◌<◌, ◌⊎◌, inl, inr, sym, ap, ◌∙◌, subst}
use Rattle.nf_num.specs.Rational.{ℚ, zero_ℚ, ◌+ℚ◌, ◌*ℚ◌, neg_ℚ, inv_ℚ, ◌<ℚ◌}
use Rattle.nf_num.specs.Sum.{sum_ℚ}
use Rattle.nf_simplex.specs.Place.{Place, Basic, one_if_basic}
use Rattle.nf_simplex.specs.Stage.{Stage}
use Rattle.nf_simplex.specs.Numbers.{StandsAt, IsIndependent, IsBasis, IsValues, AreWeights, reduced, AreDuals}
use Rattle.nf_simplex.specs.Lex.{IsLexFeasible}
use Rattle.nf_simplex.specs.Ends.{HasEndedInfeasible, HasEndedOptimal, IsPriced, IsFactor}
use Rattle.nf_simplex.specs.Pricing.{IsEligible}
use Rattle.nf_simplex.proofs.Sum.{sum_ext}
use Rattle.nf_simplex.proofs.Count.{count_same}

module _ (S : Stage) (s t : ℕ → Place) (same : (j : ℕ) → j < S.columns → t j ≡ s j) where
  basic_there : (j : ℕ) → j < S.columns → t j ≢ Basic → s j ≢ Basic
  basic_there j h n e = n (same j h ∙ e)

  basic_back : (j : ℕ) → j < S.columns → s j ≢ Basic → t j ≢ Basic
  basic_back j h n e = n (sym (same j h) ∙ e)

  pub independent_same : IsIndependent S s → IsIndependent S t
  independent_same ind w of_basics null = ind w (λ j h n. of_basics j h (basic_back j h n)) null

  pub basis_same : IsBasis S s → IsBasis S t
  basis_same b = record { as_many = count_same s t S.columns (λ j h. ap one_if_basic (same j h)) ∙ b.as_many; independent = independent_same b.independent }

  pub values_same : (x : ℕ → ℚ) → IsValues S s x → IsValues S t x
  values_same x v = record { stands = λ j h. subst (λ q. StandsAt q (S.lower j) (S.upper j) (x j)) (sym (same j h)) (v.stands j h); equations = v.equations }

  pub weights_same : (a w : ℕ → ℚ) → AreWeights S s a w → AreWeights S t a w
  weights_same a w v = record { of_basics = λ j h n. v.of_basics j h (basic_there j h n); gives = v.gives }

  pub duals_same : (c y : ℕ → ℚ) → AreDuals S s c y → AreDuals S t c y
  duals_same c y d j h b = d j h (sym (same j h) ∙ b)

  pub feasible_same : IsLexFeasible S s → IsLexFeasible S t
  feasible_same f = record {
    basis = basis_same f.basis;
    values = f.values;
    inverse = f.inverse;
    are_values = values_same f.values f.are_values;
    are_inverse = λ r h. weights_same _ (f.inverse r) (f.are_inverse r h);
    above = λ j h b. f.above j h (sym (same j h) ∙ b);
    under = λ j h b. f.under j h (sym (same j h) ∙ b);
  }

-- ---- other numbers that are equal in the stage's rows and columns
module _ (S : Stage) (s : ℕ → Place) where
  pub reduced_same : (c y z : ℕ → ℚ) → ((i : ℕ) → i < S.rows → y i ≡ z i) → (j : ℕ) → reduced S c y j ≡ reduced S c z j
  unfolding reduced
  reduced_same c y z same j = ap (λ w. c j +ℚ neg_ℚ w) (sum_ext S.rows _ _ (λ i h. ap (λ w. w *ℚ S.entry j i) (same i h)))

  pub total_same : (c x z : ℕ → ℚ) → ((j : ℕ) → j < S.columns → x j ≡ z j) → sum_ℚ S.columns (λ j. c j *ℚ x j) ≡ sum_ℚ S.columns (λ j. c j *ℚ z j)
  total_same c x z same = sum_ext S.columns _ _ (λ j h. ap (λ w. c j *ℚ w) (same j h))

  pub eligible_same : (x z one two y1 y2 : ℕ → ℚ) → ((j : ℕ) → j < S.columns → x j ≡ z j) → (j : ℕ) → IsEligible S s x one two y1 y2 j → IsEligible S s z one two y1 y2 j
  eligible_same x z one two y1 y2 same j (inl w) = inl w
  eligible_same x z one two y1 y2 same j (inr w) = inr (w.0, sym (total_same one x z same) ∙ w.1, w.2)

  pub optimal_same : (x z one two y1 y2 : ℕ → ℚ) → ((j : ℕ) → j < S.columns → x j ≡ z j) → HasEndedOptimal S s x one two y1 y2 → HasEndedOptimal S s z one two y1 y2
  optimal_same x z one two y1 y2 same h = (λ j e. h.0 j (eligible_same z x one two y1 y2 (λ k l. sym (same k l)) j e), sym (total_same one x z same) ∙ h.1)

  pub infeasible_same : (x z one y1 : ℕ → ℚ) → ((j : ℕ) → j < S.columns → x j ≡ z j) → HasEndedInfeasible S s x one y1 → HasEndedInfeasible S s z one y1
  infeasible_same x z one y1 same h = (h.0, subst (λ w. zero_ℚ <ℚ w) (total_same one x z same) h.1)

  pub factor_same : (d1 d2 e1 e2 : ℕ → ℚ) (m : ℚ) → ((j : ℕ) → d1 j ≡ e1 j) → ((j : ℕ) → d2 j ≡ e2 j) → IsFactor S s d1 d2 m → IsFactor S s e1 e2 m
  factor_same d1 d2 e1 e2 m one two f = record {
    not_negative = f.not_negative;
    not_less = λ j p n h. f.not_less j p (λ e. n (sym (one j) ∙ e)) (subst (λ z. m <ℚ z) (sym (ratio j)) h);
    attained = of f.attained;
  }
    where
      ratio : (j : ℕ) → neg_ℚ (d2 j) *ℚ inv_ℚ (d1 j) ≡ neg_ℚ (e2 j) *ℚ inv_ℚ (e1 j)
      ratio j = ap (λ z. neg_ℚ z *ℚ inv_ℚ (d1 j)) (two j) ∙ ap (λ z. neg_ℚ (e2 j) *ℚ inv_ℚ z) (one j)

      of : (m ≡ zero_ℚ) ⊎ ((j : ℕ) × IsPriced S s j × (d1 j ≢ zero_ℚ) × (m ≡ neg_ℚ (d2 j) *ℚ inv_ℚ (d1 j))) → (m ≡ zero_ℚ) ⊎ ((j : ℕ) × IsPriced S s j × (e1 j ≢ zero_ℚ) × (m ≡ neg_ℚ (e2 j) *ℚ inv_ℚ (e1 j)))
      of (inl e) = inl e
      of (inr (j, q, n, e)) = inr (j, q, (λ z. n (one j ∙ z)), e ∙ ratio j)
