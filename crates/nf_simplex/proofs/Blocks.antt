-- In phase one some column always blocks. Where none does, no bound stands in the direction's way.
use Rattle.std.proofs.Common.{◌≡◌, ◌≢◌, ℕ, zero, suc, ◌<◌, ◌⊎◌, inl, inr, Bool, false, [], ◌∷◌, refl, sym, ap, ◌∙◌, subst, arith, Option, Some, None}
use Rattle.nf_num.specs.Rational.{ℚ, zero_ℚ, one_ℚ, ◌+ℚ◌, ◌*ℚ◌, neg_ℚ, inv_ℚ, ◌<ℚ◌}
use Rattle.nf_num.specs.Sum.{sum_ℚ}
use Rattle.nf_simplex.specs.Lex.{bound_vector, IsLexFeasible}
use Rattle.nf_simplex.specs.Numbers.{AreDuals, reduced}
use Rattle.nf_simplex.specs.Objective.{Improves}
use Rattle.nf_simplex.specs.Place.{Place, Basic}
use Rattle.nf_simplex.specs.Stage.{Stage}
use Rattle.nf_simplex.specs.Step.{signed, CanEnter, IsNext}
use Rattle.nf_simplex.proofs.Basis.{basic_or_not}
use Rattle.nf_simplex.proofs.Falls.{rate_cost, improving_positive}
use Rattle.nf_simplex.proofs.FieldLaws.{add-zero}
use Rattle.nf_simplex.proofs.Lex.{sign_cases, not_zero, add-positive}
use Rattle.nf_simplex.proofs.Next.{bound_of}
use Rattle.nf_simplex.proofs.Ratio.{speed, X, speed_off, IsBlock, IsStep, block_of, next_is_step}
use Rattle.nf_simplex.proofs.Sum.{neg-zero, equal_or_not}
use Rattle.nf_simplex.proofs.Terms.{v, minus, ◌:+◌, ring, mul-zero, zero-mul, one-mul}

-- A negative sum_ℚ has a negative member.
pub some_negative : (n : ℕ) (f : ℕ → ℚ) → zero_ℚ <ℚ neg_ℚ (sum_ℚ n f) → (j : ℕ) × (j < n) × (zero_ℚ <ℚ neg_ℚ (f j))
unfolding sum_ℚ
some_negative zero f h = absurd (not_zero (neg_ℚ zero_ℚ) h (neg-zero))
some_negative (suc n) f h = of (sign_cases (f n)) (some_negative n f)
  where
    more : (j : ℕ) × (j < n) × (zero_ℚ <ℚ neg_ℚ (f j)) → (j : ℕ) × (j < suc n) × (zero_ℚ <ℚ neg_ℚ (f j))
    more (j, l, p) = (j, omega arith, p)

    of : (zero_ℚ <ℚ f n) ⊎ ((f n ≡ zero_ℚ) ⊎ (zero_ℚ <ℚ neg_ℚ (f n))) → (zero_ℚ <ℚ neg_ℚ (sum_ℚ n f) → (j : ℕ) × (j < n) × (zero_ℚ <ℚ neg_ℚ (f j))) → (j : ℕ) × (j < suc n) × (zero_ℚ <ℚ neg_ℚ (f j))
    of (inl p) ih = more (ih (subst (λ x. zero_ℚ <ℚ x) (ring (sum_ℚ n f ∷ f n ∷ []) (minus (v 0 :+ v 1) :+ v 1) (minus (v 0)) refl) (add-positive _ _ h p)))
    of (inr (inl e)) ih = more (ih (subst (λ x. zero_ℚ <ℚ neg_ℚ x) (ap (λ y. sum_ℚ n f +ℚ y) e ∙ add-zero _) h))
    of (inr (inr p)) ih = (n, omega arith, p)

module _ (S : Stage) (s : ℕ → Place) (fs : IsLexFeasible S s) (e : ℕ) (down : Bool) (c : CanEnter S s e down) where
  -- Where phase one wants e to enter, an artificial blocks: a column with the cost 1 has the lower bound 0.
  pub phase_one_blocks : (one y1 : ℕ → ℚ) → AreDuals S s one y1 → Improves down (reduced S one y1 e)
      → ((j : ℕ) → j < S.columns → (one j ≡ zero_ℚ) ⊎ ((one j ≡ one_ℚ) × (S.lower j ≡ Some zero_ℚ))) → one e ≡ zero_ℚ
      → (j : ℕ) × (R : ℕ → ℚ) × IsBlock S s fs e down c j false zero_ℚ R
  phase_one_blocks one y1 p better costs free = of (some_negative S.columns (λ j. one j *ℚ v' j) (subst (λ x. zero_ℚ <ℚ neg_ℚ x) (sym (rate_cost S s fs e down c one y1 p)) (improving_positive down (reduced S one y1 e) better)))
    where
      v' : ℕ → ℚ
      v' j = speed S s fs e down c j

      nothing : (j : ℕ) → zero_ℚ <ℚ neg_ℚ (one j *ℚ v' j) → one j *ℚ v' j ≡ zero_ℚ → ⊥
      nothing j h z = not_zero _ h (ap neg_ℚ z ∙ neg-zero)

      at : (j : ℕ) → j < S.columns → zero_ℚ <ℚ neg_ℚ (one j *ℚ v' j) → (one j ≡ zero_ℚ) ⊎ ((one j ≡ one_ℚ) × (S.lower j ≡ Some zero_ℚ)) → (j ≡ e) ⊎ (j ≢ e) → (s j ≡ Basic) ⊎ (s j ≢ Basic)
          → (j : ℕ) × (R : ℕ → ℚ) × IsBlock S s fs e down c j false zero_ℚ R
      at j h n (inl z) q b = absurd (nothing j n (ap (λ x. x *ℚ v' j) z ∙ zero-mul _))
      at j h n (inr z) (inl q) b = absurd (nothing j n (ap (λ x. x *ℚ v' j) (ap one q ∙ free) ∙ zero-mul _))
      at j h n (inr z) (inr q) (inr nb) = absurd (nothing j n (ap (λ x. one j *ℚ x) (speed_off S s fs e down c j h nb q) ∙ mul-zero _))
      at j h n (inr z) (inr q) (inl b) =
          (j, (λ k. (bound_vector zero_ℚ k +ℚ neg_ℚ (X S s fs e down c j k)) *ℚ inv_ℚ (v' j)), block_of S s fs e down c j false zero_ℚ h b z.1 (subst (λ x. zero_ℚ <ℚ neg_ℚ x) (ap (λ x. x *ℚ v' j) z.0 ∙ one-mul _) n))

      of : (j : ℕ) × (j < S.columns) × (zero_ℚ <ℚ neg_ℚ (one j *ℚ v' j)) → (j : ℕ) × (R : ℕ → ℚ) × IsBlock S s fs e down c j false zero_ℚ R
      of (j, h, n) = at j h n (costs j h) (equal_or_not j e) (basic_or_not (s j))

  -- Where no column blocks, a basic column that moves has no bound in its way.
  pub free_way : ((R : ℕ → ℚ) → IsStep S s fs e down c R → ⊥) → (j : ℕ) → j < S.columns → s j ≡ Basic → (up : Bool) → zero_ℚ <ℚ neg_ℚ (signed up (speed S s fs e down c j)) → bound_of S up j ≡ None
  free_way none j h b up m = at (bound_of S up j) refl
    where
      at : (o : Option ℚ) → bound_of S up j ≡ o → o ≡ None
      at None q = refl
      at (Some y) q = absurd (none _ (inl (j, up, y, block_of S s fs e down c j up y h b q m)))

  -- And then there is no next state.
  pub none_next : ((R : ℕ → ℚ) → IsStep S s fs e down c R → ⊥) → (t : ℕ → Place) → IsNext S s e down t → ⊥
  none_next none t x = none _ (next_is_step S s fs e down c t x)
