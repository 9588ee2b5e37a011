-- The sum over entries that are read is that over all rows, and what arises in it arises over all rows.
use Rattle.std.proofs.Common.{◌≡◌, ◌≢◌, ℕ, zero, suc, ◌<◌, refl, sym, ◌∙◌, ap, subst, arith, Bool, true, false, eq-eqb}
use Rattle.std.specs.Prelude.{nat_eq, if◌then◌else◌, ◌||◌}
use native.Mathlib.Decide.{ℕ_discrete}
use Rattle.nf_num.specs.Rational.{ℚ, zero_ℚ, ◌*ℚ◌}
use Rattle.nf_num.specs.Sum.{sum_ℚ}
use Rattle.nf_num.proofs.Sums.{sum_same}
use Rattle.nf_num.proofs.Laws.{mul_comm, zero_mul}
use Rattle.nf_sums.specs.Rows.{product_terms}
use Rattle.nf_sums.proofs.Chosen.{hit, sum_hit}
use Rattle.nf_sums.proofs.Part.{IsPartOf, same_term}
use Rattle.nf_inverse.specs.Weights.{GivesEntries}

-- a place that is one of the places
hit_at : (n : ℕ) (place : ℕ → ℕ) (k : ℕ) → k < n → hit n place (λ _. true) (place k) ≡ true
unfolding hit
hit_at zero place k h = absurd (omega arith)
hit_at (suc n) place k h = elim (ℕ_discrete k n) [
  | yes e ↦ ap (λ b. b || hit n place (λ _. true) (place k)) (eq-eqb (place n) (place k) (ap place (sym e)))
  | no d ↦ either (nat_eq (place n) (place k)) (hit n place (λ _. true) (place k)) (hit_at n place k (omega arith))
]
  where
    either : (a b : Bool) → b ≡ true → a || b ≡ true
    either true b e = refl
    either false b e = e

not_hit : (n : ℕ) (place : ℕ → ℕ) (j : ℕ) → hit n place (λ _. true) j ≡ false → (k : ℕ) → k < n → place k ≢ j
not_hit n place j e k h s = no_both (hit n place (λ _. true) j) (subst (λ i. hit n place (λ _. true) i ≡ true) s (hit_at n place k h)) e
  where
    no_both : (b : Bool) → b ≡ true → b ≡ false → ⊥
    no_both true p q = cc
    no_both false p q = cc

pub entries_sum : (gives : ℕ → ℕ × ℚ → Type 0) (count n : ℕ) (w a : ℕ → ℚ) (h : GivesEntries gives count n a) → sum_ℚ count (λ k. w (h.row k) *ℚ a (h.row k)) ≡ sum_ℚ n (λ i. w i *ℚ a i)
entries_sum gives count n w a h =
    sym (sum_hit n count h.row (λ _. true) (λ i. w i *ℚ a i) h.within h.apart)
    ∙ sum_same n _ _ (λ i b. here i b (hit count h.row (λ _. true) i) refl)
  where
    here : (i : ℕ) → i < n → (c : Bool) → hit count h.row (λ _. true) i ≡ c → (if c then w i *ℚ a i else zero_ℚ) ≡ w i *ℚ a i
    here i b true e = refl
    here i b false e = sym (ap (λ z. w i *ℚ z) (h.rest i b (not_hit count h.row i e)) ∙ mul_comm (w i) zero_ℚ ∙ zero_mul (w i))

pub entries_part : (gives : ℕ → ℕ × ℚ → Type 0) (count n : ℕ) (w a : ℕ → ℚ) (h : GivesEntries gives count n a) → IsPartOf (product_terms count (λ k. w (h.row k)) (λ k. a (h.row k))) (product_terms n w a)
entries_part gives count n w a h = record { place = h.row; within = h.within; apart = h.apart; turned = false; term = λ k b. same_term _ _ refl }
