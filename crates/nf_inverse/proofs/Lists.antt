-- Lists that a loop changes place by place, and steps over numbers that are equal.
use Rattle.std.proofs.Common.{◌≡◌, ◌≢◌, ℕ, List, ◌<◌, length, set, subst, subst₂, sym, ap, ◌∙◌, eq-eqb, ne_eqb, ◌+◌, arith}
use Rattle.std.specs.Prelude.{nat_eq, if◌then◌else◌}
use native.Mathlib.Decide.{ℕ_discrete}
use Rattle.nf_sums.proofs.Chosen.{kept, dropped}
use Rattle.std.proofs.lemmas.List.{get_or-set_same, get_or-set_other}
use Rattle.nf_num.specs.Rational.{ℚ, zero_ℚ, ◌*ℚ◌, inv_ℚ}
use Rattle.nf_num.proofs.Laws.{zero_mul}
use Rattle.nf_frac.specs.declared.Passed.{Passed}
use Rattle.nf_sums.specs.Steps.{AddsProduct, SubtractsProduct}
use Rattle.nf_inverse.specs.Causes.{SubtractsMultiple}
use Rattle.nf_inverse.specs.Weights.{at}

pub adds_same : (t u a b f : ℚ) (p : Passed) → t ≡ u → a ≡ b → AddsProduct t a f p → AddsProduct u b f p
adds_same t u a b f p e d s = subst₂ (λ x y. AddsProduct x y f p) e d s

pub subtracts_same : (t u a b f : ℚ) (p : Passed) → t ≡ u → a ≡ b → SubtractsProduct t a f p → SubtractsProduct u b f p
subtracts_same t u a b f p e d s = subst₂ (λ x y. SubtractsProduct x y f p) e d s

-- what holds below a place and there holds below the next
pub next_place : (P : ℕ → Type 0) (k : ℕ) → ((j : ℕ) → j < k → P j) → P k → (j : ℕ) → j < k + 1 → P j
next_place P k below here j h = elim (ℕ_discrete j k) [ yes e ↦ subst P (sym e) here | no d ↦ below j (omega arith) ]

pub at_set : (xs : List ℚ) (k : ℕ) (v : ℚ) → k < length xs → at (set xs k v) k ≡ v
at_set xs k v h = get_or-set_same xs k v zero_ℚ h

pub at_other : (xs : List ℚ) (k j : ℕ) (v : ℚ) → j ≢ k → at (set xs k v) j ≡ at xs j
at_other xs k j v n = get_or-set_other xs k j v zero_ℚ n

pub zero_divided : (a b : ℚ) → a ≡ zero_ℚ → a ≡ a *ℚ inv_ℚ b
zero_divided a b e = e ∙ sym (zero_mul (inv_ℚ b)) ∙ ap (λ z. z *ℚ inv_ℚ b) (sym e)

-- a row of zeros with one number put
pub put_in_zeros : (xs : List ℚ) (own i : ℕ) (v : ℚ) → own < length xs → ((k : ℕ) → at xs k ≡ zero_ℚ) → at (set xs own v) i ≡ (if nat_eq own i then v else zero_ℚ)
put_in_zeros xs own i v h z = elim (ℕ_discrete own i) [
  | yes e ↦ subst (λ j. at (set xs own v) j ≡ v) e (at_set xs own v h) ∙ sym (kept (nat_eq own i) v (eq-eqb own i e))
  | no d ↦ at_other xs own i v (λ e. d (sym e)) ∙ z i ∙ sym (dropped (nat_eq own i) v (ne_eqb own i d))
]

pub subtracts_row : (t u : List ℚ) (m n : ℕ) (a : ℕ → ℚ) (f e : ℚ) (p : Passed) → t ≡ u → m ≡ n → f ≡ e → SubtractsMultiple t m a f p → SubtractsMultiple u n a e p
subtracts_row t u m n a f e p d k q s = subst₂ (λ l z. SubtractsMultiple l n a z p) d q (subst (λ i. SubtractsMultiple t i a f p) k s)
