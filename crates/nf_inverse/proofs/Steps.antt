-- What the loop over the slots keeps, from one slot to the next.
use Rattle.std.proofs.Common.{◌≡◌, ◌≢◌, ℕ, List, ◌<◌, ◌+◌, length, sym, ◌∙◌, ap, ap₂, subst, arith}
use native.Mathlib.Decide.{ℕ_discrete}
use Rattle.nf_num.specs.Rational.{ℚ, ◌-ℚ◌, ◌*ℚ◌, inv_ℚ}
use Rattle.nf_num.proofs.Laws.{mul_comm}
use Rattle.nf_inverse.specs.Exchanged.{IsExchanged}
use Rattle.nf_inverse.specs.Weights.{at, weight, weights_of}

pub done_more : (old now new : List (List ℚ)) (s n leaving : ℕ) (scaled entry : ℕ → ℚ) (e : ℚ) → e ≡ entry s → ((k : ℕ) → k ≢ s → weights_of new k ≡ weights_of now k) → weights_of now s ≡ weights_of old s → ((i : ℕ) → i < n → weight new s i ≡ weight now s i -ℚ scaled i *ℚ e) → ((k i : ℕ) → k < s → i < n → k ≢ leaving → weight now k i ≡ weight old k i -ℚ scaled i *ℚ entry k) → (k i : ℕ) → k < s + 1 → i < n → k ≢ leaving → weight new k i ≡ weight old k i -ℚ scaled i *ℚ entry k
done_more old now new s n leaving scaled entry e f others rest value done k i h b d = elim (ℕ_discrete k s) [
  | yes q ↦ ap (λ (j : ℕ). weight new j i) q ∙ value i b ∙ ap₂ (λ (l : List ℚ) z. at l i -ℚ scaled i *ℚ z) rest f ∙ ap (λ (j : ℕ). weight old j i -ℚ scaled i *ℚ entry j) (let r : s ≡ k = omega arith in r)
  | no q ↦ ap (λ (l : List ℚ). at l i) (others k q) ∙ done k i (let r : k < s = omega arith in r) b d
]

-- the rows of an exchange
pub exchanged : (old mid new : List (List ℚ)) (n : ℕ) (entry : ℕ → ℚ) (leaving : ℕ) (scaled : List ℚ) → length old ≡ n → ((i : ℕ) → i < n → at scaled i ≡ weight old leaving i *ℚ inv_ℚ (entry leaving)) → ((s i : ℕ) → s < n → i < n → s ≢ leaving → weight mid s i ≡ weight old s i -ℚ at scaled i *ℚ entry s) → weights_of new leaving ≡ scaled → ((k : ℕ) → k ≢ leaving → weights_of new k ≡ weights_of mid k) → IsExchanged old new entry leaving
exchanged old mid new n entry leaving scaled e q u v o = record {
  leaving_slot = λ i h. ap (λ (l : List ℚ). at l i) v ∙ q i (subst (λ m. i < m) e h);
  other_slots = λ s i h b d.
      ap (λ (l : List ℚ). at l i) (o s d) ∙ u s i (subst (λ m. s < m) e h) (subst (λ m. i < m) e b) d
      ∙ ap (λ z. weight old s i -ℚ z) (mul_comm (at scaled i) (entry s) ∙ ap (λ (l : List ℚ). entry s *ℚ at l i) (sym v));
}
