-- The trail of a path: the slots that have a weight, written down one by one and wiped again.
use Rattle.std.proofs.Common.{◌≡◌, ◌≢◌, ◌⊎◌, inl, inr, refl, ℕ, zero, suc, ◌<◌, ◌≤◌, List, length, set, slice_index, cond, sym, ap, ap₂, ◌∙◌, subst, arith}
use Rattle.std.specs.Prelude.{◌==◌}
use Rattle.std.proofs.lemmas.List.{get_or-set_same, get_or-set_other}
use Rattle.nf_num.specs.Rational.{ℚ, zero_ℚ, one_ℚ, neg_ℚ}
use Rattle.nf_model.specs.Program.{at}
use Rattle.nf_simplex.proofs.Sum.{equal_or_not}
use Rattle.nf_tree.specs.Network.{turn}
use Rattle.nf_tree.specs.Links.{AreSlotsOf, ListsWeights}
use Rattle.nf_tree.proofs.Connected.{zero_or_not}

-- A slot is written behind the trail, and its weight is set.
pub put : (trail : List ℕ) (count : ℕ) (out : List ℚ) (i : ℕ) (x : ℚ) → count < length trail → ListsWeights trail 0 count out → ListsWeights (set trail count i) 0 (suc count) (set out i x)
put trail count out i x h listed w ne = of (equal_or_not w i)
  where
    of : (w ≡ i) ⊎ (w ≢ i) → (k : ℕ) × (0 ≤ k) × (k < suc count) × (slice_index (set trail count i) k ≡ w)
    of (inl e) = (count, omega arith, omega arith, get_or-set_same trail count i 0 h ∙ sym e)
    of (inr d) =
        let (k, a, b, e) = listed w (λ z. ne (get_or-set_other out i w x zero_ℚ d ∙ z)) in
        (k, a, omega arith, get_or-set_other trail count k i 0 (λ q. omega arith) ∙ e)

-- So are all slots of the trail.
pub put_slot : (n : ℕ) (trail : List ℕ) (count i : ℕ) → count < length trail → i < n → AreSlotsOf n trail count → AreSlotsOf n (set trail count i) (suc count)
put_slot n trail count i h l slots k b = of (equal_or_not k count)
  where
    of : (k ≡ count) ⊎ (k ≢ count) → slice_index (set trail count i) k < n
    of (inl e) = subst (λ j. slice_index (set trail count i) j < n) (sym e) (subst (λ y. y < n) (sym (get_or-set_same trail count i 0 h)) l)
    of (inr d) = subst (λ y. y < n) (sym (get_or-set_other trail count k i 0 d)) (slots k (omega arith))

-- The weight of the next slot of the trail is set to 0.
pub wiped : (trail : List ℕ) (k count : ℕ) (out : List ℚ) → slice_index trail k < length out → ListsWeights trail k count out → ListsWeights trail (suc k) count (set out (slice_index trail k) zero_ℚ)
wiped trail k count out h listed w ne = of (equal_or_not w (slice_index trail k))
  where
    of : (w ≡ slice_index trail k) ⊎ (w ≢ slice_index trail k) → (j : ℕ) × (suc k ≤ j) × (j < count) × (slice_index trail j ≡ w)
    of (inl e) = absurd (ne (ap (λ j. at (set out (slice_index trail k) zero_ℚ) j) e ∙ get_or-set_same out (slice_index trail k) zero_ℚ zero_ℚ h))
    of (inr d) =
        let (j, a, b, e) = listed w (λ z. ne (get_or-set_other out (slice_index trail k) w zero_ℚ zero_ℚ d ∙ z)) in
        let apart : j ≢ k = λ q. d (sym e ∙ ap (slice_index trail) q) in
        (j, later j k a apart, b, e)
      where
        later : (j k : ℕ) → k ≤ j → j ≢ k → suc k ≤ j
        later j k a n = grind arith

-- With none left, all weights are 0.
pub none_left : (trail : List ℕ) (count : ℕ) (out : List ℚ) → ListsWeights trail count count out → (k : ℕ) → at out k ≡ zero_ℚ
none_left trail count out listed w = of (zero_or_not (at out w))
  where
    of : (at out w ≡ zero_ℚ) ⊎ (at out w ≢ zero_ℚ) → at out w ≡ zero_ℚ
    of (inl z) = z
    of (inr ne) = let (j, a, b, e) = listed w ne in absurd (omega arith)

-- What is no root is a node.
pub some_node : (u : ℕ) → u ≢ 0 → 0 < u
some_node zero ne = absurd (ne refl)
some_node (suc i) ne = omega arith

-- The turn of a column, read off its tail.
pub turn_read : (tail arc : ℕ → ℕ) (i t v : ℕ) → t ≡ tail (arc i) → v ≡ suc i → cond (t == v) one_ℚ (neg_ℚ one_ℚ) ≡ turn tail arc i
unfolding turn
turn_read tail arc i t v e f = ap₂ (λ a b. cond (a == b) one_ℚ (neg_ℚ one_ℚ)) e f
