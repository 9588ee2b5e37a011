-- Sums of natural numbers, and the sizes of subtrees.
use Rattle.std.proofs.Common.{◌≡◌, ◌≢◌, ℕ, zero, suc, ◌+◌, ◌-◌, ◌<◌, ◌≤◌, ◌⊎◌, inl, inr, cond, refl, sym, ap, ap₂, ◌∙◌, arith, eq-eqb, ne_eqb}
use Rattle.nf_view.specs.Order.{IsOrder}
use Rattle.nf_view.specs.Sizes.{total, where_same, AreSizes, AreSummed}

equal_or_not : (a b : ℕ) → (a ≡ b) ⊎ (a ≢ b)
equal_or_not a b = grind arith

below_last : (k n : ℕ) → k < suc n → (k < n) ⊎ (k ≡ n)
below_last k n h = grind arith

pub same_is : (p v x : ℕ) → p ≡ v → where_same p v x ≡ x
same_is p v x e = ap (λ b. cond b x 0) (eq-eqb p v e)

pub other_is : (p v x : ℕ) → p ≢ v → where_same p v x ≡ 0
other_is p v x e = ap (λ b. cond b x 0) (ne_eqb p v e)

pub total_ext : (n : ℕ) (f g : ℕ → ℕ) → ((k : ℕ) → k < n → f k ≡ g k) → total n f ≡ total n g
unfolding total
total_ext zero f g e = refl
total_ext (suc n) f g e = ap₂ (λ x y. x + y) (total_ext n f g (λ k h. e k (omega arith))) (e n (omega arith))

pub total_ones : (n : ℕ) (f : ℕ → ℕ) → ((k : ℕ) → k < n → f k ≡ 1) → total n f ≡ n
unfolding total
total_ones zero f e = refl
total_ones (suc n) f e = let a = total_ones n f (λ k h. e k (omega arith)) in let b = e n (omega arith) in omega arith

total_zero : (n : ℕ) (f : ℕ → ℕ) → ((k : ℕ) → k < n → f k ≡ 0) → total n f ≡ 0
unfolding total
total_zero zero f e = refl
total_zero (suc n) f e = let a = total_zero n f (λ k h. e k (omega arith)) in let b = e n (omega arith) in omega arith

total_add : (n : ℕ) (f g : ℕ → ℕ) → total n (λ k. f k + g k) ≡ total n f + total n g
unfolding total
total_add zero f g = refl
total_add (suc n) f g = let a = total_add n f g in omega arith

total_exchange : (m n : ℕ) (f : ℕ → ℕ → ℕ) → total m (λ r. total n (f r)) ≡ total n (λ i. total m (λ r. f r i))
unfolding total
total_exchange zero n f = sym (total_zero n (λ i. 0) (λ k h. refl))
total_exchange (suc m) n f = ap (λ x. x + total n (f m)) (total_exchange m n f) ∙ sym (total_add n (λ i. total m (λ r. f r i)) (f m))

-- The one member that is not 0.
pub total_pick : (n : ℕ) (h : ℕ → ℕ) (j : ℕ) → j < n → ((k : ℕ) → k < n → k ≢ j → h k ≡ 0) → total n h ≡ h j
unfolding total
total_pick zero h j l off = absurd (omega arith)
total_pick (suc n) h j l off = of (below_last j n l) (λ a. total_pick n h j a (λ k m ne. off k (omega arith) ne))
  where
    of : (j < n) ⊎ (j ≡ n) → (j < n → total n h ≡ h j) → total n h + h n ≡ h j
    of (inl a) below = let b = below a in let c = off n (omega arith) (λ e. omega arith) in omega arith
    of (inr e) below = let b = total_zero n h (λ k m. off k (omega arith) (λ q. omega arith)) in let c : h n ≡ h j = ap h (sym e) in omega arith

-- One member with x more.
pub total_more : (n : ℕ) (f g : ℕ → ℕ) (j x : ℕ) → j < n → g j ≡ f j + x → ((k : ℕ) → k < n → k ≢ j → g k ≡ f k) → total n g ≡ total n f + x
unfolding total
total_more zero f g j x l here off = absurd (omega arith)
total_more (suc n) f g j x l here off = of (below_last j n l) (λ a. total_more n f g j x a here (λ k m ne. off k (omega arith) ne))
  where
    of : (j < n) ⊎ (j ≡ n) → (j < n → total n g ≡ total n f + x) → total n g + g n ≡ total n f + f n + x
    of (inl a) below = let b = below a in let c = off n (omega arith) (λ e. omega arith) in omega arith
    of (inr e) below =
        let b = total_ext n g f (λ k m. off k (omega arith) (λ q. omega arith)) in
        let c : g n ≡ g j = ap g (sym e) in
        let d : f n ≡ f j = ap f (sym e) in
        omega arith

-- Each member is within the sum.
total_has : (n : ℕ) (f : ℕ → ℕ) (j : ℕ) → j < n → f j ≤ total n f
unfolding total
total_has zero f j l = absurd (omega arith)
total_has (suc n) f j l = of (below_last j n l) (λ a. total_has n f j a)
  where
    of : (j < n) ⊎ (j ≡ n) → (j < n → f j ≤ total n f) → f j ≤ total n f + f n
    of (inl a) below = let b = below a in omega arith
    of (inr e) below = let c : f n ≡ f j = ap f (sym e) in omega arith

pub total_two : (n : ℕ) (f : ℕ → ℕ) (j : ℕ) → j < n → f j + f n ≤ total (suc n) f
unfolding total
total_two n f j l = let a = total_has n f j l in omega arith

-- Members of at most 1, and one that is 0.
pub total_most : (n : ℕ) (f : ℕ → ℕ) → ((k : ℕ) → k < n → f k ≤ 1) → total n f ≤ n
unfolding total
total_most zero f m = omega arith
total_most (suc n) f m = let a = total_most n f (λ k h. m k (omega arith)) in let b = m n (omega arith) in omega arith

pub total_less : (n : ℕ) (f : ℕ → ℕ) (j : ℕ) → j < n → f j ≡ 0 → ((k : ℕ) → k < n → f k ≤ 1) → total n f < n
unfolding total
total_less zero f j l z m = absurd (omega arith)
total_less (suc n) f j l z m = of (below_last j n l) (λ a. total_less n f j a z (λ k h. m k (omega arith)))
  where
    of : (j < n) ⊎ (j ≡ n) → (j < n → total n f < n) → total n f + f n < suc n
    of (inl a) below = let b = below a in let c = m n (omega arith) in omega arith
    of (inr e) below = let b = total_most n f (λ k h. m k (omega arith)) in let c : f n ≡ f j = ap f (sym e) in omega arith

-- The first sizes.
pub none_summed : (n : ℕ) (pred order size : ℕ → ℕ) → IsOrder n pred order → ((v : ℕ) → v ≤ n → size v ≡ 1) → AreSummed n pred order size n
unfolding total
none_summed n pred order size o ones = record {
  sums = λ v h. (ones v h ∙ (let e : n - n ≡ 0 = omega arith in let f = ap (λ m. total m (λ r. where_same (pred (order (n - r))) v (size (order (n - r))))) e in omega arith));
  whole = total_ones (suc n) (λ i. size (order i)) (λ k h. ones (order k) (o.within k (omega arith)));
}

-- One more vertex is added to its predecessor.
module _ (n : ℕ) (pred order size size' : ℕ → ℕ) (o : IsOrder n pred order) (j : ℕ) (within : suc j ≤ n) (p : AreSummed n pred order size (suc j))
    (here : size' (pred (order (suc j))) ≡ size (pred (order (suc j))) + size (order (suc j)))
    (off : (v : ℕ) → v ≢ pred (order (suc j)) → size' v ≡ size v) where
  stays : (k : ℕ) → suc j ≤ k → k ≤ n → size' (order k) ≡ size (order k)
  stays k a b =
      let (i, l, e) = o.before (suc j) (omega arith) within in
      off (order k) (λ q. o.distinct i k (omega arith) b (e ∙ sym q))

  member : ℕ → ℕ → ℕ
  member v r = where_same (pred (order (n - r))) v (size (order (n - r)))

  member' : ℕ → ℕ → ℕ
  member' v r = where_same (pred (order (n - r))) v (size' (order (n - r)))

  gain : (v : ℕ) → size' v ≡ size v + where_same (pred (order (suc j))) v (size (order (suc j)))
  gain v = of (equal_or_not (pred (order (suc j))) v)
    where
      of : (pred (order (suc j)) ≡ v) ⊎ (pred (order (suc j)) ≢ v) → size' v ≡ size v + where_same (pred (order (suc j))) v (size (order (suc j)))
      of (inl e) =
          let a = same_is (pred (order (suc j))) v (size (order (suc j))) e in
          let b : size' v ≡ size' (pred (order (suc j))) = ap size' (sym e) in
          let c : size v ≡ size (pred (order (suc j))) = ap size (sym e) in
          omega arith
      of (inr e) =
          let a = other_is (pred (order (suc j))) v (size (order (suc j))) e in
          let b = off v (λ q. e (sym q)) in
          omega arith

  sums : (v : ℕ) → v ≤ n → size' v ≡ 1 + total (n - j) (member' v)
  unfolding total member member'
  sums v h =
      let m : ℕ = n - suc j in
      let e : n - j ≡ suc (n - suc j) = omega arith in
      let f : n - (n - suc j) ≡ suc j = omega arith in
      let a = p.sums v h in
      let b = gain v in
      let c : total (n - suc j) (member v) ≡ total (n - suc j) (member' v) =
      total_ext (n - suc j) (member v) (member' v) (λ r l. ap (λ x. where_same (pred (order (n - r))) v x) (sym (stays (n - r) (omega arith) (omega arith)))) in
      let d : member' v (n - suc j) ≡ where_same (pred (order (suc j))) v (size (order (suc j))) =
      ap (λ k. where_same (pred (order k)) v (size' (order k))) f ∙ ap (λ x. where_same (pred (order (suc j))) v x) (stays (suc j) (omega arith) within) in
      let g : total (n - j) (member' v) ≡ total (suc (n - suc j)) (member' v) = ap (λ k. total k (member' v)) e in
      join (size' v) (size v) (where_same (pred (order (suc j))) v (size (order (suc j)))) (total (n - suc j) (member v)) (total (n - suc j) (member' v)) (member' v (n - suc j)) (total (n - j) (member' v)) b a c d g
    where
      join : (s' s w t t' w' z : ℕ) → s' ≡ s + w → s ≡ 1 + t → t ≡ t' → w' ≡ w → z ≡ t' + w' → s' ≡ 1 + z
      join s' s w t t' w' z a b c d e = omega arith

  whole : total (suc j) (λ i. size' (order i)) ≡ suc n
  unfolding total
  whole =
      let (i, l, e) = o.before (suc j) (omega arith) within in
      let a : total (suc j) (λ i. size' (order i)) ≡ total (suc j) (λ i. size (order i)) + size (order (suc j)) =
      total_more (suc j) (λ i. size (order i)) (λ i. size' (order i)) i (size (order (suc j))) l (ap size' e ∙ (here ∙ ap (λ x. x + size (order (suc j))) (ap size (sym e))))
      (λ k m ne. off (order k) (λ q. at k i m l ne (q ∙ sym e))) in
      let b = p.whole in
      a ∙ b
    where
      either : (k i : ℕ) → k ≢ i → (k < i) ⊎ (i < k)
      either k i ne = grind arith

      at : (k i : ℕ) → k < suc j → i < suc j → k ≢ i → order k ≡ order i → ⊥
      at k i m l ne q = of (either k i ne)
        where
          of : (k < i) ⊎ (i < k) → ⊥
          of (inl a) = o.distinct k i a (omega arith) q
          of (inr a) = o.distinct i k a (omega arith) (sym q)

  pub summed_more : AreSummed n pred order size' j
  unfolding member'
  summed_more = record { sums = sums; whole = whole }

-- The sum over the order from the last vertex on, without the root, is that over the nodes.
module _ (n : ℕ) (pred order : ℕ → ℕ) (o : IsOrder n pred order) where
  node_at : (k : ℕ) → 0 < k → k ≤ n → (i : ℕ) × (i < n) × (order k ≡ suc i)
  node_at k a b = of (order k) refl (o.within k b)
    where
      of : (v : ℕ) → order k ≡ v → order k ≤ n → (i : ℕ) × (i < n) × (order k ≡ suc i)
      of zero e h = absurd (o.distinct 0 k a b (o.first ∙ sym e))
      of (suc i) e h = (i, omega arith, e)

  place_of : (i : ℕ) → i < n → (r : ℕ) × (r < n) × (order (n - r) ≡ suc i)
  place_of i h = of (o.every (suc i) (omega arith))
    where
      of : (k : ℕ) × (k ≤ n) × (order k ≡ suc i) → (r : ℕ) × (r < n) × (order (n - r) ≡ suc i)
      of (zero, l, e) = absurd (let a = o.first in omega arith)
      of (suc k, l, e) = (n - suc k, omega arith, (let f : n - (n - suc k) ≡ suc k = omega arith in ap order f ∙ e))

  one_place : (r s : ℕ) → r < n → s < n → order (n - r) ≡ order (n - s) → r ≡ s
  one_place r s h l e = of (either r s)
    where
      either : (r s : ℕ) → (r ≡ s) ⊎ ((r < s) ⊎ (s < r))
      either r s = grind arith

      of : (r ≡ s) ⊎ ((r < s) ⊎ (s < r)) → r ≡ s
      of (inl q) = q
      of (inr (inl q)) = absurd (o.distinct (n - s) (n - r) (omega arith) (omega arith) (sym e))
      of (inr (inr q)) = absurd (o.distinct (n - r) (n - s) (omega arith) (omega arith) e)

  reordered : (g : ℕ → ℕ) → total n (λ r. g (order (n - r))) ≡ total n (λ i. g (suc i))
  reordered g =
      total_ext n (λ r. g (order (n - r))) (λ r. total n (λ i. where_same (order (n - r)) (suc i) (g (suc i)))) (λ r h. by_place r h)
      ∙ (total_exchange n n (λ r i. where_same (order (n - r)) (suc i) (g (suc i)))
      ∙ total_ext n (λ i. total n (λ r. where_same (order (n - r)) (suc i) (g (suc i)))) (λ i. g (suc i)) (λ i h. by_node i h))
    where
      by_place : (r : ℕ) → r < n → g (order (n - r)) ≡ total n (λ i. where_same (order (n - r)) (suc i) (g (suc i)))
      by_place r h =
          let (i, l, e) = node_at (n - r) (omega arith) (omega arith) in
          sym (total_pick n (λ i. where_same (order (n - r)) (suc i) (g (suc i))) i l (λ k m ne. other_is (order (n - r)) (suc k) (g (suc k)) (λ q. ne (let z : suc k ≡ suc i = sym q ∙ e in omega arith)))
          ∙ (same_is (order (n - r)) (suc i) (g (suc i)) e ∙ ap g (sym e)))

      by_node : (i : ℕ) → i < n → total n (λ r. where_same (order (n - r)) (suc i) (g (suc i))) ≡ g (suc i)
      by_node i h =
          let (r, l, e) = place_of i h in
          total_pick n (λ r. where_same (order (n - r)) (suc i) (g (suc i))) r l (λ k m ne. other_is (order (n - k)) (suc i) (g (suc i)) (λ q. ne (one_place k r m l (q ∙ sym e))))
          ∙ same_is (order (n - r)) (suc i) (g (suc i)) e

  -- Where all were added, they are the sizes.
  pub sizes_of_summed : (size : ℕ → ℕ) → AreSummed n pred order size 0 → AreSizes n pred size
  sizes_of_summed size p v h =
      let e : n - 0 ≡ n = omega arith in
      p.sums v h ∙ (ap (λ m. 1 + total m (λ r. where_same (pred (order (n - r))) v (size (order (n - r))))) e ∙ ap (λ x. 1 + x) (reordered (λ w. where_same (pred w) v (size w))))
