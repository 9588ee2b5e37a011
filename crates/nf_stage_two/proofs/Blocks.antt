-- The inverse of a block triangular matrix: n slots that have an inverse at the first n rows, and m slots more, each with
-- one entry, 1 or -1, at a row of its own.
use Rattle.std.proofs.Common.{◌≡◌, ◌≢◌, ◌⊎◌, inl, inr, ℕ, ◌+◌, ◌<◌, [], ◌∷◌, refl, sym, ap, ap₂, ◌∙◌, subst, arith}
use Rattle.nf_num.specs.Rational.{ℚ, zero_ℚ, one_ℚ, ◌+ℚ◌, ◌*ℚ◌, neg_ℚ}
use Rattle.nf_num.specs.Sum.{sum_ℚ, delta}
use Rattle.nf_num.proofs.Sums.{sum-split, sum_one}
use Rattle.nf_simplex.proofs.FieldLaws.{add-zero}
use Rattle.nf_simplex.proofs.Terms.{v, nought, unit, minus, ◌:+◌, ◌:*◌, ◌:-◌, ring, mul-zero, zero-mul, zero-add}
use Rattle.nf_simplex.proofs.Basis.{sum_through, unit_sym}
use Rattle.nf_simplex.proofs.Sum.{sum_ext, sum_zero, sum_unit, sum_scale, unit_same, unit_other, equal_or_not, below_or_past}

-- E l r is the entry of slot l at row r, and N k r the weight of slot k at row r.
pub record IsBlock (n m : ℕ) (E N : ℕ → ℕ → ℚ) (σ : ℕ → ℚ) : Type 0 where
  pub square : (q : ℕ) → q < m → σ q *ℚ σ q ≡ one_ℚ
  pub own_entry : (q r : ℕ) → q < m → r < n + m → E (n + q) r ≡ σ q *ℚ delta (n + q) r
  pub own_weight : (k q : ℕ) → k < n + m → q < m → N k (n + q) ≡ σ q *ℚ delta k (n + q)
  pub below : (q r : ℕ) → q < m → r < n → N (n + q) r ≡ neg_ℚ (σ q *ℚ sum_ℚ n (λ l. N l r *ℚ E l (n + q)))
  pub right : (r i : ℕ) → r < n → i < n → sum_ℚ n (λ k. N k r *ℚ E k i) ≡ delta r i
  pub left : (l k : ℕ) → l < n → k < n → sum_ℚ n (λ r. E l r *ℚ N k r) ≡ delta l k

module _ (n m : ℕ) (E N : ℕ → ℕ → ℚ) (σ : ℕ → ℚ) (b : IsBlock n m E N σ) where
  square_on : (q r : ℕ) → q < m → (q ≡ r) ⊎ (q ≢ r) → σ q *ℚ delta (n + q) (n + r) *ℚ σ r ≡ delta (n + q) (n + r)
  square_on q r h (inl e) = subst (λ z. σ q *ℚ delta (n + q) (n + z) *ℚ σ z ≡ delta (n + q) (n + z)) e
      (ap (λ d. σ q *ℚ d *ℚ σ q) (unit_same (n + q)) ∙ (ring (σ q ∷ []) ((v 0 :* unit) :* v 0) (v 0 :* v 0) refl ∙ (b.square q h ∙ sym (unit_same (n + q)))))
  square_on q r h (inr d) = ap (λ d. σ q *ℚ d *ℚ σ r) (unit_other (n + q) (n + r) (λ e. d (omega arith))) ∙ (ring (σ q ∷ σ r ∷ []) ((v 0 :* nought) :* v 1) nought refl ∙ sym (unit_other (n + q) (n + r) (λ e. d (omega arith))))

  -- ---- on the right
  old_slots : (r i : ℕ) → sum_ℚ n (λ k. N k r *ℚ E k i) +ℚ sum_ℚ m (λ q. N (n + q) r *ℚ E (n + q) i) ≡ sum_ℚ (n + m) (λ k. N k r *ℚ E k i)
  old_slots r i = sym (sum-split n m (λ k. N k r *ℚ E k i))

  own_none : (r i : ℕ) → i < n → sum_ℚ m (λ q. N (n + q) r *ℚ E (n + q) i) ≡ zero_ℚ
  own_none r i h = sum_zero m _ (λ q l. ap (λ e. N (n + q) r *ℚ e) (b.own_entry q i l (omega arith) ∙ (ap (λ d. σ q *ℚ d) (unit_other (n + q) i (omega arith)) ∙ mul-zero (σ q))) ∙ mul-zero _)

  own_one : (r i : ℕ) → i < m → sum_ℚ m (λ q. N (n + q) r *ℚ E (n + q) (n + i)) ≡ N (n + i) r *ℚ σ i
  own_one r i h =
      sum_one m i (λ q. N (n + q) r *ℚ E (n + q) (n + i)) h (λ q l d. ap (λ e. N (n + q) r *ℚ e) (b.own_entry q (n + i) l (omega arith) ∙ (ap (λ d. σ q *ℚ d) (unit_other (n + q) (n + i) (omega arith)) ∙ mul-zero (σ q))) ∙ mul-zero _)
      ∙ ap (λ e. N (n + i) r *ℚ e) (b.own_entry i (n + i) h (omega arith) ∙ (ap (λ d. σ i *ℚ d) (unit_same (n + i)) ∙ ring (σ i ∷ []) (v 0 :* unit) (v 0) refl))

  side_none : (q i : ℕ) → q < m → sum_ℚ n (λ k. N k (n + q) *ℚ E k i) ≡ zero_ℚ
  side_none q i h = sum_zero n _ (λ k l. ap (λ a. a *ℚ E k i) (b.own_weight k q (omega arith) h ∙ (ap (λ d. σ q *ℚ d) (unit_other k (n + q) (omega arith)) ∙ mul-zero (σ q))) ∙ zero-mul _)

  pub block_right : (r i : ℕ) → r < n + m → i < n + m → sum_ℚ (n + m) (λ k. N k r *ℚ E k i) ≡ delta r i
  block_right r i h l = sym (old_slots r i) ∙ of (below_or_past r n m h) (below_or_past i n m l)
    where
      old_new : (r i : ℕ) → r < n → i < m → sum_ℚ n (λ k. N k r *ℚ E k (n + i)) +ℚ sum_ℚ m (λ q. N (n + q) r *ℚ E (n + q) (n + i)) ≡ delta r (n + i)
      old_new r i h l =
          ap (λ z. sum_ℚ n (λ k. N k r *ℚ E k (n + i)) +ℚ z) (own_one r i l ∙ ap (λ a. a *ℚ σ i) (b.below i r l h))
          ∙ (ring (sum_ℚ n (λ k. N k r *ℚ E k (n + i)) ∷ σ i ∷ []) (v 0 :+ minus (v 1 :* v 0) :* v 1) (v 0 :- v 0 :* (v 1 :* v 1)) refl
          ∙ (ap (λ z. sum_ℚ n (λ k. N k r *ℚ E k (n + i)) +ℚ neg_ℚ (sum_ℚ n (λ k. N k r *ℚ E k (n + i)) *ℚ z)) (b.square i l)
          ∙ (ring (sum_ℚ n (λ k. N k r *ℚ E k (n + i)) ∷ []) (v 0 :- v 0 :* unit) nought refl ∙ sym (unit_other r (n + i) (omega arith)))))

      new_new : (r i : ℕ) → r < m → i < m → sum_ℚ n (λ k. N k (n + r) *ℚ E k (n + i)) +ℚ sum_ℚ m (λ q. N (n + q) (n + r) *ℚ E (n + q) (n + i)) ≡ delta (n + r) (n + i)
      new_new r i h l =
          ap₂ (λ x y. x +ℚ y) (side_none r (n + i) h) (own_one (n + r) i l ∙ ap (λ a. a *ℚ σ i) (b.own_weight (n + i) r (omega arith) h ∙ ap (λ d. σ r *ℚ d) (unit_sym (n + i) (n + r))))
          ∙ (zero-add _ ∙ square_on r i h (equal_or_not r i))

      of : (r < n) ⊎ ((q : ℕ) × (r ≡ n + q) × (q < m)) → (i < n) ⊎ ((q : ℕ) × (i ≡ n + q) × (q < m)) → sum_ℚ n (λ k. N k r *ℚ E k i) +ℚ sum_ℚ m (λ q. N (n + q) r *ℚ E (n + q) i) ≡ delta r i
      of (inl x) (inl y) = ap₂ (λ x y. x +ℚ y) (b.right r i x y) (own_none r i y) ∙ add-zero _
      of (inl x) (inr (j, e, y)) = subst (λ z. sum_ℚ n (λ k. N k r *ℚ E k z) +ℚ sum_ℚ m (λ q. N (n + q) r *ℚ E (n + q) z) ≡ delta r z) (sym e) (old_new r j x y)
      of (inr (q, e, x)) (inl y) =
          subst (λ z. sum_ℚ n (λ k. N k z *ℚ E k i) +ℚ sum_ℚ m (λ q. N (n + q) z *ℚ E (n + q) i) ≡ delta z i) (sym e)
          (ap₂ (λ x y. x +ℚ y) (side_none q i x) (own_none (n + q) i y) ∙ (add-zero _ ∙ sym (unit_other (n + q) i (omega arith))))
      of (inr (q, e, x)) (inr (j, f, y)) =
          subst (λ z. sum_ℚ n (λ k. N k z *ℚ E k i) +ℚ sum_ℚ m (λ q. N (n + q) z *ℚ E (n + q) i) ≡ delta z i) (sym e)
          (subst (λ z. sum_ℚ n (λ k. N k (n + q) *ℚ E k z) +ℚ sum_ℚ m (λ a. N (n + a) (n + q) *ℚ E (n + a) z) ≡ delta (n + q) z) (sym f) (new_new q j x y))

  -- ---- on the left
  old_rows : (l k : ℕ) → sum_ℚ n (λ r. E l r *ℚ N k r) +ℚ sum_ℚ m (λ q. E l (n + q) *ℚ N k (n + q)) ≡ sum_ℚ (n + m) (λ r. E l r *ℚ N k r)
  old_rows l k = sym (sum-split n m (λ r. E l r *ℚ N k r))

  rows_none : (l k : ℕ) → k < n → sum_ℚ m (λ q. E l (n + q) *ℚ N k (n + q)) ≡ zero_ℚ
  rows_none l k h = sum_zero m _ (λ q x. ap (λ a. E l (n + q) *ℚ a) (b.own_weight k q (omega arith) x ∙ (ap (λ d. σ q *ℚ d) (unit_other k (n + q) (omega arith)) ∙ mul-zero (σ q))) ∙ mul-zero _)

  rows_one : (l k : ℕ) → k < m → sum_ℚ m (λ q. E l (n + q) *ℚ N (n + k) (n + q)) ≡ E l (n + k) *ℚ σ k
  rows_one l k h =
      sum_one m k (λ q. E l (n + q) *ℚ N (n + k) (n + q)) h (λ q x d. ap (λ a. E l (n + q) *ℚ a) (b.own_weight (n + k) q (omega arith) x ∙ (ap (λ d. σ q *ℚ d) (unit_other (n + k) (n + q) (omega arith)) ∙ mul-zero (σ q))) ∙ mul-zero _)
      ∙ ap (λ a. E l (n + k) *ℚ a) (b.own_weight (n + k) k (omega arith) h ∙ (ap (λ d. σ k *ℚ d) (unit_same (n + k)) ∙ ring (σ k ∷ []) (v 0 :* unit) (v 0) refl))

  entries_none : (q k : ℕ) → q < m → sum_ℚ n (λ r. E (n + q) r *ℚ N k r) ≡ zero_ℚ
  entries_none q k h = sum_zero n _ (λ r x. ap (λ e. e *ℚ N k r) (b.own_entry q r h (omega arith) ∙ (ap (λ d. σ q *ℚ d) (unit_other (n + q) r (omega arith)) ∙ mul-zero (σ q))) ∙ zero-mul _)

  -- The old entries of a slot, times the weights of a side row's slot.
  through : (l k : ℕ) → l < n → k < m → sum_ℚ n (λ r. E l r *ℚ N (n + k) r) ≡ neg_ℚ (σ k *ℚ E l (n + k))
  through l k h x =
      sum_ext n _ (λ r. (E l r *ℚ sum_ℚ n (λ a. N a r *ℚ E a (n + k))) *ℚ neg_ℚ (σ k)) (λ r y. ap (λ z. E l r *ℚ z) (b.below k r x y) ∙ ring (E l r ∷ σ k ∷ sum_ℚ n (λ a. N a r *ℚ E a (n + k)) ∷ []) (v 0 :* minus (v 1 :* v 2)) ((v 0 :* v 2) :* minus (v 1)) refl)
      ∙ (sum_scale n (λ r. E l r *ℚ sum_ℚ n (λ a. N a r *ℚ E a (n + k))) (neg_ℚ (σ k))
      ∙ (ap (λ z. z *ℚ neg_ℚ (σ k)) (sum_through n n (E l) (λ a. E a (n + k)) (λ r a. N a r)
      ∙ (sum_ext n _ (λ a. delta l a *ℚ E a (n + k)) (λ a y. ap (λ z. z *ℚ E a (n + k)) (b.left l a h y)) ∙ sum_unit n (λ a. E a (n + k)) l h))
      ∙ ring (E l (n + k) ∷ σ k ∷ []) (v 0 :* minus (v 1)) (minus (v 1 :* v 0)) refl))

  pub block_left : (l k : ℕ) → l < n + m → k < n + m → sum_ℚ (n + m) (λ r. E l r *ℚ N k r) ≡ delta l k
  block_left l k h x = sym (old_rows l k) ∙ of (below_or_past l n m h) (below_or_past k n m x)
    where
      of : (l < n) ⊎ ((q : ℕ) × (l ≡ n + q) × (q < m)) → (k < n) ⊎ ((q : ℕ) × (k ≡ n + q) × (q < m)) → sum_ℚ n (λ r. E l r *ℚ N k r) +ℚ sum_ℚ m (λ q. E l (n + q) *ℚ N k (n + q)) ≡ delta l k
      of (inl y) (inl z) = ap₂ (λ x y. x +ℚ y) (b.left l k y z) (rows_none l k z) ∙ add-zero _
      of (inl y) (inr (j, e, z)) =
          subst (λ c. sum_ℚ n (λ r. E l r *ℚ N c r) +ℚ sum_ℚ m (λ q. E l (n + q) *ℚ N c (n + q)) ≡ delta l c) (sym e)
          (ap₂ (λ x y. x +ℚ y) (through l j y z) (rows_one l j z) ∙ (ring (σ j ∷ E l (n + j) ∷ []) (minus (v 0 :* v 1) :+ v 1 :* v 0) nought refl ∙ sym (unit_other l (n + j) (omega arith))))
      of (inr (q, e, y)) (inl z) =
          subst (λ c. sum_ℚ n (λ r. E c r *ℚ N k r) +ℚ sum_ℚ m (λ a. E c (n + a) *ℚ N k (n + a)) ≡ delta c k) (sym e)
          (ap₂ (λ x y. x +ℚ y) (entries_none q k y) (rows_none (n + q) k z) ∙ (add-zero _ ∙ sym (unit_other (n + q) k (omega arith))))
      of (inr (q, e, y)) (inr (j, f, z)) =
          subst (λ c. sum_ℚ n (λ r. E c r *ℚ N k r) +ℚ sum_ℚ m (λ a. E c (n + a) *ℚ N k (n + a)) ≡ delta c k) (sym e)
          (subst (λ c. sum_ℚ n (λ r. E (n + q) r *ℚ N c r) +ℚ sum_ℚ m (λ a. E (n + q) (n + a) *ℚ N c (n + a)) ≡ delta (n + q) c) (sym f)
          (ap₂ (λ x y. x +ℚ y) (entries_none q (n + j) y) (rows_one (n + q) j z ∙ ap (λ a. a *ℚ σ j) (b.own_entry q (n + j) y (omega arith)))
          ∙ (zero-add _ ∙ square_on q j y (equal_or_not q j))))
