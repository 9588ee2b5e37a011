-- The basic columns in slots, and an inverse that is kept by slots and rows.
use Rattle.std.proofs.Common.{◌≡◌, ◌≢◌, ℕ, ◌<◌, ◌⊎◌, inl, inr, [], ◌∷◌, refl, sym, ap, ap₂, ◌∙◌, subst}
use Rattle.nf_num.specs.Rational.{ℚ, zero_ℚ, ◌+ℚ◌, ◌*ℚ◌, neg_ℚ}
use Rattle.nf_num.specs.Sum.{sum_ℚ, delta}
use Rattle.nf_simplex.specs.Numbers.{IsIndependent, AreWeights, IsInverseColumn}
use Rattle.nf_simplex.specs.Place.{Place, Basic}
use Rattle.nf_simplex.specs.Stage.{Stage}
use Rattle.nf_simplex.specs.Step.{IsExchange}
use Rattle.nf_simplex.proofs.Basis.{basic_or_not, left_inverse, independent_by_inverse}
use Rattle.nf_simplex.proofs.Exchange.{direction, stays_independent, bound_not_basic, IsDirection}
use Rattle.nf_simplex.proofs.Sum.{neg-zero, sum_ext, sum_zero, sum_add, scale_sum, sum_exchange, sum_unit, unit_same, unit_other, equal_or_not}
use Rattle.nf_simplex.proofs.Terms.{v, nought, unit, minus, ◌:+◌, ◌:*◌, ◌:-◌, ring, mul-zero, zero-mul}

-- The basic columns, each in one of the slots below n.
pub record AreSlots (n columns : ℕ) (s : ℕ → Place) (slot : ℕ → ℕ) : Type 0 where
  pub within : (k : ℕ) → k < n → slot k < columns
  pub basic : (k : ℕ) → k < n → s (slot k) ≡ Basic
  pub distinct : (k i : ℕ) → k < n → i < n → slot k ≡ slot i → k ≡ i
  pub onto : (j : ℕ) → j < columns → s j ≡ Basic → (k : ℕ) × (k < n) × (slot k ≡ j)

-- A sum_ℚ over columns that has no member off the basic ones is one over the slots.
pub sum_slots : (n columns : ℕ) (s : ℕ → Place) (slot : ℕ → ℕ) → AreSlots n columns s slot → (f : ℕ → ℚ) → ((j : ℕ) → j < columns → s j ≢ Basic → f j ≡ zero_ℚ) → sum_ℚ columns f ≡ sum_ℚ n (λ k. f (slot k))
sum_slots n columns s slot p f off =
    sum_ext columns f (λ j. sum_ℚ n (λ k. delta (slot k) j *ℚ f j)) (λ j h. here j h (basic_or_not (s j)))
    ∙ (sum_exchange columns n (λ j k. delta (slot k) j *ℚ f j)
    ∙ sum_ext n (λ k. sum_ℚ columns (λ j. delta (slot k) j *ℚ f j)) (λ k. f (slot k)) (λ k h. sum_unit columns f (slot k) (p.within k h)))
  where
    one : (i : ℕ) → i < n → (k : ℕ) → k < n → (i ≡ k) ⊎ (i ≢ k) → delta (slot k) (slot i) ≡ delta i k
    one i h k m (inl e) = ap (λ z. delta (slot z) (slot i)) (sym e) ∙ (unit_same (slot i) ∙ (sym (unit_same i) ∙ ap (λ z. delta i z) e))
    one i h k m (inr e) = unit_other (slot k) (slot i) (λ q. e (p.distinct i k h m (sym q))) ∙ sym (unit_other i k e)

    here : (j : ℕ) → j < columns → (s j ≡ Basic) ⊎ (s j ≢ Basic) → f j ≡ sum_ℚ n (λ k. delta (slot k) j *ℚ f j)
    here j h (inr nb) = off j h nb ∙ sym (sum_zero n (λ k. delta (slot k) j *ℚ f j) (λ k m. ap (λ y. delta (slot k) j *ℚ y) (off j h nb) ∙ mul-zero _))
    here j h (inl b) =
        let (i, m, q) = p.onto j h b in
        subst (λ z. f z ≡ sum_ℚ n (λ k. delta (slot k) z *ℚ f z)) q
        (sym (sum_ext n (λ k. delta (slot k) (slot i) *ℚ f (slot i)) (λ k. delta i k *ℚ f (slot i)) (λ k l. ap (λ y. y *ℚ f (slot i)) (one i m k l (equal_or_not i k)))
        ∙ sum_unit n (λ k. f (slot i)) i m))

-- Weights by slots, as weights of columns.
unfoldable pub spread : ℕ → (ℕ → ℕ) → (ℕ → ℚ) → ℕ → ℚ
spread n slot u j = sum_ℚ n (λ k. delta (slot k) j *ℚ u k)

pub spread_off : (n columns : ℕ) (s : ℕ → Place) (slot : ℕ → ℕ) → AreSlots n columns s slot → (u : ℕ → ℚ) (j : ℕ) → s j ≢ Basic → spread n slot u j ≡ zero_ℚ
unfolding spread
spread_off n columns s slot p u j nb = sum_zero n (λ k. delta (slot k) j *ℚ u k) (λ k h. ap (λ y. y *ℚ u k) (unit_other (slot k) j (λ e. nb (ap s (sym e) ∙ p.basic k h))) ∙ zero-mul _)

pub spread_at : (n columns : ℕ) (s : ℕ → Place) (slot : ℕ → ℕ) → AreSlots n columns s slot → (u : ℕ → ℚ) (i : ℕ) → i < n → spread n slot u (slot i) ≡ u i
unfolding spread
spread_at n columns s slot p u i h =
    sum_ext n (λ k. delta (slot k) (slot i) *ℚ u k) (λ k. delta i k *ℚ u k) (λ k m. ap (λ y. y *ℚ u k) (one k m (equal_or_not i k))) ∙ sum_unit n u i h
  where
    one : (k : ℕ) → k < n → (i ≡ k) ⊎ (i ≢ k) → delta (slot k) (slot i) ≡ delta i k
    one k m (inl e) = ap (λ z. delta (slot z) (slot i)) (sym e) ∙ (unit_same (slot i) ∙ (sym (unit_same i) ∙ ap (λ z. delta i z) e))
    one k m (inr e) = unit_other (slot k) (slot i) (λ q. e (p.distinct i k h m (sym q))) ∙ sym (unit_other i k e)

module _ (S : Stage) (s : ℕ → Place) (slot : ℕ → ℕ) (p : AreSlots S.rows S.columns s slot) where
  -- The weights by slots that give a.
  pub record GiveBySlots (a u : ℕ → ℚ) : Type 0 where
    pub gives : (i : ℕ) → i < S.rows → sum_ℚ S.rows (λ k. u k *ℚ S.entry (slot k) i) ≡ a i

  pub weights_of_slots : (a u : ℕ → ℚ) → GiveBySlots a u → AreWeights S s a (spread S.rows slot u)
  weights_of_slots a u q = record {
    of_basics = λ j h nb. spread_off S.rows S.columns s slot p u j nb;
    gives = λ i h.
        sum_slots S.rows S.columns s slot p (λ j. spread S.rows slot u j *ℚ S.entry j i) (λ j l nb. ap (λ y. y *ℚ S.entry j i) (spread_off S.rows S.columns s slot p u j nb) ∙ zero-mul _)
        ∙ (sum_ext S.rows (λ k. spread S.rows slot u (slot k) *ℚ S.entry (slot k) i) (λ k. u k *ℚ S.entry (slot k) i) (λ k l. ap (λ y. y *ℚ S.entry (slot k) i) (spread_at S.rows S.columns s slot p u k l))
        ∙ q.gives i h);
  }

  pub slots_of_weights : (a w : ℕ → ℚ) → AreWeights S s a w → GiveBySlots a (λ k. w (slot k))
  slots_of_weights a w q = record {
    gives = λ i h.
        sym (sum_slots S.rows S.columns s slot p (λ j. w j *ℚ S.entry j i) (λ j l nb. ap (λ y. y *ℚ S.entry j i) (q.of_basics j l nb) ∙ zero-mul _)) ∙ q.gives i h;
  }

  -- A matrix by slots and rows that is the inverse of the basic columns on both sides.
  pub record IsMatrixInverse (N : ℕ → ℕ → ℚ) : Type 0 where
    pub right : (r i : ℕ) → r < S.rows → i < S.rows → sum_ℚ S.rows (λ k. N k r *ℚ S.entry (slot k) i) ≡ delta r i
    pub left : (l k : ℕ) → l < S.rows → k < S.rows → sum_ℚ S.rows (λ r. S.entry (slot l) r *ℚ N k r) ≡ delta l k

  -- It gives the inverse columns,
  pub inverse_of_matrix : (N : ℕ → ℕ → ℚ) → IsMatrixInverse N → (r : ℕ) → r < S.rows → IsInverseColumn S s r (spread S.rows slot (λ k. N k r))
  inverse_of_matrix N q r h = weights_of_slots (delta r) (λ k. N k r) record { gives = λ i l. q.right r i h l }

  -- and makes the columns independent.
  pub independent_of_matrix : (N : ℕ → ℕ → ℚ) → IsMatrixInverse N → IsIndependent S s
  independent_of_matrix N q = independent_by_inverse S s (λ r. spread S.rows slot (λ k. N k r)) left
    where
      left : (l : ℕ) → l < S.columns → s l ≡ Basic → (j : ℕ) → j < S.columns → sum_ℚ S.rows (λ r. S.entry l r *ℚ spread S.rows slot (λ k. N k r) j) ≡ delta l j
      left l h b j m = of (basic_or_not (s j))
        where
          of : (s j ≡ Basic) ⊎ (s j ≢ Basic) → sum_ℚ S.rows (λ r. S.entry l r *ℚ spread S.rows slot (λ k. N k r) j) ≡ delta l j
          of (inr nb) =
              sum_zero S.rows (λ r. S.entry l r *ℚ spread S.rows slot (λ k. N k r) j) (λ r z. ap (λ y. S.entry l r *ℚ y) (spread_off S.rows S.columns s slot p (λ k. N k r) j nb) ∙ mul-zero _)
              ∙ sym (unit_other l j (λ e. nb (ap s (sym e) ∙ b)))
          of (inl bj) =
              let (a, z, e) = p.onto l h b in
              let (i, w, f) = p.onto j m bj in
              subst (λ x. sum_ℚ S.rows (λ r. S.entry x r *ℚ spread S.rows slot (λ k. N k r) j) ≡ delta x j) e
              (subst (λ x. sum_ℚ S.rows (λ r. S.entry (slot a) r *ℚ spread S.rows slot (λ k. N k r) x) ≡ delta (slot a) x) f
              (sum_ext S.rows (λ r. S.entry (slot a) r *ℚ spread S.rows slot (λ k. N k r) (slot i)) (λ r. S.entry (slot a) r *ℚ N i r) (λ r y. ap (λ x. S.entry (slot a) r *ℚ x) (spread_at S.rows S.columns s slot p (λ k. N k r) i w))
              ∙ (q.left a i z w ∙ one a i z w (equal_or_not a i))))
            where
              one : (a i : ℕ) → a < S.rows → i < S.rows → (a ≡ i) ⊎ (a ≢ i) → delta a i ≡ delta (slot a) (slot i)
              one a i h m (inl e) = ap (λ y. delta y i) e ∙ (unit_same i ∙ (sym (unit_same (slot i)) ∙ ap (λ y. delta (slot y) (slot i)) (sym e)))
              one a i h m (inr e) = unit_other a i e ∙ sym (unit_other (slot a) (slot i) (λ q. e (p.distinct a i h m q)))

  -- And every inverse by columns is such a matrix, by slots.
  pub matrix_of_inverse : (W : ℕ → ℕ → ℚ) → IsIndependent S s → ((r : ℕ) → r < S.rows → IsInverseColumn S s r (W r)) → IsMatrixInverse (λ k r. W r (slot k))
  matrix_of_inverse W ind inv = record {
    right = λ r i h l. (slots_of_weights (delta r) (W r) (inv r h)).gives i l;
    left = λ l k h m. left_inverse S s W ind inv (slot l) (p.within l h) (p.basic l h) (slot k) (p.within k m) ∙ one l k h m (equal_or_not l k);
  }
    where
      one : (a i : ℕ) → a < S.rows → i < S.rows → (a ≡ i) ⊎ (a ≢ i) → delta (slot a) (slot i) ≡ delta a i
      one a i h m (inl e) = sym (ap (λ y. delta y i) e ∙ (unit_same i ∙ (sym (unit_same (slot i)) ∙ ap (λ y. delta (slot y) (slot i)) (sym e))))
      one a i h m (inr e) = unit_other (slot a) (slot i) (λ q. e (p.distinct a i h m q)) ∙ sym (unit_other a i e)

  -- The product form: what an exchange in slot l does to the slots and to the matrix.
  pub record IsPivot (e l : ℕ) (t : ℕ → Place) (α : ℕ → ℚ) (N : ℕ → ℕ → ℚ) (slot' : ℕ → ℕ) (N' : ℕ → ℕ → ℚ) : Type 0 where
    pub column_there : e < S.columns
    pub nonbasic : s e ≢ Basic
    pub slot_there : l < S.rows
    pub exchange : IsExchange S s e (slot l) t
    pub entries : GiveBySlots (S.entry e) α
    pub pivot : α l ≢ zero_ℚ
    pub new_slot : slot' l ≡ e
    pub other_slots : (k : ℕ) → k < S.rows → k ≢ l → slot' k ≡ slot k
    pub new_row : (r : ℕ) → r < S.rows → N' l r *ℚ α l ≡ N l r
    pub other_rows : (k r : ℕ) → k < S.rows → r < S.rows → k ≢ l → N' k r ≡ N k r +ℚ neg_ℚ (α k *ℚ N' l r)

  module _ (e l : ℕ) (t : ℕ → Place) (α : ℕ → ℚ) (N : ℕ → ℕ → ℚ) (slot' : ℕ → ℕ) (N' : ℕ → ℕ → ℚ) (q : IsPivot e l t α N slot' N') where
    -- the slots hold the new basic columns
    pub new_slots : AreSlots S.rows S.columns t slot'
    new_slots = record {
      within = λ k h. at_within k h (equal_or_not k l);
      basic = λ k h. at_basic k h (equal_or_not k l);
      distinct = λ k i h m w. at_distinct k i h m w (equal_or_not k l) (equal_or_not i l);
      onto = λ j h b. at_onto j h b (equal_or_not j e);
    }
      where
        at_within : (k : ℕ) → k < S.rows → (k ≡ l) ⊎ (k ≢ l) → slot' k < S.columns
        at_within k h (inl a) = subst (λ z. z < S.columns) (sym (ap slot' a ∙ q.new_slot)) q.column_there
        at_within k h (inr a) = subst (λ z. z < S.columns) (sym (q.other_slots k h a)) (p.within k h)

        not_l : (k : ℕ) → k < S.rows → k ≢ l → slot k ≢ slot l
        not_l k h a w = a (p.distinct k l h q.slot_there w)

        not_e : (k : ℕ) → k < S.rows → slot k ≢ e
        not_e k h w = q.nonbasic (ap s (sym w) ∙ p.basic k h)

        at_basic : (k : ℕ) → k < S.rows → (k ≡ l) ⊎ (k ≢ l) → t (slot' k) ≡ Basic
        at_basic k h (inl a) = ap (λ z. t (slot' z)) a ∙ (ap t q.new_slot ∙ q.exchange.enters)
        at_basic k h (inr a) = ap t (q.other_slots k h a) ∙ (q.exchange.rest (slot k) (p.within k h) (not_e k h) (not_l k h a) ∙ p.basic k h)

        at_distinct : (k i : ℕ) → k < S.rows → i < S.rows → slot' k ≡ slot' i → (k ≡ l) ⊎ (k ≢ l) → (i ≡ l) ⊎ (i ≢ l) → k ≡ i
        at_distinct k i h m w (inl a) (inl b) = a ∙ sym b
        at_distinct k i h m w (inl a) (inr b) = absurd (not_e i m (sym (q.other_slots i m b) ∙ (sym w ∙ (ap slot' a ∙ q.new_slot))))
        at_distinct k i h m w (inr a) (inl b) = absurd (not_e k h (sym (q.other_slots k h a) ∙ (w ∙ (ap slot' b ∙ q.new_slot))))
        at_distinct k i h m w (inr a) (inr b) = p.distinct k i h m (sym (q.other_slots k h a) ∙ (w ∙ q.other_slots i m b))

        at_onto : (j : ℕ) → j < S.columns → t j ≡ Basic → (j ≡ e) ⊎ (j ≢ e) → (k : ℕ) × (k < S.rows) × (slot' k ≡ j)
        at_onto j h b (inl a) = (l, q.slot_there, q.new_slot ∙ sym a)
        at_onto j h b (inr a) =
            let nl : j ≢ slot l = λ w. bound_not_basic (t (slot l)) q.exchange.leaves (ap t (sym w) ∙ b) in
            let (k, m, w) = p.onto j h (sym (q.exchange.rest j h a nl) ∙ b) in
            (k, m, q.other_slots k m (λ z. nl (sym w ∙ ap slot z)) ∙ w)

    -- the matrix is its right inverse
    right_after : (r i : ℕ) → r < S.rows → i < S.rows → sum_ℚ S.rows (λ k. N k r *ℚ S.entry (slot k) i) ≡ delta r i → sum_ℚ S.rows (λ k. N' k r *ℚ S.entry (slot' k) i) ≡ delta r i
    right_after r i h m before =
        sum_ext S.rows (λ k. N' k r *ℚ S.entry (slot' k) i) (λ k. (N k r *ℚ S.entry (slot k) i +ℚ neg_ℚ (N' l r) *ℚ (α k *ℚ S.entry (slot k) i)) +ℚ delta l k *ℚ (N' l r *ℚ S.entry e i)) (λ k z. here k z (equal_or_not k l))
        ∙ (sum_add S.rows (λ k. N k r *ℚ S.entry (slot k) i +ℚ neg_ℚ (N' l r) *ℚ (α k *ℚ S.entry (slot k) i)) (λ k. delta l k *ℚ (N' l r *ℚ S.entry e i))
        ∙ (ap₂ (λ x y. x +ℚ y)
        (sum_add S.rows (λ k. N k r *ℚ S.entry (slot k) i) (λ k. neg_ℚ (N' l r) *ℚ (α k *ℚ S.entry (slot k) i)) ∙ ap₂ (λ x y. x +ℚ y) before (scale_sum S.rows (λ k. α k *ℚ S.entry (slot k) i) (neg_ℚ (N' l r)) ∙ ap (λ y. neg_ℚ (N' l r) *ℚ y) (q.entries.gives i m)))
        (sum_unit S.rows (λ k. N' l r *ℚ S.entry e i) l q.slot_there)
        ∙ ring (delta r i ∷ N' l r ∷ S.entry e i ∷ []) ((v 0 :+ minus (v 1) :* v 2) :+ v 1 :* v 2) (v 0) refl))
      where
        here : (k : ℕ) → k < S.rows → (k ≡ l) ⊎ (k ≢ l) → N' k r *ℚ S.entry (slot' k) i ≡ (N k r *ℚ S.entry (slot k) i +ℚ neg_ℚ (N' l r) *ℚ (α k *ℚ S.entry (slot k) i)) +ℚ delta l k *ℚ (N' l r *ℚ S.entry e i)
        here k z (inl a) =
            ap (λ y. N' y r *ℚ S.entry (slot' y) i) a
            ∙ (ap (λ y. N' l r *ℚ S.entry y i) q.new_slot
            ∙ (ring (N' l r ∷ S.entry e i ∷ α l ∷ S.entry (slot l) i ∷ []) (v 0 :* v 1) ((((v 0 :* v 2) :* v 3) :+ minus (v 0) :* (v 2 :* v 3)) :+ unit :* (v 0 :* v 1)) refl
            ∙ (ap₂ (λ x y. (x *ℚ S.entry (slot l) i +ℚ neg_ℚ (N' l r) *ℚ (α l *ℚ S.entry (slot l) i)) +ℚ y *ℚ (N' l r *ℚ S.entry e i)) (q.new_row r h) (sym (unit_same l))
            ∙ ap (λ y. (N y r *ℚ S.entry (slot y) i +ℚ neg_ℚ (N' l r) *ℚ (α y *ℚ S.entry (slot y) i)) +ℚ delta l y *ℚ (N' l r *ℚ S.entry e i)) (sym a))))
        here k z (inr a) =
            ap₂ (λ x y. x *ℚ S.entry y i) (q.other_rows k r z h a) (q.other_slots k z a)
            ∙ (ring (N k r ∷ α k ∷ N' l r ∷ S.entry (slot k) i ∷ S.entry e i ∷ []) ((v 0 :- v 1 :* v 2) :* v 3) ((v 0 :* v 3 :+ minus (v 2) :* (v 1 :* v 3)) :+ nought :* (v 2 :* v 4)) refl
            ∙ ap (λ y. (N k r *ℚ S.entry (slot k) i +ℚ neg_ℚ (N' l r) *ℚ (α k *ℚ S.entry (slot k) i)) +ℚ y *ℚ (N' l r *ℚ S.entry e i)) (sym (unit_other l k (λ w. a (sym w)))))

-- After an exchange the matrix of the product form is the inverse on both sides.
pub pivot_inverse : (S : Stage) (s : ℕ → Place) (slot : ℕ → ℕ) (p : AreSlots S.rows S.columns s slot) (e l : ℕ) (t : ℕ → Place) (α : ℕ → ℚ) (N : ℕ → ℕ → ℚ) (slot' : ℕ → ℕ) (N' : ℕ → ℕ → ℚ)
    → (q : IsPivot S s slot p e l t α N slot' N') → IsMatrixInverse S s slot p N → IsMatrixInverse S t slot' (new_slots S s slot p e l t α N slot' N' q) N'
pivot_inverse S s slot p e l t α N slot' N' q inv = record {
  right = right;
  left = λ a k h m.
      sum_ext S.rows (λ r. S.entry (slot' a) r *ℚ N' k r) (λ r. S.entry (slot' a) r *ℚ W r (slot' k)) (λ r z. ap (λ y. S.entry (slot' a) r *ℚ y) (sym (spread_at S.rows S.columns t slot' np (λ k. N' k r) k m)))
      ∙ (matrix_of_inverse S t slot' np W independent inverses).left a k h m;
}
  where
    np : AreSlots S.rows S.columns t slot'
    np = new_slots S s slot p e l t α N slot' N' q

    W : ℕ → ℕ → ℚ
    W r = spread S.rows slot' (λ k. N' k r)

    right : (r i : ℕ) → r < S.rows → i < S.rows → sum_ℚ S.rows (λ k. N' k r *ℚ S.entry (slot' k) i) ≡ delta r i
    right r i h m = right_after S s slot p e l t α N slot' N' q r i h m (inv.right r i h m)

    inverses : (r : ℕ) → r < S.rows → IsInverseColumn S t r (W r)
    inverses r h = weights_of_slots S t slot' np (delta r) (λ k. N' k r) record { gives = λ i m. right r i h m }

    β : ℕ → ℚ
    β = spread S.rows slot α

    dir : IsDirection S s e (λ j. delta e j +ℚ neg_ℚ (β j))
    dir = direction S s e β q.column_there q.nonbasic (weights_of_slots S s slot p (S.entry e) α q.entries)

    at_l : delta e (slot l) +ℚ neg_ℚ (β (slot l)) ≡ neg_ℚ (α l)
    at_l =
        ap₂ (λ x y. x +ℚ neg_ℚ y) (unit_other e (slot l) (λ w. q.nonbasic (ap s w ∙ q.exchange.was_basic))) (spread_at S.rows S.columns s slot p α l q.slot_there)
        ∙ ring (α l ∷ []) (nought :- v 0) (minus (v 0)) refl

    independent : IsIndependent S t
    independent =
        stays_independent S s e (λ j. delta e j +ℚ neg_ℚ (β j)) dir (slot l) t q.nonbasic q.column_there q.exchange (independent_of_matrix S s slot p N inv)
        (λ w. q.pivot (ring (α l ∷ []) (v 0) (minus (minus (v 0))) refl ∙ (ap neg_ℚ (sym at_l ∙ w) ∙ neg-zero)))
