-- A basis and its inverse: they determine values, inverse columns, entries and duals.
use Rattle.std.proofs.Common.{◌≡◌, ◌≢◌, ℕ, ◌<◌, ◌⊎◌, inl, inr, [], ◌∷◌, refl, sym, ap, ◌∙◌, Option, Some, None}
use Rattle.nf_num.specs.Rational.{ℚ, zero_ℚ, one_ℚ, ◌+ℚ◌, ◌*ℚ◌, neg_ℚ}
use Rattle.nf_num.specs.Sum.{sum_ℚ, delta}
use Rattle.nf_simplex.specs.Numbers.{StandsAt, IsOfBasics, IsIndependent, IsValues, AreWeights, IsInverseColumn, AreEntries, AreDuals, reduced}
use Rattle.nf_simplex.specs.Place.{Place, Lower, Upper, Zero, Absent, Basic}
use Rattle.nf_simplex.specs.Stage.{Stage}
use Rattle.nf_simplex.proofs.FieldLaws.{add-zero, mul_assoc, mul_comm}
use Rattle.nf_simplex.proofs.Sum.{difference_zero, zero_difference, sum_ext, sum_zero, sum_add, sum_scale, scale_sum, sum_exchange, unit_other, sum_unit, equal_or_not}
use Rattle.nf_simplex.proofs.Terms.{v, nought, unit, minus, ◌:+◌, ◌:*◌, ◌:-◌, ring, mul-zero, zero-mul, one-mul}

pub basic_or_not : (p : Place) → (p ≡ Basic) ⊎ (p ≢ Basic)
basic_or_not Lower = inr (λ e. cc)
basic_or_not Upper = inr (λ e. cc)
basic_or_not Zero = inr (λ e. cc)
basic_or_not Absent = inr (λ e. cc)
basic_or_not Basic = inl refl

pub unit_sym : (p i : ℕ) → delta p i ≡ delta i p
unit_sym p i = of (equal_or_not p i)
  where
    of : (p ≡ i) ⊎ (p ≢ i) → delta p i ≡ delta i p
    of (inl e) = cc
    of (inr h) = unit_other p i h ∙ sym (unit_other i p (λ e. h (sym e)))

-- a column's place and bounds fix its number
pub stands_same : (p : Place) (l u : Option ℚ) (x y : ℚ) → p ≢ Basic → StandsAt p l u x → StandsAt p l u y → x ≡ y
stands_same Lower (Some l) u x y h a b = a ∙ sym b
stands_same Lower None u x y h a b = absurd a
stands_same Upper l (Some u) x y h a b = a ∙ sym b
stands_same Upper l None x y h a b = absurd a
stands_same Zero (Some l) u x y h a b = absurd a
stands_same Zero None (Some u) x y h a b = absurd a
stands_same Zero None None x y h a b = a ∙ sym b
stands_same Absent l u x y h a b = a ∙ sym b
stands_same Basic l u x y h a b = absurd (h refl)

-- the sum_ℚ of numbers that are moved by t times a direction
pub sum_move : (n : ℕ) (w d a : ℕ → ℚ) (t : ℚ) → sum_ℚ n (λ j. (w j +ℚ t *ℚ d j) *ℚ a j) ≡ sum_ℚ n (λ j. w j *ℚ a j) +ℚ t *ℚ sum_ℚ n (λ j. d j *ℚ a j)
sum_move n w d a t =
    sum_ext n (λ j. (w j +ℚ t *ℚ d j) *ℚ a j) (λ j. w j *ℚ a j +ℚ t *ℚ (d j *ℚ a j)) (λ j h. ring (w j ∷ t ∷ d j ∷ a j ∷ []) ((v 0 :+ v 1 :* v 2) :* v 3) (v 0 :* v 3 :+ v 1 :* (v 2 :* v 3)) refl)
    ∙ (sum_add n (λ j. w j *ℚ a j) (λ j. t *ℚ (d j *ℚ a j)) ∙ ap (λ x. sum_ℚ n (λ j. w j *ℚ a j) +ℚ x) (scale_sum n (λ j. d j *ℚ a j) t))

-- two sums in one order and the other, with a factor in the middle
pub sum_through : (n m : ℕ) (f g : ℕ → ℚ) (a : ℕ → ℕ → ℚ) → sum_ℚ n (λ j. f j *ℚ sum_ℚ m (λ i. a j i *ℚ g i)) ≡ sum_ℚ m (λ i. sum_ℚ n (λ j. f j *ℚ a j i) *ℚ g i)
sum_through n m f g a =
    sum_ext n (λ j. f j *ℚ sum_ℚ m (λ i. a j i *ℚ g i)) (λ j. sum_ℚ m (λ i. f j *ℚ (a j i *ℚ g i))) (λ j h. sym (scale_sum m (λ i. a j i *ℚ g i) (f j)))
    ∙ (sum_exchange n m (λ j i. f j *ℚ (a j i *ℚ g i))
    ∙ sum_ext m (λ i. sum_ℚ n (λ j. f j *ℚ (a j i *ℚ g i))) (λ i. sum_ℚ n (λ j. f j *ℚ a j i) *ℚ g i)
    (λ i h. sum_ext n (λ j. f j *ℚ (a j i *ℚ g i)) (λ j. (f j *ℚ a j i) *ℚ g i) (λ j l. sym (mul_assoc _ _ _)) ∙ sum_scale n (λ j. f j *ℚ a j i) (g i)))

module _ (S : Stage) (s : ℕ → Place) where
  -- Two lists that differ at basic columns alone and have equal combinations are equal.
  pub same_of_equal : (w u : ℕ → ℚ) → IsIndependent S s → IsOfBasics S s (λ j. w j +ℚ neg_ℚ (u j))
      → ((i : ℕ) → i < S.rows → sum_ℚ S.columns (λ j. w j *ℚ S.entry j i) ≡ sum_ℚ S.columns (λ j. u j *ℚ S.entry j i))
      → (j : ℕ) → j < S.columns → w j ≡ u j
  same_of_equal w u ind of_basics same j h =
      difference_zero (w j) (u j) (ind (λ j. w j +ℚ neg_ℚ (u j)) of_basics gives j h)
    where
      gives : (i : ℕ) → i < S.rows → sum_ℚ S.columns (λ j. (w j +ℚ neg_ℚ (u j)) *ℚ S.entry j i) ≡ zero_ℚ
      gives i l =
          sum_ext S.columns (λ j. (w j +ℚ neg_ℚ (u j)) *ℚ S.entry j i) (λ j. (w j +ℚ neg_ℚ one_ℚ *ℚ u j) *ℚ S.entry j i)
          (λ j k. ring (w j ∷ u j ∷ S.entry j i ∷ []) ((v 0 :- v 1) :* v 2) ((v 0 :+ minus unit :* v 1) :* v 2) refl)
          ∙ (sum_move S.columns w u (λ j. S.entry j i) (neg_ℚ one_ℚ)
          ∙ rw (same i l) (ring (sum_ℚ S.columns (λ j. u j *ℚ S.entry j i) ∷ []) (v 0 :+ minus unit :* v 0) nought refl))

  -- Only one list of weights gives a.
  pub weights_unique : (a w u : ℕ → ℚ) → IsIndependent S s → AreWeights S s a w → AreWeights S s a u → (j : ℕ) → j < S.columns → w j ≡ u j
  weights_unique a w u ind p q =
      same_of_equal w u ind (λ j h nb. zero_difference (w j) (u j) (p.of_basics j h nb ∙ sym (q.of_basics j h nb))) (λ i l. p.gives i l ∙ sym (q.gives i l))

  -- Only one list has the state's values.
  pub values_unique : (x y : ℕ → ℚ) → IsIndependent S s → IsValues S s x → IsValues S s y → (j : ℕ) → j < S.columns → x j ≡ y j
  values_unique x y ind p q =
      same_of_equal x y ind (λ j h nb. zero_difference (x j) (y j) (stands_same (s j) (S.lower j) (S.upper j) (x j) (y j) nb (p.stands j h) (q.stands j h))) (λ i l. p.equations i l ∙ sym (q.equations i l))

  pub zero_unique : IsIndependent S s → (w : ℕ → ℚ) → AreWeights S s (λ i. zero_ℚ) w → (j : ℕ) → j < S.columns → w j ≡ zero_ℚ
  zero_unique ind w p = ind w p.of_basics p.gives

  abbrev AreInverse : (ℕ → ℕ → ℚ) → Type 0
  AreInverse W = (r : ℕ) → r < S.rows → IsInverseColumn S s r (W r)

  -- The inverse columns give the weights of every column.
  pub weights_by_inverse : (W : ℕ → ℕ → ℚ) → AreInverse W → (a : ℕ → ℚ) → AreWeights S s a (λ j. sum_ℚ S.rows (λ r. a r *ℚ W r j))
  weights_by_inverse W inv a = record {
    of_basics = λ j h nb. sum_zero S.rows (λ r. a r *ℚ W r j) (λ r l. ap (λ x. a r *ℚ x) ((inv r l).of_basics j h nb) ∙ mul-zero (a r));
    gives = λ i l.
        sym (sum_through S.rows S.columns a (λ j. S.entry j i) W)
        ∙ (sum_ext S.rows (λ r. a r *ℚ sum_ℚ S.columns (λ j. W r j *ℚ S.entry j i)) (λ r. delta i r *ℚ a r)
        (λ r k. ap (λ x. a r *ℚ x) ((inv r k).gives i l ∙ unit_sym r i) ∙ mul_comm _ _)
        ∙ sum_unit S.rows a i l);
  }

  -- So the weights that give a are read off the inverse.
  pub weights_are : (W : ℕ → ℕ → ℚ) → IsIndependent S s → AreInverse W → (a w : ℕ → ℚ) → AreWeights S s a w → (j : ℕ) → j < S.columns → w j ≡ sum_ℚ S.rows (λ r. a r *ℚ W r j)
  weights_are W ind inv a w p = weights_unique a w (λ j. sum_ℚ S.rows (λ r. a r *ℚ W r j)) ind p (weights_by_inverse W inv a)

  -- a basic column has the weight 1 of itself
  pub unit_weights : (l : ℕ) → l < S.columns → s l ≡ Basic → AreEntries S s l (delta l)
  unit_weights l h b = record {
    of_basics = λ j k nb. unit_other l j (λ e. nb (sym (ap s e) ∙ b));
    gives = λ i k. sum_unit S.columns (λ j. S.entry j i) l h;
  }

  -- The other side of the inverse.
  pub left_inverse : (W : ℕ → ℕ → ℚ) → IsIndependent S s → AreInverse W → (l : ℕ) → l < S.columns → s l ≡ Basic → (j : ℕ) → j < S.columns → sum_ℚ S.rows (λ r. S.entry l r *ℚ W r j) ≡ delta l j
  left_inverse W ind inv l h b j k = sym (weights_are W ind inv (S.entry l) (delta l) (unit_weights l h b) j k)

  -- A left inverse makes the basic columns independent.
  pub independent_by_inverse : (W : ℕ → ℕ → ℚ) → ((l : ℕ) → l < S.columns → s l ≡ Basic → (j : ℕ) → j < S.columns → sum_ℚ S.rows (λ r. S.entry l r *ℚ W r j) ≡ delta l j) → IsIndependent S s
  independent_by_inverse W left w of_basics null j h =
      sym (sum_unit S.columns w j h)
      ∙ (sum_ext S.columns (λ l. delta j l *ℚ w l) (λ l. w l *ℚ sum_ℚ S.rows (λ r. S.entry l r *ℚ W r j)) (λ l k. here l k (basic_or_not (s l)))
      ∙ (sum_through S.columns S.rows w (λ r. W r j) S.entry
      ∙ sum_zero S.rows (λ r. sum_ℚ S.columns (λ l. w l *ℚ S.entry l r) *ℚ W r j) (λ r k. ap (λ x. x *ℚ W r j) (null r k) ∙ zero-mul _)))
    where
      here : (l : ℕ) → l < S.columns → (s l ≡ Basic) ⊎ (s l ≢ Basic) → delta j l *ℚ w l ≡ w l *ℚ sum_ℚ S.rows (λ r. S.entry l r *ℚ W r j)
      here l k (inl b) = mul_comm _ _ ∙ ap (λ x. w l *ℚ x) (unit_sym j l ∙ sym (left l k b j h))
      here l k (inr nb) = rw (of_basics l k nb) (mul-zero _ ∙ sym (zero-mul _))

  -- The values, from numbers z at which the nonbasic columns stand.
  pub values_by_inverse : (W : ℕ → ℕ → ℚ) → AreInverse W → (z : ℕ → ℚ)
      → ((j : ℕ) → j < S.columns → StandsAt (s j) (S.lower j) (S.upper j) (z j))
      → IsValues S s (λ j. z j +ℚ sum_ℚ S.rows (λ r. (S.right r +ℚ neg_ℚ (sum_ℚ S.columns (λ q. z q *ℚ S.entry q r))) *ℚ W r j))
  values_by_inverse W inv z stands = record {
    stands = λ j h. stay j h (basic_or_not (s j));
    equations = λ i l.
        sum_ext S.columns (λ j. (z j +ℚ move j) *ℚ S.entry j i) (λ j. (z j +ℚ one_ℚ *ℚ move j) *ℚ S.entry j i) (λ j k. ap (λ x. (z j +ℚ x) *ℚ S.entry j i) (sym (one-mul (move j))))
        ∙ (sum_move S.columns z move (λ j. S.entry j i) one_ℚ
        ∙ rw ((weights_by_inverse W inv rest).gives i l) (ring (sum_ℚ S.columns (λ q. z q *ℚ S.entry q i) ∷ S.right i ∷ []) (v 0 :+ unit :* (v 1 :- v 0)) (v 1) refl));
  }
    where
      rest : ℕ → ℚ
      rest r = S.right r +ℚ neg_ℚ (sum_ℚ S.columns (λ q. z q *ℚ S.entry q r))

      move : ℕ → ℚ
      move j = sum_ℚ S.rows (λ r. rest r *ℚ W r j)

      stay : (j : ℕ) → j < S.columns → (s j ≡ Basic) ⊎ (s j ≢ Basic) → StandsAt (s j) (S.lower j) (S.upper j) (z j +ℚ move j)
      stay j h (inl b) = rw b tt
      stay j h (inr nb) = rw ((weights_by_inverse W inv rest).of_basics j h nb, add-zero (z j)) (stands j h)

  -- The duals, from the inverse.
  pub duals_by_inverse : (W : ℕ → ℕ → ℚ) → IsIndependent S s → AreInverse W → (c : ℕ → ℚ) → AreDuals S s c (λ r. sum_ℚ S.columns (λ j. c j *ℚ W r j))
  unfolding reduced
  duals_by_inverse W ind inv c l h b =
      zero_difference (c l) _
      (sym (sum_unit S.columns c l h)
      ∙ (sum_ext S.columns (λ j. delta l j *ℚ c j) (λ j. c j *ℚ sum_ℚ S.rows (λ r. W r j *ℚ S.entry l r))
      (λ j k. mul_comm _ _ ∙ ap (λ x. c j *ℚ x) (sym (left_inverse W ind inv l h b j k) ∙ sum_ext S.rows (λ r. S.entry l r *ℚ W r j) (λ r. W r j *ℚ S.entry l r) (λ r q. mul_comm _ _)))
      ∙ sum_through S.columns S.rows c (S.entry l) (λ j r. W r j)))

  pub duals_are : (W : ℕ → ℕ → ℚ) → AreInverse W → (c y : ℕ → ℚ) → AreDuals S s c y → (r : ℕ) → r < S.rows → y r ≡ sum_ℚ S.columns (λ j. c j *ℚ W r j)
  unfolding reduced
  duals_are W inv c y d r h =
      sym (sum_unit S.rows y r h)
      ∙ (sum_ext S.rows (λ i. delta r i *ℚ y i) (λ i. y i *ℚ sum_ℚ S.columns (λ j. S.entry j i *ℚ W r j))
      (λ i k. mul_comm _ _ ∙ ap (λ x. y i *ℚ x) (sym ((inv r h).gives i k) ∙ sum_ext S.columns (λ j. W r j *ℚ S.entry j i) (λ j. S.entry j i *ℚ W r j) (λ j q. mul_comm _ _)))
      ∙ (sum_through S.rows S.columns y (W r) (λ i j. S.entry j i)
      ∙ sum_ext S.columns (λ j. sum_ℚ S.rows (λ i. y i *ℚ S.entry j i) *ℚ W r j) (λ j. c j *ℚ W r j) (λ j k. here j k (basic_or_not (s j)))))
    where
      here : (j : ℕ) → j < S.columns → (s j ≡ Basic) ⊎ (s j ≢ Basic) → sum_ℚ S.rows (λ i. y i *ℚ S.entry j i) *ℚ W r j ≡ c j *ℚ W r j
      here j k (inl b) = ap (λ x. x *ℚ W r j) (sym (difference_zero (c j) _ (d j k b)))
      here j k (inr nb) = rw ((inv r h).of_basics j k nb) (mul-zero _ ∙ sym (mul-zero _))

  -- Only one list has the state's duals.
  pub duals_unique : (W : ℕ → ℕ → ℚ) → AreInverse W → (c y z : ℕ → ℚ) → AreDuals S s c y → AreDuals S s c z → (r : ℕ) → r < S.rows → y r ≡ z r
  duals_unique W inv c y z p q r h = duals_are W inv c y p r h ∙ sym (duals_are W inv c z q r h)
