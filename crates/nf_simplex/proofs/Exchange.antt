-- The exchange of a basic column for an entering one, and what every change of the entering column's number does.
use Rattle.std.proofs.Common.{◌≡◌, ◌≢◌, ℕ, ◌<◌, ◌⊎◌, inl, inr, [], ◌∷◌, refl, sym, ap, ap₂, ◌∙◌, subst}
use Rattle.nf_num.specs.Rational.{ℚ, zero_ℚ, one_ℚ, ◌+ℚ◌, ◌*ℚ◌, neg_ℚ, inv_ℚ, ◌<ℚ◌}
use Rattle.nf_num.specs.Sum.{sum_ℚ, delta}
use Rattle.nf_simplex.specs.Numbers.{StandsAt, Gives, IsOfBasics, IsIndependent, IsValues, AreWeights, IsInverseColumn, AreEntries, AreDuals, reduced}
use Rattle.nf_simplex.specs.Place.{Place, Lower, Upper, Zero, Absent, Basic, IsBound}
use Rattle.nf_simplex.specs.Stage.{Stage}
use Rattle.nf_simplex.specs.Step.{IsExchange}
use Rattle.nf_simplex.proofs.Basis.{basic_or_not, sum_move, same_of_equal, duals_by_inverse, duals_are, sum_through}
use Rattle.nf_simplex.proofs.FieldLaws.{add-zero, mul_assoc, mul_comm, mul-one, mul-inverse, one-positive, less_irrefl}
use Rattle.nf_simplex.proofs.Sum.{sum_ext, sum_zero, sum_add, scale_sum, unit_same, unit_other, sum_unit, equal_or_not}
use Rattle.nf_simplex.proofs.Terms.{ring, v, nought, unit, minus, ◌:+◌, ◌:*◌, ◌:-◌, mul-zero, zero-mul, one-mul}

pub bound_not_basic : (p : Place) → IsBound p → p ≢ Basic
bound_not_basic Lower b e = cc
bound_not_basic Upper b e = cc
bound_not_basic Zero b e = cc
bound_not_basic Absent b e = cc
bound_not_basic Basic b e = b

pub zero_of_product : (a b : ℚ) → a *ℚ b ≡ zero_ℚ → b ≢ zero_ℚ → a ≡ zero_ℚ
zero_of_product a b h nz =
    sym (mul-one a) ∙ (ap (λ x. a *ℚ x) (sym (mul-inverse b nz)) ∙ (sym (mul_assoc a b (inv_ℚ b)) ∙ (ap (λ x. x *ℚ inv_ℚ b) h ∙ zero-mul (inv_ℚ b))))

-- a / b · b
pub divide_times : (a b : ℚ) → b ≢ zero_ℚ → (a *ℚ inv_ℚ b) *ℚ b ≡ a
divide_times a b nz = mul_assoc a (inv_ℚ b) b ∙ (ap (λ x. a *ℚ x) (mul_comm (inv_ℚ b) b ∙ mul-inverse b nz) ∙ mul-one a)

-- what basic columns do while column e grows by 1
pub record IsDirection (S : Stage) (s : ℕ → Place) (e : ℕ) (d : ℕ → ℚ) : Type 0 where
  pub null : Gives S d (λ i. zero_ℚ)
  pub off : (j : ℕ) → j < S.columns → s j ≢ Basic → j ≢ e → d j ≡ zero_ℚ
  pub one : d e ≡ one_ℚ

pub direction : (S : Stage) (s : ℕ → Place) (e : ℕ) (α : ℕ → ℚ) → e < S.columns → s e ≢ Basic → AreEntries S s e α → IsDirection S s e (λ j. delta e j +ℚ neg_ℚ (α j))
direction S s e α h nb p = record {
  null = λ i l.
      sum_ext S.columns (λ j. (delta e j +ℚ neg_ℚ (α j)) *ℚ S.entry j i) (λ j. (delta e j +ℚ neg_ℚ one_ℚ *ℚ α j) *ℚ S.entry j i)
      (λ j k. ring (delta e j ∷ α j ∷ S.entry j i ∷ []) ((v 0 :- v 1) :* v 2) ((v 0 :+ minus unit :* v 1) :* v 2) refl)
      ∙ (sum_move S.columns (delta e) α (λ j. S.entry j i) (neg_ℚ one_ℚ)
      ∙ rw (sum_unit S.columns (λ j. S.entry j i) e h, p.gives i l) (ring (S.entry e i ∷ []) (v 0 :+ minus unit :* v 0) nought refl));
  off = λ j k n ne. rw (unit_other e j (λ q. ne (sym q)), p.of_basics j k n) (ring [] (nought :- nought) nought refl);
  one = rw (unit_same e, p.of_basics e h nb) (ring [] (unit :- nought) unit refl);
}

module _ (S : Stage) (s : ℕ → Place) (e : ℕ) (d : ℕ → ℚ) (dir : IsDirection S s e d) where
  -- Lists with one combination that differ at basic columns and at e alone differ along the direction.
  pub moved : (x y : ℕ → ℚ) → IsIndependent S s → ((j : ℕ) → j < S.columns → s j ≢ Basic → j ≢ e → y j ≡ x j)
      → ((i : ℕ) → i < S.rows → sum_ℚ S.columns (λ j. y j *ℚ S.entry j i) ≡ sum_ℚ S.columns (λ j. x j *ℚ S.entry j i))
      → (j : ℕ) → j < S.columns → y j ≡ x j +ℚ (y e +ℚ neg_ℚ (x e)) *ℚ d j
  moved x y ind stay same =
      same_of_equal S s y (λ j. x j +ℚ (y e +ℚ neg_ℚ (x e)) *ℚ d j) ind (λ j h nb. here j h nb (equal_or_not j e))
      (λ i l. same i l ∙ sym (sum_move S.columns x d (λ j. S.entry j i) (y e +ℚ neg_ℚ (x e)) ∙ rw (dir.null i l) (ring (sum_ℚ S.columns (λ j. x j *ℚ S.entry j i) ∷ y e ∷ x e ∷ []) (v 0 :+ (v 1 :- v 2) :* nought) (v 0) refl)))
    where
      here : (j : ℕ) → j < S.columns → s j ≢ Basic → (j ≡ e) ⊎ (j ≢ e) → y j +ℚ neg_ℚ (x j +ℚ (y e +ℚ neg_ℚ (x e)) *ℚ d j) ≡ zero_ℚ
      here j h nb (inl q) = rw (q, dir.one) (ring (y e ∷ x e ∷ []) (v 0 :- (v 1 :+ (v 0 :- v 1) :* unit)) nought refl)
      here j h nb (inr ne) = rw (stay j h nb ne, dir.off j h nb ne) (ring (x j ∷ y e ∷ x e ∷ []) (v 0 :- (v 0 :+ (v 1 :- v 2) :* nought)) nought refl)

  -- The cost of the direction is the reduced cost of e.
  pub cost_of_direction : (c y : ℕ → ℚ) → e < S.columns → AreDuals S s c y → sum_ℚ S.columns (λ j. c j *ℚ d j) ≡ reduced S c y e
  unfolding reduced
  cost_of_direction c y h p =
      sym (
      sym (sum_unit S.columns (λ j. reduced S c y j *ℚ d j) e h ∙ (ap (λ z. reduced S c y e *ℚ z) dir.one ∙ mul-one _))
      ∙ (sum_ext S.columns (λ j. delta e j *ℚ (reduced S c y j *ℚ d j)) (λ j. c j *ℚ d j +ℚ neg_ℚ one_ℚ *ℚ (d j *ℚ sum_ℚ S.rows (λ i. S.entry j i *ℚ y i))) (λ j k. here j k (equal_or_not j e) (basic_or_not (s j)))
      ∙ (sum_add S.columns (λ j. c j *ℚ d j) (λ j. neg_ℚ one_ℚ *ℚ (d j *ℚ sum_ℚ S.rows (λ i. S.entry j i *ℚ y i)))
      ∙ (ap (λ z. sum_ℚ S.columns (λ j. c j *ℚ d j) +ℚ z) (scale_sum S.columns (λ j. d j *ℚ sum_ℚ S.rows (λ i. S.entry j i *ℚ y i)) (neg_ℚ one_ℚ)
      ∙ (ap (λ z. neg_ℚ one_ℚ *ℚ z) (sum_through S.columns S.rows d y S.entry ∙ sum_zero S.rows (λ i. sum_ℚ S.columns (λ j. d j *ℚ S.entry j i) *ℚ y i) (λ i k. ap (λ z. z *ℚ y i) (dir.null i k) ∙ zero-mul _))
      ∙ mul-zero _))
      ∙ add-zero _))))
    where
      turn : (j : ℕ) → reduced S c y j *ℚ d j ≡ c j *ℚ d j +ℚ neg_ℚ one_ℚ *ℚ (d j *ℚ sum_ℚ S.rows (λ i. S.entry j i *ℚ y i))
      turn j =
          ap (λ z. (c j +ℚ neg_ℚ z) *ℚ d j) (sum_ext S.rows (λ i. y i *ℚ S.entry j i) (λ i. S.entry j i *ℚ y i) (λ i k. mul_comm _ _))
          ∙ ring (c j ∷ d j ∷ sum_ℚ S.rows (λ i. S.entry j i *ℚ y i) ∷ []) ((v 0 :- v 2) :* v 1) (v 0 :* v 1 :+ minus unit :* (v 1 :* v 2)) refl

      here : (j : ℕ) → j < S.columns → (j ≡ e) ⊎ (j ≢ e) → (s j ≡ Basic) ⊎ (s j ≢ Basic) → delta e j *ℚ (reduced S c y j *ℚ d j) ≡ c j *ℚ d j +ℚ neg_ℚ one_ℚ *ℚ (d j *ℚ sum_ℚ S.rows (λ i. S.entry j i *ℚ y i))
      here j k (inl q) b = ap (λ z. delta e z *ℚ (reduced S c y j *ℚ d j)) q ∙ (ap (λ z. z *ℚ (reduced S c y j *ℚ d j)) (unit_same e) ∙ (one-mul _ ∙ turn j))
      here j k (inr q) (inl b) =
          ap (λ z. z *ℚ (reduced S c y j *ℚ d j)) (unit_other e j (λ r. q (sym r))) ∙ (zero-mul _ ∙ (sym (zero-mul (d j)) ∙ (ap (λ z. z *ℚ d j) (sym (p j k b)) ∙ turn j)))
      here j k (inr q) (inr b) =
          ap (λ z. z *ℚ (reduced S c y j *ℚ d j)) (unit_other e j (λ r. q (sym r))) ∙ (zero-mul _ ∙ (sym (mul-zero _) ∙ (ap (λ z. reduced S c y j *ℚ z) (sym (dir.off j k b q)) ∙ turn j)))

  module _ (l : ℕ) (t : ℕ → Place) (nb : s e ≢ Basic) (within : e < S.columns) (x : IsExchange S s e l t) where
    was_not : (j : ℕ) → j < S.columns → j ≢ e → t j ≢ Basic → s j ≢ Basic ⊎ (j ≡ l)
    was_not j h ne n = of (equal_or_not j l)
      where
        of : (j ≡ l) ⊎ (j ≢ l) → s j ≢ Basic ⊎ (j ≡ l)
        of (inl q) = inr q
        of (inr q) = inl (λ b. n (x.rest j h ne q ∙ b))

    pub l-not-e : l ≢ e
    l-not-e q = nb (ap s (sym q) ∙ x.was_basic)

    -- A basis has the entering column's entry at the leaving one.
    pub entry_not_zero : IsIndependent S t → d l ≢ zero_ℚ
    entry_not_zero ind z = less_irrefl zero_ℚ (subst (λ y. zero_ℚ <ℚ y) (sym dir.one ∙ ind d of_basics dir.null e within) one-positive)
      where
        of_basics : IsOfBasics S t d
        of_basics j h n = off (equal_or_not j e)
          where
            off : (j ≡ e) ⊎ (j ≢ e) → d j ≡ zero_ℚ
            off (inl q) = absurd (n (ap t q ∙ x.enters))
            off (inr q) = of (was_not j h q n)
              where
                of : s j ≢ Basic ⊎ (j ≡ l) → d j ≡ zero_ℚ
                of (inl b) = dir.off j h b q
                of (inr r) = ap d r ∙ z

    -- Where it is not zero, the columns stay independent.
    pub stays_independent : IsIndependent S s → d l ≢ zero_ℚ → IsIndependent S t
    stays_independent ind nz w of_basics null j h =
        along j h ∙ (ap (λ y. y *ℚ d j) (zero_of_product (w e) (d l) (sym (along l x.there) ∙ of_basics l x.there (bound_not_basic (t l) x.leaves)) nz) ∙ zero-mul (d j))
      where
        w_off : (j : ℕ) → j < S.columns → s j ≢ Basic → j ≢ e → w j ≡ zero_ℚ
        w_off j h n ne = of_basics j h (λ b. n (sym (x.rest j h ne (λ q. n (ap s q ∙ x.was_basic))) ∙ b))

        along : (j : ℕ) → j < S.columns → w j ≡ w e *ℚ d j
        along j h =
            moved (λ k. zero_ℚ) w ind w_off (λ i k. null i k ∙ sym (sum_zero S.columns (λ j. zero_ℚ *ℚ S.entry j i) (λ j q. zero-mul _))) j h
            ∙ ring (w e ∷ d j ∷ []) (nought :+ (v 0 :- nought) :* v 1) (v 0 :* v 1) refl

    -- what a list becomes where the entering column's number changes by as much as brings the leaving column's one to g
    unfoldable pub brought : ℚ → (ℕ → ℚ) → ℕ → ℚ
    brought g w j = w j +ℚ ((g +ℚ neg_ℚ (w l)) *ℚ inv_ℚ (d l)) *ℚ d j

    pub brought_at : d l ≢ zero_ℚ → (g : ℚ) (w : ℕ → ℚ) → brought g w l ≡ g
    unfolding brought
    brought_at nz g w = ap (λ y. w l +ℚ y) (divide_times (g +ℚ neg_ℚ (w l)) (d l) nz) ∙ (ring (w l ∷ g ∷ []) (v 0 :+ (v 1 :- v 0)) (v 1) refl)

    pub brought_off : (g : ℚ) (w : ℕ → ℚ) (j : ℕ) → j < S.columns → s j ≢ Basic → j ≢ e → brought g w j ≡ w j
    unfolding brought
    brought_off g w j h n ne = ap (λ y. w j +ℚ ((g +ℚ neg_ℚ (w l)) *ℚ inv_ℚ (d l)) *ℚ y) (dir.off j h n ne) ∙ (ap (λ y. w j +ℚ y) (mul-zero _) ∙ add-zero (w j))

    pub brought_gives : (g : ℚ) (w a : ℕ → ℚ) → Gives S w a → Gives S (brought g w) a
    unfolding brought
    brought_gives g w a p i h = sum_move S.columns w d (λ j. S.entry j i) _ ∙ (ap₂ (λ y z. y +ℚ ((g +ℚ neg_ℚ (w l)) *ℚ inv_ℚ (d l)) *ℚ z) (p i h) (dir.null i h) ∙ (ap (λ y. a i +ℚ y) (mul-zero _) ∙ add-zero (a i)))

    -- The weights that give a, after the exchange.
    pub new_weights : d l ≢ zero_ℚ → (a w : ℕ → ℚ) → AreWeights S s a w → AreWeights S t a (brought zero_ℚ w)
    new_weights nz a w p = record {
      of_basics = λ j h n. of j h n (equal_or_not j e);
      gives = brought_gives zero_ℚ w a p.gives;
    }
      where
        of : (j : ℕ) → j < S.columns → t j ≢ Basic → (j ≡ e) ⊎ (j ≢ e) → brought zero_ℚ w j ≡ zero_ℚ
        of j h n (inl q) = absurd (n (ap t q ∙ x.enters))
        of j h n (inr q) = at (was_not j h q n)
          where
            at : s j ≢ Basic ⊎ (j ≡ l) → brought zero_ℚ w j ≡ zero_ℚ
            at (inl b) = brought_off zero_ℚ w j h b q ∙ p.of_basics j h b
            at (inr r) = ap (brought zero_ℚ w) r ∙ brought_at nz zero_ℚ w

    -- The values, after the exchange.
    pub new_values : d l ≢ zero_ℚ → (g : ℚ) → StandsAt (t l) (S.lower l) (S.upper l) g → (w : ℕ → ℚ) → IsValues S s w → IsValues S t (brought g w)
    new_values nz g at_g w p = record {
      stands = λ j h. of j h (equal_or_not j e);
      equations = brought_gives g w S.right p.equations;
    }
      where
        of : (j : ℕ) → j < S.columns → (j ≡ e) ⊎ (j ≢ e) → StandsAt (t j) (S.lower j) (S.upper j) (brought g w j)
        of j h (inl q) = rw (q, x.enters) tt
        of j h (inr q) = at (equal_or_not j l)
          where
            at : (j ≡ l) ⊎ (j ≢ l) → StandsAt (t j) (S.lower j) (S.upper j) (brought g w j)
            at (inl r) = rw (r, brought_at nz g w) at_g
            at (inr r) = rw (x.rest j h q r) (on (basic_or_not (s j)))
              where
                on : (s j ≡ Basic) ⊎ (s j ≢ Basic) → StandsAt (s j) (S.lower j) (S.upper j) (brought g w j)
                on (inl b) = rw b tt
                on (inr b) = rw (brought_off g w j h b q) (p.stands j h)

    -- The duals, after the exchange.
    pub new_duals : (W : ℕ → ℕ → ℚ) → IsIndependent S s → ((r : ℕ) → r < S.rows → IsInverseColumn S s r (W r)) → d l ≢ zero_ℚ
        → (c y : ℕ → ℚ) → AreDuals S s c y → AreDuals S t c (λ r. y r +ℚ (neg_ℚ (W r l) *ℚ inv_ℚ (d l)) *ℚ reduced S c y e)
    unfolding reduced brought
    new_duals W ind inv nz c y p j h b =
        ap (λ z. c j +ℚ neg_ℚ z)
        (sum_ext S.rows (λ r. (y r +ℚ (neg_ℚ (W r l) *ℚ inv_ℚ (d l)) *ℚ reduced S c y e) *ℚ S.entry j r) (λ r. sum_ℚ S.columns (λ q. c q *ℚ brought zero_ℚ (W r) q) *ℚ S.entry j r) (λ r k. ap (λ z. z *ℚ S.entry j r) (here r k)))
        ∙ duals_by_inverse S t (λ r. brought zero_ℚ (W r)) (stays_independent ind nz) (λ r k. new_weights nz (delta r) (W r) (inv r k)) c j h b
      where
        here : (r : ℕ) → r < S.rows → y r +ℚ (neg_ℚ (W r l) *ℚ inv_ℚ (d l)) *ℚ reduced S c y e ≡ sum_ℚ S.columns (λ q. c q *ℚ brought zero_ℚ (W r) q)
        here r k =
            ap₂ (λ z a. z +ℚ (neg_ℚ (W r l) *ℚ inv_ℚ (d l)) *ℚ a) (duals_are S s W inv c y p r k) (sym (cost_of_direction c y within p))
            ∙ sym (
            sum_ext S.columns (λ q. c q *ℚ brought zero_ℚ (W r) q) (λ q. (W r q +ℚ (neg_ℚ (W r l) *ℚ inv_ℚ (d l)) *ℚ d q) *ℚ c q)
            (λ q m. ring (c q ∷ W r q ∷ W r l ∷ inv_ℚ (d l) ∷ d q ∷ []) (v 0 :* (v 1 :+ ((nought :- v 2) :* v 3) :* v 4)) ((v 1 :+ (minus (v 2) :* v 3) :* v 4) :* v 0) refl)
            ∙ (sum_move S.columns (W r) d c (neg_ℚ (W r l) *ℚ inv_ℚ (d l))
            ∙ ap₂ (λ z a. z +ℚ (neg_ℚ (W r l) *ℚ inv_ℚ (d l)) *ℚ a)
            (sum_ext S.columns (λ q. W r q *ℚ c q) (λ q. c q *ℚ W r q) (λ q m. mul_comm _ _))
            (sum_ext S.columns (λ q. d q *ℚ c q) (λ q. c q *ℚ d q) (λ q m. mul_comm _ _))))
