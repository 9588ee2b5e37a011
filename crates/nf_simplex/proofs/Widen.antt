-- The first state of stage two: rows are added, each with a basic column of its own, and the state stays lexicographically feasible.
use Rattle.std.proofs.Common.{◌≡◌, ◌≢◌, ℕ, zero, suc, ◌+◌, ◌<◌, ◌≤◌, ◌⊎◌, inl, inr, [], ◌∷◌, refl, sym, ap, ap₂, ◌∙◌, subst, arith, Option, Some, None}
use Rattle.nf_num.specs.Rational.{ℚ, zero_ℚ, one_ℚ, ◌+ℚ◌, ◌*ℚ◌, neg_ℚ, ◌<ℚ◌}
use Rattle.nf_num.specs.Sum.{sum_ℚ, delta}
use Rattle.nf_simplex.specs.Lex.{IsLexPositive, bound_vector, vector, IsAbove, IsUnder, IsLexFeasible}
use Rattle.nf_simplex.specs.Numbers.{StandsAt, Gives, IsInverseColumn, IsIndependent, IsValues}
use Rattle.nf_simplex.specs.Place.{Place, Basic, one_if_basic, count_basic}
use Rattle.nf_simplex.specs.Stage.{Stage, order}
use Rattle.nf_simplex.proofs.Basis.{basic_or_not}
use Rattle.nf_simplex.proofs.Count.{count_entered, found, not_basic_none}
use Rattle.nf_simplex.proofs.FieldLaws.{add-zero, add-neg, mul_assoc, mul-one, one-positive}
use Rattle.nf_simplex.proofs.Orders.{order_within}
use Rattle.nf_simplex.proofs.Sum.{below_or_past, difference_zero, zero_difference, sum_ext, sum_zero, sum_add, sum_scale, sum_exchange, sum_unit, unit_same, unit_other, equal_or_not}
use Rattle.nf_simplex.proofs.Terms.{v, nought, unit, minus, ◌:+◌, ◌:*◌, ◌:-◌, ring, mul-zero, zero-mul, zero-add, one-mul, add-mul}

first_or_past : (i n : ℕ) → (i < n) ⊎ (n ≤ i)
first_or_past i n = grind arith

-- A vector with k zeros put in behind its first member.
lex_insert : (n k : ℕ) (u t : ℕ → ℚ) → t 0 ≡ u 0 → ((q : ℕ) → q < k → t (suc q) ≡ zero_ℚ) → ((p : ℕ) → p < n → t (suc (k + p)) ≡ u (suc p)) → IsLexPositive (suc n) u → IsLexPositive (suc (n + k)) t
lex_insert n k u t first zeros rest p = of p.first refl
  where
    of : (f : ℕ) → p.first ≡ f → IsLexPositive (suc (n + k)) t
    of zero e = record {
      first = 0;
      within = omega arith;
      positive = subst (λ x. zero_ℚ <ℚ x) (ap u e ∙ sym first) p.positive;
      zeros = λ i h. absurd (omega arith);
    }
    of (suc f) e = record {
      first = suc (k + f);
      within = (let w = p.within in omega arith);
      positive = subst (λ x. zero_ℚ <ℚ x) (ap u e ∙ sym (rest f (let w = p.within in omega arith))) p.positive;
      zeros = λ i h. at i h;
    }
      where
        past : (i : ℕ) → (i < k) ⊎ ((m : ℕ) × (i ≡ k + m) × (m < f)) → t (suc i) ≡ zero_ℚ
        past i (inl h) = zeros i h
        past i (inr (m, q, h)) = ap (λ y. t (suc y)) q ∙ (rest m (let w = p.within in omega arith) ∙ p.zeros (suc m) (omega arith))

        at : (i : ℕ) → i < suc (k + f) → t i ≡ zero_ℚ
        at zero h = first ∙ p.zeros 0 (omega arith)
        at (suc i) h = past i (below_or_past i k f (omega arith))

-- Stage T has k more rows than S. Each has a column of its own, which is basic in t, and no entry elsewhere.
pub record IsWidened (S T : Stage) (s t : ℕ → Place) (f : IsLexFeasible S s) (k : ℕ) (own : ℕ → ℕ) (sign z : ℕ → ℚ) : Type 0 where
  pub rows : T.rows ≡ S.rows + k
  pub columns : T.columns ≡ S.columns
  pub entries : (j i : ℕ) → j < S.columns → i < S.rows → T.entry j i ≡ S.entry j i
  pub rights : (i : ℕ) → i < S.rows → T.right i ≡ S.right i
  -- the new rows stand first in the vectors
  pub new_order : (q : ℕ) → q < k → order T q ≡ S.rows + q
  pub old_order : (p : ℕ) → p < S.rows → order T (k + p) ≡ order S p
  pub kept : (j : ℕ) → j < S.columns → s j ≡ Basic → (t j ≡ Basic) × (T.lower j ≡ S.lower j) × (T.upper j ≡ S.upper j)
  pub own_there : (q : ℕ) → q < k → own q < S.columns
  pub own_distinct : (q p : ℕ) → q < k → p < k → own q ≡ own p → q ≡ p
  pub own_new : (q : ℕ) → q < k → s (own q) ≢ Basic
  pub own_basic : (q : ℕ) → q < k → t (own q) ≡ Basic
  pub own_entry : (q i : ℕ) → q < k → i < T.rows → T.entry (own q) i ≡ sign q *ℚ delta (S.rows + q) i
  pub own_lower : (q : ℕ) → q < k → T.lower (own q) ≡ Some zero_ℚ
  pub own_upper : (q : ℕ) → q < k → T.upper (own q) ≡ None
  pub only : (j : ℕ) → j < S.columns → t j ≡ Basic → (s j ≡ Basic) ⊎ ((q : ℕ) × (q < k) × (own q ≡ j))
  -- z has the numbers of the columns that are no new basic ones
  pub stands : (j : ℕ) → j < S.columns → StandsAt (t j) (T.lower j) (T.upper j) (z j)
  pub own_zero : (q : ℕ) → q < k → z (own q) ≡ zero_ℚ
  pub old_values : (j : ℕ) → j < S.columns → s j ≡ Basic → z j ≡ f.values j
  -- a column whose number is not that of before has no entry in the old rows
  pub moved_off : (j : ℕ) → j < S.columns → (z j ≡ f.values j) ⊎ ((i : ℕ) → i < S.rows → S.entry j i ≡ zero_ℚ)
  -- its vector is to be positive
  pub square : (q : ℕ) → q < k → sign q *ℚ sign q ≡ one_ℚ
  pub signs : (q : ℕ) → q < k →
      (zero_ℚ <ℚ (T.right (S.rows + q) +ℚ neg_ℚ (sum_ℚ T.columns (λ j. z j *ℚ T.entry j (S.rows + q)))) *ℚ sign q)
      ⊎ ((T.right (S.rows + q) +ℚ neg_ℚ (sum_ℚ T.columns (λ j. z j *ℚ T.entry j (S.rows + q))) ≡ zero_ℚ) × (sign q ≡ one_ℚ))

module _ (S T : Stage) (s t : ℕ → Place) (f : IsLexFeasible S s) (k : ℕ) (own : ℕ → ℕ) (sign z : ℕ → ℚ) (c : IsWidened S T s t f k own sign z) where
  -- what the new rows lack, given the old columns' numbers
  lack : (ℕ → ℚ) → (ℕ → ℚ) → ℕ → ℚ
  lack w a q = (a (S.rows + q) +ℚ neg_ℚ (sum_ℚ T.columns (λ p. w p *ℚ T.entry p (S.rows + q)))) *ℚ sign q

  -- w with the new basic columns' numbers
  complete : (ℕ → ℚ) → (ℕ → ℚ) → ℕ → ℚ
  complete w a j = w j +ℚ sum_ℚ k (λ q. delta (own q) j *ℚ lack w a q)

  own_at : (u : ℕ → ℚ) (q : ℕ) → q < k → sum_ℚ k (λ p. delta (own p) (own q) *ℚ u p) ≡ u q
  own_at u q h = sum_ext k (λ p. delta (own p) (own q) *ℚ u p) (λ p. delta q p *ℚ u p) (λ p m. ap (λ y. y *ℚ u p) (one p m (equal_or_not q p))) ∙ sum_unit k u q h
    where
      one : (p : ℕ) → p < k → (q ≡ p) ⊎ (q ≢ p) → delta (own p) (own q) ≡ delta q p
      one p m (inl e) = ap (λ y. delta (own y) (own q)) (sym e) ∙ (unit_same (own q) ∙ (sym (unit_same q) ∙ ap (λ y. delta q y) e))
      one p m (inr e) = unit_other (own p) (own q) (λ r. e (c.own_distinct q p h m (sym r))) ∙ sym (unit_other q p e)

  none_at : (u : ℕ → ℚ) (j : ℕ) → ((q : ℕ) → q < k → own q ≢ j) → sum_ℚ k (λ q. delta (own q) j *ℚ u q) ≡ zero_ℚ
  none_at u j other = sum_zero k (λ q. delta (own q) j *ℚ u q) (λ q h. ap (λ y. y *ℚ u q) (unit_other (own q) j (other q h)) ∙ zero-mul _)

  complete_own : (w a : ℕ → ℚ) (q : ℕ) → q < k → complete w a (own q) ≡ w (own q) +ℚ lack w a q
  unfolding complete
  complete_own w a q h = ap (λ y. w (own q) +ℚ y) (own_at (lack w a) q h)

  complete_off : (w a : ℕ → ℚ) (j : ℕ) → ((q : ℕ) → q < k → own q ≢ j) → complete w a j ≡ w j
  unfolding complete
  complete_off w a j other = ap (λ y. w j +ℚ y) (none_at (lack w a) j other) ∙ add-zero (w j)

  own_off : (j : ℕ) → s j ≡ Basic → (q : ℕ) → q < k → own q ≢ j
  own_off j b q h e = c.own_new q h (ap s e ∙ b)

  -- the combination of the new basic columns
  own_sum : (u : ℕ → ℚ) (i : ℕ) → i < T.rows → sum_ℚ T.columns (λ j. sum_ℚ k (λ q. delta (own q) j *ℚ u q) *ℚ T.entry j i) ≡ sum_ℚ k (λ q. (sign q *ℚ delta (S.rows + q) i) *ℚ u q)
  own_sum u i h =
      sum_ext T.columns (λ j. sum_ℚ k (λ q. delta (own q) j *ℚ u q) *ℚ T.entry j i) (λ j. sum_ℚ k (λ q. (delta (own q) j *ℚ T.entry j i) *ℚ u q))
      (λ j l. sym (sum_scale k (λ q. delta (own q) j *ℚ u q) (T.entry j i)) ∙ sum_ext k (λ q. (delta (own q) j *ℚ u q) *ℚ T.entry j i) (λ q. (delta (own q) j *ℚ T.entry j i) *ℚ u q) (λ q m. ring (delta (own q) j ∷ u q ∷ T.entry j i ∷ []) ((v 0 :* v 1) :* v 2) ((v 0 :* v 2) :* v 1) refl))
      ∙ (sum_exchange T.columns k (λ j q. (delta (own q) j *ℚ T.entry j i) *ℚ u q)
      ∙ sum_ext k (λ q. sum_ℚ T.columns (λ j. (delta (own q) j *ℚ T.entry j i) *ℚ u q)) (λ q. (sign q *ℚ delta (S.rows + q) i) *ℚ u q)
      (λ q m. sum_scale T.columns (λ j. delta (own q) j *ℚ T.entry j i) (u q)
      ∙ ap (λ y. y *ℚ u q) (sum_unit T.columns (λ j. T.entry j i) (own q) (let a = c.own_there q m in let e = c.columns in omega arith) ∙ c.own_entry q i m h)))

  own_sum_old : (u : ℕ → ℚ) (i : ℕ) → i < S.rows → sum_ℚ T.columns (λ j. sum_ℚ k (λ q. delta (own q) j *ℚ u q) *ℚ T.entry j i) ≡ zero_ℚ
  own_sum_old u i h =
      own_sum u i (let e = c.rows in omega arith)
      ∙ sum_zero k (λ q. (sign q *ℚ delta (S.rows + q) i) *ℚ u q) (λ q m. ap (λ y. (sign q *ℚ y) *ℚ u q) (unit_other (S.rows + q) i (omega arith)) ∙ ring (sign q ∷ u q ∷ []) ((v 0 :* nought) :* v 1) nought refl)

  own_sum_new : (u : ℕ → ℚ) (q : ℕ) → q < k → sum_ℚ T.columns (λ j. sum_ℚ k (λ q. delta (own q) j *ℚ u q) *ℚ T.entry j (S.rows + q)) ≡ sign q *ℚ u q
  own_sum_new u q h =
      own_sum u (S.rows + q) (let e = c.rows in omega arith)
      ∙ (sum_ext k (λ p. (sign p *ℚ delta (S.rows + p) (S.rows + q)) *ℚ u p) (λ p. delta q p *ℚ (sign p *ℚ u p)) (λ p m. ap (λ y. (sign p *ℚ y) *ℚ u p) (shift p (equal_or_not q p)) ∙ ring (sign p ∷ delta q p ∷ u p ∷ []) ((v 0 :* v 1) :* v 2) (v 1 :* (v 0 :* v 2)) refl)
      ∙ sum_unit k (λ p. sign p *ℚ u p) q h)
    where
      shift : (p : ℕ) → (q ≡ p) ⊎ (q ≢ p) → delta (S.rows + p) (S.rows + q) ≡ delta q p
      shift p (inl e) = ap (λ y. delta (S.rows + y) (S.rows + q)) (sym e) ∙ (unit_same (S.rows + q) ∙ (sym (unit_same q) ∙ ap (λ y. delta q y) e))
      shift p (inr e) = unit_other (S.rows + p) (S.rows + q) (omega arith) ∙ sym (unit_other q p e)

  -- Where w gives a in the old rows, its completion gives a in all.
  complete_gives : (w a : ℕ → ℚ) → ((i : ℕ) → i < S.rows → sum_ℚ T.columns (λ j. w j *ℚ T.entry j i) ≡ a i) → Gives T (complete w a) a
  unfolding complete lack
  complete_gives w a old i h = parts ∙ of (below_or_past i S.rows k (let e = c.rows in omega arith))
    where
      parts : sum_ℚ T.columns (λ j. (w j +ℚ sum_ℚ k (λ q. delta (own q) j *ℚ lack w a q)) *ℚ T.entry j i) ≡ sum_ℚ T.columns (λ j. w j *ℚ T.entry j i) +ℚ sum_ℚ T.columns (λ j. sum_ℚ k (λ q. delta (own q) j *ℚ lack w a q) *ℚ T.entry j i)
      parts = sum_ext T.columns (λ j. (w j +ℚ sum_ℚ k (λ q. delta (own q) j *ℚ lack w a q)) *ℚ T.entry j i) (λ j. w j *ℚ T.entry j i +ℚ sum_ℚ k (λ q. delta (own q) j *ℚ lack w a q) *ℚ T.entry j i) (λ j l. add-mul _ _ _)
          ∙ sum_add T.columns (λ j. w j *ℚ T.entry j i) (λ j. sum_ℚ k (λ q. delta (own q) j *ℚ lack w a q) *ℚ T.entry j i)

      of : (i < S.rows) ⊎ ((q : ℕ) × (i ≡ S.rows + q) × (q < k)) → sum_ℚ T.columns (λ j. w j *ℚ T.entry j i) +ℚ sum_ℚ T.columns (λ j. sum_ℚ k (λ q. delta (own q) j *ℚ lack w a q) *ℚ T.entry j i) ≡ a i
      of (inl l) = ap₂ (λ x y. x +ℚ y) (old i l) (own_sum_old (lack w a) i l) ∙ add-zero (a i)
      of (inr (q, e, m)) =
          subst (λ y. sum_ℚ T.columns (λ j. w j *ℚ T.entry j y) +ℚ sum_ℚ T.columns (λ j. sum_ℚ k (λ q. delta (own q) j *ℚ lack w a q) *ℚ T.entry j y) ≡ a y) (sym e)
          (ap (λ y. sum_ℚ T.columns (λ j. w j *ℚ T.entry j (S.rows + q)) +ℚ y) (own_sum_new (lack w a) q m)
          ∙ (ring (sum_ℚ T.columns (λ j. w j *ℚ T.entry j (S.rows + q)) ∷ sign q ∷ a (S.rows + q) ∷ []) (v 0 :+ v 1 :* ((v 2 :- v 0) :* v 1)) (v 0 :+ (v 2 :- v 0) :* (v 1 :* v 1)) refl
          ∙ (ap (λ y. sum_ℚ T.columns (λ j. w j *ℚ T.entry j (S.rows + q)) +ℚ (a (S.rows + q) +ℚ neg_ℚ (sum_ℚ T.columns (λ j. w j *ℚ T.entry j (S.rows + q)))) *ℚ y) (c.square q m)
          ∙ ring (sum_ℚ T.columns (λ j. w j *ℚ T.entry j (S.rows + q)) ∷ a (S.rows + q) ∷ []) (v 0 :+ (v 1 :- v 0) :* unit) (v 1) refl)))

  -- a sum_ℚ over the columns in an old row is the one of the old stage
  old_sum : (w : ℕ → ℚ) (i : ℕ) → i < S.rows → sum_ℚ T.columns (λ j. w j *ℚ T.entry j i) ≡ sum_ℚ S.columns (λ j. w j *ℚ S.entry j i)
  old_sum w i h = ap (λ n. sum_ℚ n (λ j. w j *ℚ T.entry j i)) c.columns ∙ sum_ext S.columns (λ j. w j *ℚ T.entry j i) (λ j. w j *ℚ S.entry j i) (λ j l. ap (λ y. w j *ℚ y) (c.entries j i l h))

  not_own : (j : ℕ) → t j ≢ Basic → (q : ℕ) → q < k → own q ≢ j
  not_own j nb q h e = nb (ap t (sym e) ∙ c.own_basic q h)

  new_not : (j : ℕ) → j < S.columns → s j ≢ Basic → ((q : ℕ) → q < k → own q ≢ j) → t j ≢ Basic
  new_not j h nb other b = of (c.only j h b)
    where
      of : (s j ≡ Basic) ⊎ ((q : ℕ) × (q < k) × (own q ≡ j)) → ⊥
      of (inl e) = nb e
      of (inr (q, m, e)) = other q m e

  -- The new columns are independent.
  independent : IsIndependent T t
  independent w of_basics null j h =
      along j (let e = c.columns in omega arith)
      ∙ sum_zero k (λ q. delta (own q) j *ℚ w (own q)) (λ q m. ap (λ y. delta (own q) j *ℚ y) (gone q m) ∙ mul-zero _)
    where
      u : ℕ → ℚ
      u q = w (own q)

      spread : ℕ → ℚ
      spread j = sum_ℚ k (λ q. delta (own q) j *ℚ u q)

      old_weights : (j : ℕ) → j < S.columns → s j ≢ Basic → w j +ℚ neg_ℚ (spread j) ≡ zero_ℚ
      old_weights j h nb = of (found own k j)
        where
          of : ((q : ℕ) × (q < k) × (own q ≡ j)) ⊎ ((q : ℕ) → q < k → own q ≢ j) → w j +ℚ neg_ℚ (spread j) ≡ zero_ℚ
          of (inl (q, m, e)) = subst (λ y. w y +ℚ neg_ℚ (spread y) ≡ zero_ℚ) e (zero_difference _ _ (sym (own_at u q m)))
          of (inr other) = zero_difference _ _ (of_basics j (let e = c.columns in omega arith) (new_not j h nb other) ∙ sym (none_at u j other))

      old_null : (i : ℕ) → i < S.rows → sum_ℚ S.columns (λ j. (w j +ℚ neg_ℚ (spread j)) *ℚ S.entry j i) ≡ zero_ℚ
      old_null i l =
          sym (old_sum (λ j. w j +ℚ neg_ℚ (spread j)) i l)
          ∙ (sum_ext T.columns (λ j. (w j +ℚ neg_ℚ (spread j)) *ℚ T.entry j i) (λ j. w j *ℚ T.entry j i +ℚ (spread j *ℚ T.entry j i) *ℚ neg_ℚ one_ℚ) (λ j m. ring (w j ∷ spread j ∷ T.entry j i ∷ []) ((v 0 :- v 1) :* v 2) (v 0 :* v 2 :+ (v 1 :* v 2) :* minus unit) refl)
          ∙ (sum_add T.columns (λ j. w j *ℚ T.entry j i) (λ j. (spread j *ℚ T.entry j i) *ℚ neg_ℚ one_ℚ)
          ∙ (ap₂ (λ x y. x +ℚ y) (null i (let e = c.rows in omega arith)) (sum_scale T.columns (λ j. spread j *ℚ T.entry j i) (neg_ℚ one_ℚ) ∙ ap (λ y. y *ℚ neg_ℚ one_ℚ) (own_sum_old u i l))
          ∙ ring [] (nought :+ nought :* minus unit) nought refl)))

      along : (j : ℕ) → j < S.columns → w j ≡ spread j
      along j h = difference_zero (w j) (spread j) (f.basis.independent (λ j. w j +ℚ neg_ℚ (spread j)) old_weights old_null j h)

      gone : (q : ℕ) → q < k → u q ≡ zero_ℚ
      gone q h =
          sym (one-mul (u q)) ∙ (ap (λ y. y *ℚ u q) (sym (c.square q h)) ∙ (mul_assoc _ _ _
          ∙ (ap (λ y. sign q *ℚ y)
          (sym (own_sum_new u q h)
          ∙ (sum_ext T.columns (λ j. spread j *ℚ T.entry j (S.rows + q)) (λ j. w j *ℚ T.entry j (S.rows + q)) (λ j m. ap (λ y. y *ℚ T.entry j (S.rows + q)) (sym (along j (let e = c.columns in omega arith))))
          ∙ null (S.rows + q) (let e = c.rows in omega arith)))
          ∙ mul-zero _)))

  as_many : count_basic T.columns t ≡ T.rows
  as_many =
      ap (λ n. count_basic n t) c.columns
      ∙ (count_entered s t own S.columns k c.own_there c.own_distinct c.own_new c.own_basic same
      ∙ (ap (λ n. n + k) f.basis.as_many ∙ sym c.rows))
    where
      same : (j : ℕ) → j < S.columns → ((q : ℕ) → q < k → own q ≢ j) → one_if_basic (t j) ≡ one_if_basic (s j)
      same j h other = of (basic_or_not (s j))
        where
          of : (s j ≡ Basic) ⊎ (s j ≢ Basic) → one_if_basic (t j) ≡ one_if_basic (s j)
          of (inl b) = ap one_if_basic ((c.kept j h b).0 ∙ sym b)
          of (inr nb) = not_basic_none (t j) (new_not j h nb other) ∙ sym (not_basic_none (s j) nb)

  values : ℕ → ℚ
  values = complete z T.right

  are_values : IsValues T t values
  unfolding values
  are_values = record {
    stands = λ j h. at j h (basic_or_not (t j));
    equations = complete_gives z T.right old;
  }
    where
      at : (j : ℕ) → j < T.columns → (t j ≡ Basic) ⊎ (t j ≢ Basic) → StandsAt (t j) (T.lower j) (T.upper j) (values j)
      at j h (inl b) = subst (λ y. StandsAt y (T.lower j) (T.upper j) (values j)) (sym b) tt
      at j h (inr nb) = subst (λ y. StandsAt (t j) (T.lower j) (T.upper j) y) (sym (complete_off z T.right j (not_own j nb))) (c.stands j (let e = c.columns in omega arith))

      old : (i : ℕ) → i < S.rows → sum_ℚ T.columns (λ j. z j *ℚ T.entry j i) ≡ T.right i
      old i h =
          old_sum z i h
          ∙ (sum_ext S.columns (λ j. z j *ℚ S.entry j i) (λ j. f.values j *ℚ S.entry j i) (λ j l. of j (c.moved_off j l))
          ∙ (f.are_values.equations i h ∙ sym (c.rights i h)))
        where
          of : (j : ℕ) → (z j ≡ f.values j) ⊎ ((i : ℕ) → i < S.rows → S.entry j i ≡ zero_ℚ) → z j *ℚ S.entry j i ≡ f.values j *ℚ S.entry j i
          of j (inl e) = ap (λ y. y *ℚ S.entry j i) e
          of j (inr n) = ap (λ y. z j *ℚ y) (n i h) ∙ (mul-zero _ ∙ (sym (mul-zero _) ∙ ap (λ y. f.values j *ℚ y) (sym (n i h))))

  old_inverse : (r : ℕ) → (r < S.rows) ⊎ (S.rows ≤ r) → ℕ → ℚ
  old_inverse r (inl h) = f.inverse r
  old_inverse r (inr h) = λ j. zero_ℚ

  inv : ℕ → ℕ → ℚ
  inv r = complete (old_inverse r (first_or_past r S.rows)) (delta r)

  old_inverse_off : (r j : ℕ) → j < S.columns → s j ≢ Basic → (d : (r < S.rows) ⊎ (S.rows ≤ r)) → old_inverse r d j ≡ zero_ℚ
  unfolding old_inverse
  old_inverse_off r j h nb (inl l) = (f.are_inverse r l).of_basics j h nb
  old_inverse_off r j h nb (inr l) = refl

  old_inverse_first : (r j : ℕ) → r < S.rows → (d : (r < S.rows) ⊎ (S.rows ≤ r)) → old_inverse r d j ≡ f.inverse r j
  unfolding old_inverse
  old_inverse_first r j h (inl l) = refl
  old_inverse_first r j h (inr l) = absurd (omega arith)

  old_inverse_past : (r j : ℕ) → S.rows ≤ r → (d : (r < S.rows) ⊎ (S.rows ≤ r)) → old_inverse r d j ≡ zero_ℚ
  unfolding old_inverse
  old_inverse_past r j h (inl l) = absurd (omega arith)
  old_inverse_past r j h (inr l) = refl

  are_inverse : (r : ℕ) → r < T.rows → IsInverseColumn T t r (inv r)
  unfolding inv
  are_inverse r h = record {
    of_basics = λ j l nb.
        complete_off (old_inverse r (first_or_past r S.rows)) (delta r) j (not_own j nb)
        ∙ old_inverse_off r j (let e = c.columns in omega arith) (λ b. nb ((c.kept j (let e = c.columns in omega arith) b).0)) (first_or_past r S.rows);
    gives = complete_gives (old_inverse r (first_or_past r S.rows)) (delta r) (λ i l. old i l (first_or_past r S.rows));
  }
    where
      old : (i : ℕ) → i < S.rows → (d : (r < S.rows) ⊎ (S.rows ≤ r)) → sum_ℚ T.columns (λ j. old_inverse r d j *ℚ T.entry j i) ≡ delta r i
      old i l (inl m) = old_sum (old_inverse r (inl m)) i l ∙ (sum_ext S.columns (λ j. old_inverse r (inl m) j *ℚ S.entry j i) (λ j. f.inverse r j *ℚ S.entry j i) (λ j q. ap (λ y. y *ℚ S.entry j i) (old_inverse_first r j m (inl m))) ∙ (f.are_inverse r m).gives i l)
      old i l (inr m) = sum_zero T.columns (λ j. old_inverse r (inr m) j *ℚ T.entry j i) (λ j q. ap (λ y. y *ℚ T.entry j i) (old_inverse_past r j m (inr m)) ∙ zero-mul _) ∙ sym (unit_other r i (omega arith))

  -- the vectors of the old basic columns have k zeros more
  old_first : (j : ℕ) → j < S.columns → s j ≡ Basic → vector T values inv j 0 ≡ vector S f.values f.inverse j 0
  unfolding values
  old_first j h b = complete_off z T.right j (own_off j b) ∙ c.old_values j h b

  old_zeros : (j : ℕ) → s j ≡ Basic → (q : ℕ) → q < k → vector T values inv j (suc q) ≡ zero_ℚ
  unfolding inv
  old_zeros j b q h = ap (λ r. inv r j) (c.new_order q h) ∙ (complete_off _ _ j (own_off j b) ∙ old_inverse_past (S.rows + q) j (omega arith) (first_or_past (S.rows + q) S.rows))

  old_rest : (j : ℕ) → s j ≡ Basic → (p : ℕ) → p < S.rows → vector T values inv j (suc (k + p)) ≡ vector S f.values f.inverse j (suc p)
  unfolding inv
  old_rest j b p h = ap (λ r. inv r j) (c.old_order p h) ∙ (complete_off _ _ j (own_off j b) ∙ old_inverse_first (order S p) j (order_within S p h) (first_or_past (order S p) S.rows))

  widen_rows : (u : ℕ → ℚ) → IsLexPositive (suc (S.rows + k)) u → IsLexPositive (suc T.rows) u
  widen_rows u p = subst (λ n. IsLexPositive (suc n) u) (sym c.rows) p

  old_above : (j : ℕ) → j < S.columns → s j ≡ Basic → (o : Option ℚ) → IsAbove (suc S.rows) o (vector S f.values f.inverse j) → IsAbove (suc T.rows) o (vector T values inv j)
  old_above j h b None p = tt
  old_above j h b (Some l) p =
      widen_rows (λ i. vector T values inv j i +ℚ neg_ℚ (bound_vector l i))
      (lex_insert S.rows k (λ i. vector S f.values f.inverse j i +ℚ neg_ℚ (bound_vector l i)) (λ i. vector T values inv j i +ℚ neg_ℚ (bound_vector l i))
      (ap (λ y. y +ℚ neg_ℚ l) (old_first j h b)) (λ q m. ap (λ y. y +ℚ neg_ℚ zero_ℚ) (old_zeros j b q m) ∙ add-neg zero_ℚ) (λ i m. ap (λ y. y +ℚ neg_ℚ zero_ℚ) (old_rest j b i m)) p)

  old_under : (j : ℕ) → j < S.columns → s j ≡ Basic → (o : Option ℚ) → IsUnder (suc S.rows) o (vector S f.values f.inverse j) → IsUnder (suc T.rows) o (vector T values inv j)
  old_under j h b None p = tt
  old_under j h b (Some l) p =
      widen_rows (λ i. bound_vector l i +ℚ neg_ℚ (vector T values inv j i))
      (lex_insert S.rows k (λ i. bound_vector l i +ℚ neg_ℚ (vector S f.values f.inverse j i)) (λ i. bound_vector l i +ℚ neg_ℚ (vector T values inv j i))
      (ap (λ y. l +ℚ neg_ℚ y) (old_first j h b)) (λ q m. ap (λ y. zero_ℚ +ℚ neg_ℚ y) (old_zeros j b q m) ∙ add-neg zero_ℚ) (λ i m. ap (λ y. zero_ℚ +ℚ neg_ℚ y) (old_rest j b i m)) p)

  plain : (y : ℚ) → y +ℚ neg_ℚ zero_ℚ ≡ y
  plain y = ring (y ∷ []) (v 0 :- nought) (v 0) refl

  own_value : (q : ℕ) → q < k → values (own q) ≡ (T.right (S.rows + q) +ℚ neg_ℚ (sum_ℚ T.columns (λ j. z j *ℚ T.entry j (S.rows + q)))) *ℚ sign q
  unfolding values lack
  own_value q h = complete_own z T.right q h ∙ (ap (λ y. y +ℚ lack z T.right q) (c.own_zero q h) ∙ zero-add _)

  own_weight : (q p : ℕ) → q < k → p < k → inv (order T p) (own q) ≡ delta (S.rows + p) (S.rows + q) *ℚ sign q
  unfolding inv lack
  own_weight q p h m =
      ap (λ r. inv r (own q)) (c.new_order p m)
      ∙ (complete_own (old_inverse (S.rows + p) (first_or_past (S.rows + p) S.rows)) (delta (S.rows + p)) q h
      ∙ (ap₂ (λ x y. x +ℚ (delta (S.rows + p) (S.rows + q) +ℚ neg_ℚ y) *ℚ sign q) (past (own q)) (sum_zero T.columns (λ j. old_inverse (S.rows + p) (first_or_past (S.rows + p) S.rows) j *ℚ T.entry j (S.rows + q)) (λ j l. ap (λ y. y *ℚ T.entry j (S.rows + q)) (past j) ∙ zero-mul _))
      ∙ ring (delta (S.rows + p) (S.rows + q) ∷ sign q ∷ []) (nought :+ (v 0 :- nought) :* v 1) (v 0 :* v 1) refl))
    where
      past : (j : ℕ) → old_inverse (S.rows + p) (first_or_past (S.rows + p) S.rows) j ≡ zero_ℚ
      past j = old_inverse_past (S.rows + p) j (omega arith) (first_or_past (S.rows + p) S.rows)

  own_above : (q : ℕ) → q < k → IsLexPositive (suc T.rows) (λ i. vector T values inv (own q) i +ℚ neg_ℚ (bound_vector zero_ℚ i))
  own_above q h = of (c.signs q h)
    where
      u : ℕ → ℚ
      u i = vector T values inv (own q) i +ℚ neg_ℚ (bound_vector zero_ℚ i)

      of : (zero_ℚ <ℚ (T.right (S.rows + q) +ℚ neg_ℚ (sum_ℚ T.columns (λ j. z j *ℚ T.entry j (S.rows + q)))) *ℚ sign q) ⊎ ((T.right (S.rows + q) +ℚ neg_ℚ (sum_ℚ T.columns (λ j. z j *ℚ T.entry j (S.rows + q))) ≡ zero_ℚ) × (sign q ≡ one_ℚ)) → IsLexPositive (suc T.rows) u
      of (inl p) = record {
        first = 0;
        within = omega arith;
        positive = subst (λ y. zero_ℚ <ℚ y) (sym (plain (values (own q)) ∙ own_value q h)) p;
        zeros = λ i m. absurd (omega arith);
      }
      of (inr (r, e)) = record {
        first = suc q;
        within = (let w = c.rows in omega arith);
        positive = subst (λ y. zero_ℚ <ℚ y) (sym (plain _ ∙ (own_weight q q h h ∙ (ap₂ (λ x y. x *ℚ y) (unit_same (S.rows + q)) e ∙ mul-one one_ℚ)))) one-positive;
        zeros = λ i m. at i m;
      }
        where
          at : (i : ℕ) → i < suc q → u i ≡ zero_ℚ
          at zero m = plain _ ∙ (own_value q h ∙ (ap (λ y. y *ℚ sign q) r ∙ zero-mul _))
          at (suc i) m = plain _ ∙ (own_weight q i h (omega arith) ∙ (ap (λ y. y *ℚ sign q) (unit_other (S.rows + i) (S.rows + q) (omega arith)) ∙ zero-mul _))

  -- The widened state is lexicographically feasible.
  pub widened_feasible : IsLexFeasible T t
  widened_feasible = record {
    basis = record { as_many = as_many; independent = independent };
    values = values;
    inverse = inv;
    are_values = are_values;
    are_inverse = are_inverse;
    above = λ j h b. at_above j (let e = c.columns in omega arith) (c.only j (let e = c.columns in omega arith) b);
    under = λ j h b. at_under j (let e = c.columns in omega arith) (c.only j (let e = c.columns in omega arith) b);
  }
    where
      at_above : (j : ℕ) → j < S.columns → (s j ≡ Basic) ⊎ ((q : ℕ) × (q < k) × (own q ≡ j)) → IsAbove (suc T.rows) (T.lower j) (vector T values inv j)
      at_above j h (inl b) = subst (λ o. IsAbove (suc T.rows) o (vector T values inv j)) (sym (c.kept j h b).1) (old_above j h b (S.lower j) (f.above j h b))
      at_above j h (inr (q, m, e)) = subst (λ i. IsAbove (suc T.rows) (T.lower i) (vector T values inv i)) e (subst (λ o. IsAbove (suc T.rows) o (vector T values inv (own q))) (sym (c.own_lower q m)) (own_above q m))

      at_under : (j : ℕ) → j < S.columns → (s j ≡ Basic) ⊎ ((q : ℕ) × (q < k) × (own q ≡ j)) → IsUnder (suc T.rows) (T.upper j) (vector T values inv j)
      at_under j h (inl b) = subst (λ o. IsUnder (suc T.rows) o (vector T values inv j)) (sym (c.kept j h b).2) (old_under j h b (S.upper j) (f.under j h b))
      at_under j h (inr (q, m, e)) = subst (λ i. IsUnder (suc T.rows) (T.upper i) (vector T values inv i)) e (subst (λ o. IsUnder (suc T.rows) o (vector T values inv (own q))) (sym (c.own_upper q m)) tt)
