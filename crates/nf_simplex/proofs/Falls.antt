-- A step makes the objective vector lexicographically less.
use Rattle.std.proofs.Common.{◌≡◌, ℕ, zero, suc, ◌+◌, ◌<◌, ◌⊎◌, inl, inr, Bool, true, false, [], ◌∷◌, refl, sym, ap, ap₂, ◌∙◌, subst, arith}
use Rattle.std.proofs.Common.{suc-add}
use Rattle.nf_num.specs.Rational.{ℚ, zero_ℚ, ◌+ℚ◌, ◌*ℚ◌, neg_ℚ, ◌<ℚ◌}
use Rattle.nf_num.specs.Sum.{sum_ℚ, delta}
use Rattle.nf_simplex.specs.Lex.{IsLexPositive, IsLexLess, IsLexFeasible}
use Rattle.nf_simplex.specs.Numbers.{AreDuals, reduced}
use Rattle.nf_simplex.specs.Objective.{objective, cost_vector, joined, Improves}
use Rattle.nf_simplex.specs.Place.{Place}
use Rattle.nf_simplex.specs.Stage.{Stage}
use Rattle.nf_simplex.specs.Step.{signed, CanEnter, IsNext}
use Rattle.nf_simplex.proofs.Basis.{sum_move, weights_by_inverse}
use Rattle.nf_simplex.proofs.Exchange.{direction, cost_of_direction}
use Rattle.nf_simplex.proofs.FieldLaws.{mul_comm}
use Rattle.nf_simplex.proofs.Lex.{lex_ext, lex_scale, neg_positive}
use Rattle.nf_simplex.proofs.Next.{members, rate, far, travel, far_positive}
use Rattle.nf_simplex.proofs.Sum.{below_or_past, zero_difference, sum_ext, sum_neg}
use Rattle.nf_simplex.proofs.Terms.{v, nought, minus, ◌:+◌, ◌:*◌, ◌:-◌, ring}

pub joined_first : (n : ℕ) (u t : ℕ → ℚ) (k : ℕ) → k < n → joined n u t k ≡ u k
joined_first zero u t k h = absurd (omega arith)
joined_first (suc n) u t zero h = refl
joined_first (suc n) u t (suc k) h = joined_first n (λ i. u (suc i)) t k (omega arith)

pub joined_second : (n : ℕ) (u t : ℕ → ℚ) (k : ℕ) → joined n u t (n + k) ≡ t k
joined_second zero u t k = ap t (omega arith)
joined_second (suc n) u t k = ap (λ i. joined (suc n) u t i) (suc-add n k) ∙ joined_second n (λ i. u (suc i)) t k

lex_by_first : (n m : ℕ) (u : ℕ → ℚ) → IsLexPositive n u → IsLexPositive (n + m) u
lex_by_first n m u p = record { first = p.first; within = (let w = p.within in omega arith); positive = p.positive; zeros = p.zeros }

lex_by_second : (n m : ℕ) (u t : ℕ → ℚ) → ((k : ℕ) → k < n → u k ≡ zero_ℚ) → ((k : ℕ) → u (n + k) ≡ t k) → IsLexPositive m t → IsLexPositive (n + m) u
lex_by_second n m u t z e p = record {
  first = n + p.first;
  within = (let w = p.within in omega arith);
  positive = subst (λ x. zero_ℚ <ℚ x) (sym (e p.first)) p.positive;
  zeros = λ i h. of i (below_or_past i n p.first h);
}
  where
    of : (i : ℕ) → (i < n) ⊎ ((q : ℕ) × (i ≡ n + q) × (q < p.first)) → u i ≡ zero_ℚ
    of i (inl a) = z i a
    of i (inr (q, r, b)) = ap u r ∙ (e q ∙ p.zeros q b)

pub lex_joined_first : (n m : ℕ) (u t a b : ℕ → ℚ) → IsLexLess n a u → IsLexLess (n + m) (joined n a b) (joined n u t)
lex_joined_first n m u t a b p =
    lex_by_first n m (λ k. joined n u t k +ℚ neg_ℚ (joined n a b k))
    (lex_ext n (λ k. u k +ℚ neg_ℚ (a k)) (λ k. joined n u t k +ℚ neg_ℚ (joined n a b k)) (λ k h. ap₂ (λ x y. x +ℚ neg_ℚ y) (sym (joined_first n u t k h)) (sym (joined_first n a b k h))) p)

pub lex_joined_second : (n m : ℕ) (u t a b : ℕ → ℚ) → ((k : ℕ) → k < n → u k ≡ a k) → IsLexLess m b t → IsLexLess (n + m) (joined n a b) (joined n u t)
lex_joined_second n m u t a b same p =
    lex_by_second n m (λ k. joined n u t k +ℚ neg_ℚ (joined n a b k)) (λ k. t k +ℚ neg_ℚ (b k))
    (λ k h. zero_difference _ _ (joined_first n u t k h ∙ (same k h ∙ sym (joined_first n a b k h))))
    (λ k. ap₂ (λ x y. x +ℚ neg_ℚ y) (joined_second n u t k) (joined_second n a b k)) p

pub improving_positive : (down : Bool) (d : ℚ) → Improves down d → zero_ℚ <ℚ neg_ℚ (signed down d)
improving_positive false d h = neg_positive d h
improving_positive true d h = subst (λ x. zero_ℚ <ℚ x) (ring (d ∷ []) (v 0) (minus (minus (v 0))) refl) h

module _ (S : Stage) (s : ℕ → Place) (fs : IsLexFeasible S s) (e : ℕ) (down : Bool) (c : CanEnter S s e down) where
  signed_factor : (b : Bool) (p q : ℚ) → p *ℚ signed b q ≡ signed b (p *ℚ q)
  signed_factor false p q = refl
  signed_factor true p q = ring (p ∷ q ∷ []) (v 0 :* minus (v 1)) (minus (v 0 :* v 1)) refl

  sum_signed : (b : Bool) (n : ℕ) (f : ℕ → ℚ) → sum_ℚ n (λ j. signed b (f j)) ≡ signed b (sum_ℚ n f)
  sum_signed false n f = refl
  sum_signed true n f = sum_neg n f

  -- the cost of what every column does while e moves
  pub rate_cost : (cost y : ℕ → ℚ) → AreDuals S s cost y → sum_ℚ S.columns (λ j. cost j *ℚ rate S s fs e down c j) ≡ signed down (reduced S cost y e)
  unfolding rate
  rate_cost cost y p =
      sum_ext S.columns (λ j. cost j *ℚ signed down (d j)) (λ j. signed down (cost j *ℚ d j)) (λ j h. signed_factor down (cost j) (d j))
      ∙ (sum_signed down S.columns (λ j. cost j *ℚ d j)
      ∙ ap (λ z. signed down z) (cost_of_direction S s e d (direction S s e (λ q. sum_ℚ S.rows (λ r. S.entry e r *ℚ fs.inverse r q)) c.there c.nonbasic (weights_by_inverse S s fs.inverse fs.are_inverse (S.entry e))) cost y c.there p))
    where
      d : ℕ → ℚ
      d j = delta e j +ℚ neg_ℚ (sum_ℚ S.rows (λ r. S.entry e r *ℚ fs.inverse r j))

module _ (S : Stage) (s : ℕ → Place) (fs : IsLexFeasible S s) (e : ℕ) (down : Bool) (c : CanEnter S s e down) (t : ℕ → Place) (x : IsNext S s e down t) where
  -- Each member of the cost vector moves by the reduced cost.
  pub cost_moves : (cost y : ℕ → ℚ) → AreDuals S s cost y → (k : ℕ) → k < suc S.rows
      → cost_vector S cost x.feasible.values x.feasible.inverse k ≡ cost_vector S cost fs.values fs.inverse k +ℚ far S s fs e down c t x.feasible k *ℚ signed down (reduced S cost y e)
  cost_moves cost y p k h =
      sum_ext S.columns (λ j. cost j *ℚ members S x.feasible j k) (λ j. (members S fs j k +ℚ T *ℚ rate S s fs e down c j) *ℚ cost j)
      (λ j m. ap (λ z. cost j *ℚ z) (travel S s fs e down c t x j m k h) ∙ mul_comm _ _)
      ∙ (sum_move S.columns (λ j. members S fs j k) (rate S s fs e down c) cost T
      ∙ ap₂ (λ y z. y +ℚ T *ℚ z)
      (sum_ext S.columns (λ j. members S fs j k *ℚ cost j) (λ j. cost j *ℚ members S fs j k) (λ j m. mul_comm _ _))
      (sum_ext S.columns (λ j. rate S s fs e down c j *ℚ cost j) (λ j. cost j *ℚ rate S s fs e down c j) (λ j m. mul_comm _ _) ∙ rate_cost S s fs e down c cost y p))
    where
      T : ℚ
      T = far S s fs e down c t x.feasible k

  cost_falls : (cost y : ℕ → ℚ) → AreDuals S s cost y → Improves down (reduced S cost y e)
      → IsLexLess (suc S.rows) (cost_vector S cost x.feasible.values x.feasible.inverse) (cost_vector S cost fs.values fs.inverse)
  cost_falls cost y p better =
      lex_ext (suc S.rows) (λ k. far S s fs e down c t x.feasible k *ℚ neg_ℚ (signed down (reduced S cost y e))) (λ k. cost_vector S cost fs.values fs.inverse k +ℚ neg_ℚ (cost_vector S cost x.feasible.values x.feasible.inverse k))
      (λ k h. ring (cost_vector S cost fs.values fs.inverse k ∷ far S s fs e down c t x.feasible k ∷ signed down (reduced S cost y e) ∷ []) (v 1 :* minus (v 2)) (v 0 :- (v 0 :+ v 1 :* v 2)) refl
      ∙ ap (λ z. cost_vector S cost fs.values fs.inverse k +ℚ neg_ℚ z) (sym (cost_moves cost y p k h)))
      (lex_scale (suc S.rows) (far S s fs e down c t x.feasible) (neg_ℚ (signed down (reduced S cost y e))) (improving_positive down (reduced S cost y e) better) (far_positive S s fs e down c t x))

  cost_stays : (cost y : ℕ → ℚ) → AreDuals S s cost y → reduced S cost y e ≡ zero_ℚ → (k : ℕ) → k < suc S.rows
      → cost_vector S cost fs.values fs.inverse k ≡ cost_vector S cost x.feasible.values x.feasible.inverse k
  cost_stays cost y p none k h =
      sym (cost_moves cost y p k h ∙ (ap (λ z. cost_vector S cost fs.values fs.inverse k +ℚ far S s fs e down c t x.feasible k *ℚ signed down z) none ∙ of down))
    where
      of : (b : Bool) → cost_vector S cost fs.values fs.inverse k +ℚ far S s fs e down c t x.feasible k *ℚ signed b zero_ℚ ≡ cost_vector S cost fs.values fs.inverse k
      of false = ring (cost_vector S cost fs.values fs.inverse k ∷ far S s fs e down c t x.feasible k ∷ []) (v 0 :+ v 1 :* nought) (v 0) refl
      of true = ring (cost_vector S cost fs.values fs.inverse k ∷ far S s fs e down c t x.feasible k ∷ []) (v 0 :+ v 1 :* minus nought) (v 0) refl

  -- A step makes the objective vector less.
  pub objective_falls : (one two y1 y2 : ℕ → ℚ) → AreDuals S s one y1 → AreDuals S s two y2
      → Improves down (reduced S one y1 e) ⊎ ((reduced S one y1 e ≡ zero_ℚ) × Improves down (reduced S two y2 e))
      → IsLexLess (suc S.rows + suc S.rows) (objective S one two x.feasible) (objective S one two fs)
  objective_falls one two y1 y2 p q (inl h) = lex_joined_first (suc S.rows) (suc S.rows) _ _ _ _ (cost_falls one y1 p h)
  objective_falls one two y1 y2 p q (inr (z, h)) = lex_joined_second (suc S.rows) (suc S.rows) _ _ _ _ (cost_stays one y1 p z) (cost_falls two y2 q h)
