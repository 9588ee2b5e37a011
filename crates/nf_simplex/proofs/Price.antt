-- An eligible column can enter, and lowers the objective; the printed duals have the right signs.
use Rattle.std.proofs.Common.{◌≡◌, ◌≢◌, ℕ, ◌⊎◌, inl, inr, Bool, true, false, [], ◌∷◌, refl, sym, ap, ◌∙◌, subst, Some}
use Rattle.nf_num.specs.Rational.{ℚ, zero_ℚ, ◌+ℚ◌, ◌*ℚ◌, neg_ℚ, inv_ℚ, ◌<ℚ◌}
use Rattle.nf_num.specs.Sum.{sum_ℚ}
use Rattle.std.proofs.Common.{arith, ◌≤◌}
use Rattle.nf_simplex.specs.Ends.{printed, HasEndedOptimal, IsFactor}
use Rattle.nf_simplex.specs.Numbers.{reduced}
use Rattle.nf_simplex.specs.Objective.{Improves}
use Rattle.nf_simplex.specs.Place.{Place, Lower, Upper, Zero, Absent, Basic}
use Rattle.nf_simplex.specs.Pricing.{HasWrongSign, IsEntrant, WantsOne, IsEligible, Rule, First, Best, Bland, Queue, IsPickedBy, IsPicked}
use Rattle.nf_simplex.specs.Queue.{PricingState}
use Rattle.nf_simplex.specs.Stage.{Stage}
use Rattle.nf_simplex.specs.Step.{CanEnter}
use Rattle.nf_simplex.proofs.FieldLaws.{add_comm, add-zero, mul-one, mul-inverse, less_irrefl, less_trans, less_cases, add-less, mul-positive}
use Rattle.nf_simplex.proofs.Queue.{front_once}
use Rattle.nf_simplex.proofs.Lex.{inverse-positive, neg_positive, not_zero}
use Rattle.nf_simplex.proofs.Sum.{sum_ext, sum_add, scale_sum}
use Rattle.nf_simplex.proofs.Terms.{v, nought, unit, minus, ◌:+◌, ◌:*◌, ◌:-◌, ring, mul-zero}

-- A wrong sign has one direction.
pub direction_of : (p : Place) (d : ℚ) → HasWrongSign p d → (down : Bool) × Improves down d × (p ≢ Basic) × (p ≢ Absent) × (p ≡ Lower → down ≡ false) × (p ≡ Upper → down ≡ true)
direction_of Lower d w = (false, w, (λ e. cc), (λ e. cc), (λ e. refl), λ e. absurd (cc))
direction_of Upper d w = (true, w, (λ e. cc), (λ e. cc), (λ e. absurd (cc)), λ e. refl)
direction_of Zero d w = of (less_cases d zero_ℚ)
  where
    of : (d <ℚ zero_ℚ) ⊎ ((d ≡ zero_ℚ) ⊎ (zero_ℚ <ℚ d)) → (down : Bool) × Improves down d × (Zero ≢ Basic) × (Zero ≢ Absent) × (Zero ≡ Lower → down ≡ false) × (Zero ≡ Upper → down ≡ true)
    of (inl h) = (false, h, (λ e. cc), (λ e. cc), (λ e. refl), λ e. absurd (cc))
    of (inr (inl h)) = absurd (w h)
    of (inr (inr h)) = (true, h, (λ e. cc), (λ e. cc), (λ e. absurd (cc)), λ e. refl)
direction_of Absent d w = absurd w
direction_of Basic d w = absurd w

-- bounds that do not cross and are not equal
in_order : (l u : ℚ) → (u <ℚ l → ⊥) → l ≢ u → l <ℚ u
in_order l u h ne = of (less_cases l u)
  where
    of : (l <ℚ u) ⊎ ((l ≡ u) ⊎ (u <ℚ l)) → l <ℚ u
    of (inl p) = p
    of (inr (inl e)) = absurd (ne e)
    of (inr (inr p)) = absurd (h p)

-- An eligible column can enter in one direction, and lowers the objective.
pub eligible_enters : (S : Stage) (s : ℕ → Place) (x one two y1 y2 : ℕ → ℚ) (e : ℕ)
    → ((l u : ℚ) → S.lower e ≡ Some l → S.upper e ≡ Some u → u <ℚ l → ⊥)
    → IsEligible S s x one two y1 y2 e
    → (down : Bool) × CanEnter S s e down × (Improves down (reduced S one y1 e) ⊎ ((reduced S one y1 e ≡ zero_ℚ) × Improves down (reduced S two y2 e)))
eligible_enters S s x one two y1 y2 e uncrossed (inl w) =
    let (down, better, nb, here, low, high) = direction_of (s e) (reduced S one y1 e) w.1 in
    (down, record { there = w.0.within; nonbasic = nb; present = here; bounds_differ = λ l u a b. in_order l u (uncrossed l u a b) (w.0.bounds_differ l u a b); from_lower = low; from_upper = high }, inl better)
eligible_enters S s x one two y1 y2 e uncrossed (inr w) =
    let (down, better, nb, here, low, high) = direction_of (s e) (reduced S two y2 e) w.2.2 in
    (down, record { there = w.2.0.within; nonbasic = nb; present = here; bounds_differ = λ l u a b. in_order l u (uncrossed l u a b) (w.2.0.bounds_differ l u a b); from_lower = low; from_upper = high }, inr (w.2.1, better))

-- The reduced cost by the printed duals of a column without a cost of phase one.
pub reduced_printed : (S : Stage) (one two y1 y2 : ℕ → ℚ) (m : ℚ) (j : ℕ) → one j ≡ zero_ℚ → reduced S two (printed y1 y2 m) j ≡ reduced S two y2 j +ℚ m *ℚ reduced S one y1 j
unfolding reduced
reduced_printed S one two y1 y2 m j z =
    ap (λ x. two j +ℚ neg_ℚ x)
    (sum_ext S.rows (λ i. (y2 i +ℚ m *ℚ y1 i) *ℚ S.entry j i) (λ i. y2 i *ℚ S.entry j i +ℚ m *ℚ (y1 i *ℚ S.entry j i)) (λ i h. ring (y2 i ∷ m ∷ y1 i ∷ S.entry j i ∷ []) ((v 0 :+ v 1 :* v 2) :* v 3) (v 0 :* v 3 :+ v 1 :* (v 2 :* v 3)) refl)
    ∙ (sum_add S.rows (λ i. y2 i *ℚ S.entry j i) (λ i. m *ℚ (y1 i *ℚ S.entry j i)) ∙ ap (λ x. sum_ℚ S.rows (λ i. y2 i *ℚ S.entry j i) +ℚ x) (scale_sum S.rows (λ i. y1 i *ℚ S.entry j i) m)))
    ∙ (ring (two j ∷ sum_ℚ S.rows (λ i. y2 i *ℚ S.entry j i) ∷ m ∷ sum_ℚ S.rows (λ i. y1 i *ℚ S.entry j i) ∷ []) (v 0 :- (v 1 :+ v 2 :* v 3)) ((v 0 :- v 1) :+ v 2 :* (nought :- v 3)) refl
    ∙ ap (λ x. (two j +ℚ neg_ℚ (sum_ℚ S.rows (λ i. y2 i *ℚ S.entry j i))) +ℚ m *ℚ (x +ℚ neg_ℚ (sum_ℚ S.rows (λ i. y1 i *ℚ S.entry j i)))) (sym z))

-- what the factor does to a pair of reduced costs
positive_side : (a b m : ℚ) → zero_ℚ <ℚ a → (m <ℚ neg_ℚ b *ℚ inv_ℚ a → ⊥) → b +ℚ m *ℚ a <ℚ zero_ℚ → ⊥
positive_side a b m p bound h =
    bound (below (neg_ℚ b *ℚ inv_ℚ a) m (subst (λ x. zero_ℚ <ℚ x) same (mul-positive (neg_ℚ (b +ℚ m *ℚ a)) (inv_ℚ a) (neg_positive (b +ℚ m *ℚ a) h) (inverse-positive a p))))
  where
    same : neg_ℚ (b +ℚ m *ℚ a) *ℚ inv_ℚ a ≡ neg_ℚ b *ℚ inv_ℚ a +ℚ neg_ℚ m
    same = ring (a ∷ b ∷ m ∷ inv_ℚ a ∷ []) (minus (v 1 :+ v 2 :* v 0) :* v 3) (minus (v 1) :* v 3 :- v 2 :* (v 0 :* v 3)) refl
        ∙ ap (λ x. neg_ℚ b *ℚ inv_ℚ a +ℚ neg_ℚ x) (ap (λ x. m *ℚ x) (mul-inverse a (λ e. not_zero a p e)) ∙ mul-one m)

    below : (x y : ℚ) → zero_ℚ <ℚ x +ℚ neg_ℚ y → y <ℚ x
    below x y q = subst (λ z. z <ℚ x) (add_comm zero_ℚ y ∙ add-zero y) (subst (λ z. zero_ℚ +ℚ y <ℚ z) (ring (x ∷ y ∷ []) ((v 0 :- v 1) :+ v 1) (v 0) refl) (add-less zero_ℚ (x +ℚ neg_ℚ y) y q))

negative_side : (a b m : ℚ) → a <ℚ zero_ℚ → (m <ℚ neg_ℚ b *ℚ inv_ℚ a → ⊥) → zero_ℚ <ℚ b +ℚ m *ℚ a → ⊥
negative_side a b m p bound h =
    bound (below (neg_ℚ b *ℚ inv_ℚ a) m (subst (λ x. zero_ℚ <ℚ x) same (mul-positive (b +ℚ m *ℚ a) (inv_ℚ (neg_ℚ a)) h (inverse-positive (neg_ℚ a) (neg_positive a p)))))
  where
    nz : a ≢ zero_ℚ
    nz e = less_irrefl zero_ℚ (subst (λ x. x <ℚ zero_ℚ) e p)

    nzn : neg_ℚ a ≢ zero_ℚ
    nzn e = not_zero (neg_ℚ a) (neg_positive a p) e

    turned : inv_ℚ (neg_ℚ a) ≡ neg_ℚ (inv_ℚ a)
    turned =
        ring (inv_ℚ (neg_ℚ a) ∷ []) (v 0) (v 0 :* unit) refl
        ∙ (ap (λ x. inv_ℚ (neg_ℚ a) *ℚ x) (sym (mul-inverse a nz))
        ∙ (ring (inv_ℚ (neg_ℚ a) ∷ a ∷ inv_ℚ a ∷ []) (v 0 :* (v 1 :* v 2)) ((minus (v 1) :* v 0) :* minus (v 2)) refl
        ∙ (ap (λ x. x *ℚ neg_ℚ (inv_ℚ a)) (mul-inverse (neg_ℚ a) nzn) ∙ ring (inv_ℚ a ∷ []) (unit :* minus (v 0)) (minus (v 0)) refl)))

    same : (b +ℚ m *ℚ a) *ℚ inv_ℚ (neg_ℚ a) ≡ neg_ℚ b *ℚ inv_ℚ a +ℚ neg_ℚ m
    same = ap (λ x. (b +ℚ m *ℚ a) *ℚ x) turned
        ∙ (ring (a ∷ b ∷ m ∷ inv_ℚ a ∷ []) ((v 1 :+ v 2 :* v 0) :* minus (v 3)) (minus (v 1) :* v 3 :- v 2 :* (v 0 :* v 3)) refl
        ∙ ap (λ x. neg_ℚ b *ℚ inv_ℚ a +ℚ neg_ℚ x) (ap (λ x. m *ℚ x) (mul-inverse a nz) ∙ mul-one m))

    below : (x y : ℚ) → zero_ℚ <ℚ x +ℚ neg_ℚ y → y <ℚ x
    below x y q = subst (λ z. z <ℚ x) (add_comm zero_ℚ y ∙ add-zero y) (subst (λ z. zero_ℚ +ℚ y <ℚ z) (ring (x ∷ y ∷ []) ((v 0 :- v 1) :+ v 1) (v 0) refl) (add-less zero_ℚ (x +ℚ neg_ℚ y) y q))

-- In a state that has ended optimal, no column that can enter has a wrong sign by the printed duals.
pub printed_signs : (S : Stage) (s : ℕ → Place) (x one two y1 y2 : ℕ → ℚ) (m : ℚ)
    → HasEndedOptimal S s x one two y1 y2 → IsFactor S s (reduced S one y1) (reduced S two y2) m
    → (j : ℕ) → IsEntrant S j → one j ≡ zero_ℚ → HasWrongSign (s j) (reduced S two (printed y1 y2 m) j) → ⊥
printed_signs S s x one two y1 y2 m ended factor j c z wrong =
    of (s j) refl (subst (λ d. HasWrongSign (s j) d) (reduced_printed S one two y1 y2 m j z) wrong)
  where
    d1 : ℚ
    d1 = reduced S one y1 j

    d2 : ℚ
    d2 = reduced S two y2 j

    none_one : (i : ℕ) → WantsOne S s one y1 i → ⊥
    none_one i w = ended.0 i (inl w)

    none_two : d1 ≡ zero_ℚ → HasWrongSign (s j) d2 → ⊥
    none_two e w = ended.0 j (inr (none_one, ended.1, (c, e, w)))

    alone : d1 ≡ zero_ℚ → d2 +ℚ m *ℚ d1 ≡ d2
    alone e = ap (λ y. d2 +ℚ y) (ap (λ y. m *ℚ y) e ∙ mul-zero m) ∙ add-zero d2

    of : (p : Place) → s j ≡ p → HasWrongSign (s j) (d2 +ℚ m *ℚ d1) → ⊥
    of Lower q w = at (less_cases d1 zero_ℚ)
      where
        at : (d1 <ℚ zero_ℚ) ⊎ ((d1 ≡ zero_ℚ) ⊎ (zero_ℚ <ℚ d1)) → ⊥
        at (inl h) = none_one j (c, subst (λ y. HasWrongSign y d1) (sym q) h)
        at (inr (inl e)) = none_two e (subst (λ y. HasWrongSign (s j) y) (alone e) w)
        at (inr (inr h)) = positive_side d1 d2 m h (factor.not_less j (c.within, c.priced, (λ b. absurd (clash b)), λ b. absurd (gone b)) (λ e. not_zero d1 h e)) (subst (λ y. HasWrongSign y (d2 +ℚ m *ℚ d1)) q w)
          where
            clash : s j ≡ Basic → ⊥
            clash b = (let e : Lower ≡ Basic = sym q ∙ b in cc)

            gone : s j ≡ Absent → ⊥
            gone b = (let e : Lower ≡ Absent = sym q ∙ b in cc)
    of Upper q w = at (less_cases d1 zero_ℚ)
      where
        at : (d1 <ℚ zero_ℚ) ⊎ ((d1 ≡ zero_ℚ) ⊎ (zero_ℚ <ℚ d1)) → ⊥
        at (inl h) = negative_side d1 d2 m h (factor.not_less j (c.within, c.priced, (λ b. absurd (clash b)), λ b. absurd (gone b)) (λ e. less_irrefl zero_ℚ (subst (λ y. y <ℚ zero_ℚ) e h))) (subst (λ y. HasWrongSign y (d2 +ℚ m *ℚ d1)) q w)
          where
            clash : s j ≡ Basic → ⊥
            clash b = (let e : Upper ≡ Basic = sym q ∙ b in cc)

            gone : s j ≡ Absent → ⊥
            gone b = (let e : Upper ≡ Absent = sym q ∙ b in cc)
        at (inr (inl e)) = none_two e (subst (λ y. HasWrongSign (s j) y) (alone e) w)
        at (inr (inr h)) = none_one j (c, subst (λ y. HasWrongSign y d1) (sym q) h)
    of Zero q w = at (less_cases d1 zero_ℚ)
      where
        at : (d1 <ℚ zero_ℚ) ⊎ ((d1 ≡ zero_ℚ) ⊎ (zero_ℚ <ℚ d1)) → ⊥
        at (inl h) = none_one j (c, subst (λ y. HasWrongSign y d1) (sym q) (λ e. less_irrefl zero_ℚ (subst (λ y. y <ℚ zero_ℚ) e h)))
        at (inr (inl e)) = none_two e (subst (λ y. HasWrongSign (s j) y) (alone e) w)
        at (inr (inr h)) = none_one j (c, subst (λ y. HasWrongSign y d1) (sym q) (λ e. not_zero d1 h e))
    of Absent q w = subst (λ y. HasWrongSign y (d2 +ℚ m *ℚ d1)) q w
    of Basic q w = subst (λ y. HasWrongSign y (d2 +ℚ m *ℚ d1)) q w

-- The rule picks one column.
pub picked_by_unique : (rule : Rule) (at : PricingState) (P : ℕ → Type 0) (size : ℕ → ℚ → Type 0) (j k : ℕ) → P j → P k → IsPickedBy rule at P size j → IsPickedBy rule at P size k → j ≡ k
picked_by_unique Bland at P size j k p q a b = let x = a k q in let y = b j p in omega arith
picked_by_unique First at P size j k p q (inl a) (inl b) = let x = a.1 k q b.0 in let y = b.1 j p a.0 in omega arith
picked_by_unique First at P size j k p q (inl a) (inr b) = let x = b.0 j p in absurd (let y = a.0 in omega arith)
picked_by_unique First at P size j k p q (inr a) (inl b) = let x = a.0 k q in absurd (let y = b.0 in omega arith)
picked_by_unique First at P size j k p q (inr a) (inr b) = let x = a.1 k q in let y = b.1 j p in omega arith
picked_by_unique Best at P size j k p q a b = of (a.2 k b.0 q b.1) (b.2 j a.0 p a.1)
  where
    of : (b.0 <ℚ a.0) ⊎ ((b.0 ≡ a.0) × (j ≤ k)) → (a.0 <ℚ b.0) ⊎ ((a.0 ≡ b.0) × (k ≤ j)) → j ≡ k
    of (inl x) (inl y) = absurd (less_irrefl a.0 (less_trans a.0 b.0 a.0 y x))
    of (inl x) (inr y) = absurd (less_irrefl b.0 (subst (λ z. b.0 <ℚ z) y.0 x))
    of (inr x) (inl y) = absurd (less_irrefl a.0 (subst (λ z. a.0 <ℚ z) x.0 y))
    of (inr x) (inr y) = let u = x.1 in let w = y.1 in omega arith
picked_by_unique (Queue most) at P size j k p q a b = front_once at P j k a b

pub picked_unique : (S : Stage) (s : ℕ → Place) (x one two y1 y2 : ℕ → ℚ) (rule : Rule) (at : PricingState) (j k : ℕ) → IsPicked S s x one two y1 y2 rule at j → IsPicked S s x one two y1 y2 rule at k → j ≡ k
picked_unique S s x one two y1 y2 rule at j k p q = picked_by_unique rule at _ _ j k p.eligible q.eligible p.by_rule q.by_rule
