-- Two columns of a matrix and two rows of its inverse change places.
use Rattle.std.proofs.Common.{◌≡◌, ◌≢◌, ℕ, ◌<◌, ◌⊎◌, inl, inr, [], ◌∷◌, refl, sym, ap, ap₂, ◌∙◌}
use Rattle.nf_num.specs.Rational.{ℚ, ◌+ℚ◌, ◌*ℚ◌, neg_ℚ}
use Rattle.nf_num.specs.Sum.{sum_ℚ, delta}
use Rattle.nf_simplex.proofs.Terms.{v, nought, unit, ◌:+◌, ◌:*◌, ◌:-◌, ring}
use Rattle.nf_simplex.proofs.Sum.{sum_ext, sum_add, sum_unit, unit_same, unit_other, equal_or_not}
use Rattle.nf_work.specs.Matrix.{Matrix, AreInverses}
use Rattle.nf_work.proofs.Inverses.{flip}

-- f with its numbers at x and y exchanged
pub record IsSwapped {A : Type 0} (x y : ℕ) (f g : ℕ → A) : Type 0 where
  pub first : g x ≡ f y
  pub second : g y ≡ f x
  pub others : (a : ℕ) → a ≢ x → a ≢ y → g a ≡ f a

by_difference : (x y : ℕ) (f g : ℕ → ℚ) → x ≢ y → IsSwapped x y f g → (a : ℕ) → g a ≡ f a +ℚ delta x a *ℚ (f y +ℚ neg_ℚ (f x)) +ℚ delta y a *ℚ (f x +ℚ neg_ℚ (f y))
by_difference x y f g d t a = of (equal_or_not a x) (equal_or_not a y)
  where
    of : (a ≡ x) ⊎ (a ≢ x) → (a ≡ y) ⊎ (a ≢ y) → g a ≡ f a +ℚ delta x a *ℚ (f y +ℚ neg_ℚ (f x)) +ℚ delta y a *ℚ (f x +ℚ neg_ℚ (f y))
    of (inl e) q =
        ap g e ∙ t.first
        ∙ sym (ap (λ z. f z +ℚ delta x z *ℚ (f y +ℚ neg_ℚ (f x)) +ℚ delta y z *ℚ (f x +ℚ neg_ℚ (f y))) e
        ∙ (ap₂ (λ p q. f x +ℚ p *ℚ (f y +ℚ neg_ℚ (f x)) +ℚ q *ℚ (f x +ℚ neg_ℚ (f y))) (unit_same x) (unit_other y x (λ z. d (sym z)))
        ∙ ring (f x ∷ f y ∷ []) ((v 0 :+ unit :* (v 1 :- v 0)) :+ nought :* (v 0 :- v 1)) (v 1) refl))
    of (inr n) (inl e) =
        ap g e ∙ t.second
        ∙ sym (ap (λ z. f z +ℚ delta x z *ℚ (f y +ℚ neg_ℚ (f x)) +ℚ delta y z *ℚ (f x +ℚ neg_ℚ (f y))) e
        ∙ (ap₂ (λ p q. f y +ℚ p *ℚ (f y +ℚ neg_ℚ (f x)) +ℚ q *ℚ (f x +ℚ neg_ℚ (f y))) (unit_other x y d) (unit_same y)
        ∙ ring (f x ∷ f y ∷ []) ((v 1 :+ nought :* (v 1 :- v 0)) :+ unit :* (v 0 :- v 1)) (v 0) refl))
    of (inr n) (inr m) =
        t.others a n m
        ∙ sym (ap₂ (λ p q. f a +ℚ p *ℚ (f y +ℚ neg_ℚ (f x)) +ℚ q *ℚ (f x +ℚ neg_ℚ (f y))) (unit_other x a (λ z. n (sym z))) (unit_other y a (λ z. m (sym z)))
        ∙ ring (f a ∷ f x ∷ f y ∷ []) ((v 0 :+ nought :* (v 2 :- v 1)) :+ nought :* (v 1 :- v 2)) (v 0) refl)

-- the sum stays
pub sum_swapped : (k x y : ℕ) (f g : ℕ → ℚ) → x < k → y < k → IsSwapped x y f g → sum_ℚ k g ≡ sum_ℚ k f
sum_swapped k x y f g h l t = of (equal_or_not x y)
  where
    same : x ≡ y → (a : ℕ) → (a ≡ x) ⊎ (a ≢ x) → g a ≡ f a
    same e a (inl q) = ap g q ∙ (t.first ∙ ap f (sym e ∙ sym q))
    same e a (inr n) = t.others a n (λ z. n (z ∙ sym e))

    of : (x ≡ y) ⊎ (x ≢ y) → sum_ℚ k g ≡ sum_ℚ k f
    of (inl e) = sum_ext k g f (λ a m. same e a (equal_or_not a x))
    of (inr d) =
        sum_ext k g (λ a. f a +ℚ delta x a *ℚ (f y +ℚ neg_ℚ (f x)) +ℚ delta y a *ℚ (f x +ℚ neg_ℚ (f y))) (λ a m. by_difference x y f g d t a)
        ∙ (sum_add k (λ a. f a +ℚ delta x a *ℚ (f y +ℚ neg_ℚ (f x))) (λ a. delta y a *ℚ (f x +ℚ neg_ℚ (f y)))
        ∙ (ap₂ (λ p q. p +ℚ q) (sum_add k f (λ a. delta x a *ℚ (f y +ℚ neg_ℚ (f x))) ∙ ap (λ z. sum_ℚ k f +ℚ z) (sum_unit k (λ a. f y +ℚ neg_ℚ (f x)) x h)) (sum_unit k (λ a. f x +ℚ neg_ℚ (f y)) y l)
        ∙ ring (sum_ℚ k f ∷ f x ∷ f y ∷ []) ((v 0 :+ (v 2 :- v 1)) :+ (v 1 :- v 2)) (v 0) refl))

-- Exchanging columns of Q and rows of M keeps them inverses.
pub inverses_swapped : (k x y : ℕ) (Q M Q' M' : Matrix) → x < k → y < k → AreInverses k Q M → ((r : ℕ) → IsSwapped x y (Q r) (Q' r)) → ((r : ℕ) → r < k → IsSwapped x y (λ a. M a r) (λ a. M' a r)) → AreInverses k Q' M'
inverses_swapped k x y Q M Q' M' h l inv t u = record {
  right = λ i r m n. sum_swapped k x y (λ a. M a r *ℚ Q i a) (λ a. M' a r *ℚ Q' i a) h l (products i r n) ∙ inv.right i r m n;
  left = λ b a m n. rows b a m n (equal_or_not b x) (equal_or_not b y);
}
  where
    products : (i r : ℕ) → r < k → IsSwapped x y (λ a. M a r *ℚ Q i a) (λ a. M' a r *ℚ Q' i a)
    products i r p = record {
      first = ap₂ (λ p q. p *ℚ q) (u r p).first (t i).first;
      second = ap₂ (λ p q. p *ℚ q) (u r p).second (t i).second;
      others = λ a n m. ap₂ (λ p q. p *ℚ q) ((u r p).others a n m) ((t i).others a n m);
    }

    row_of : (b b' a : ℕ) → ((r : ℕ) → r < k → M' b r ≡ M b' r) → sum_ℚ k (λ r. M' b r *ℚ Q' r a) ≡ sum_ℚ k (λ r. M b' r *ℚ Q' r a)
    row_of b b' a e = sum_ext k (λ r. M' b r *ℚ Q' r a) (λ r. M b' r *ℚ Q' r a) (λ r p. ap (λ z. z *ℚ Q' r a) (e r p))

    -- a row of M times a column of Q'
    cells : (b a : ℕ) → b < k → a < k → (a ≡ x) ⊎ (a ≢ x) → (a ≡ y) ⊎ (a ≢ y) → (a' : ℕ) × (a' < k) × (sum_ℚ k (λ r. M b r *ℚ Q' r a) ≡ delta b a') × (((a ≡ x) × (a' ≡ y)) ⊎ ((a ≡ y) × (a' ≡ x)) ⊎ ((a ≢ x) × (a ≢ y) × (a' ≡ a)))
    cells b a m n (inl e) q = (y, l, sum_ext k (λ r. M b r *ℚ Q' r a) (λ r. M b r *ℚ Q r y) (λ r p. ap (λ z. M b r *ℚ z) (ap (Q' r) e ∙ (t r).first)) ∙ inv.left b y m l, inl (e, refl))
    cells b a m n (inr d) (inl e) = (x, h, sum_ext k (λ r. M b r *ℚ Q' r a) (λ r. M b r *ℚ Q r x) (λ r p. ap (λ z. M b r *ℚ z) (ap (Q' r) e ∙ (t r).second)) ∙ inv.left b x m h, inr (inl (e, refl)))
    cells b a m n (inr d) (inr c) = (a, n, sum_ext k (λ r. M b r *ℚ Q' r a) (λ r. M b r *ℚ Q r a) (λ r p. ap (λ z. M b r *ℚ z) ((t r).others a d c)) ∙ inv.left b a m n, inr (inr (d, c, refl)))

    rows : (b a : ℕ) → b < k → a < k → (b ≡ x) ⊎ (b ≢ x) → (b ≡ y) ⊎ (b ≢ y) → sum_ℚ k (λ r. M' b r *ℚ Q' r a) ≡ delta b a
    rows b a m n (inl e) q =
        let c = cells y a l n (equal_or_not a x) (equal_or_not a y) in
        row_of b y a (λ r p. ap (λ z. M' z r) e ∙ (u r p).first) ∙ (c.2 ∙ (from_y c.0 c.3 ∙ ap (λ z. delta z a) (sym e)))
      where
        from_y : (a' : ℕ) → (((a ≡ x) × (a' ≡ y)) ⊎ ((a ≡ y) × (a' ≡ x)) ⊎ ((a ≢ x) × (a ≢ y) × (a' ≡ a))) → delta y a' ≡ delta x a
        from_y a' (inl s) = ap (delta y) s.1 ∙ (unit_same y ∙ sym (ap (delta x) s.0 ∙ unit_same x))
        from_y a' (inr (inl s)) = ap (delta y) s.1 ∙ (flip y x ∙ ap (delta x) (sym s.0))
        from_y a' (inr (inr s)) = ap (delta y) s.2 ∙ (unit_other y a (λ z. s.1 (sym z)) ∙ sym (unit_other x a (λ z. s.0 (sym z))))
    rows b a m n (inr d) (inl e) =
        let c = cells x a h n (equal_or_not a x) (equal_or_not a y) in
        row_of b x a (λ r p. ap (λ z. M' z r) e ∙ (u r p).second) ∙ (c.2 ∙ (from_x c.0 c.3 ∙ ap (λ z. delta z a) (sym e)))
      where
        from_x : (a' : ℕ) → (((a ≡ x) × (a' ≡ y)) ⊎ ((a ≡ y) × (a' ≡ x)) ⊎ ((a ≢ x) × (a ≢ y) × (a' ≡ a))) → delta x a' ≡ delta y a
        from_x a' (inl s) = ap (delta x) s.1 ∙ (flip x y ∙ ap (delta y) (sym s.0))
        from_x a' (inr (inl s)) = ap (delta x) s.1 ∙ (unit_same x ∙ sym (ap (delta y) s.0 ∙ unit_same y))
        from_x a' (inr (inr s)) = ap (delta x) s.2 ∙ (unit_other x a (λ z. s.0 (sym z)) ∙ sym (unit_other y a (λ z. s.1 (sym z))))
    rows b a m n (inr d) (inr g) =
        let c = cells b a m n (equal_or_not a x) (equal_or_not a y) in
        row_of b b a (λ r p. (u r p).others b d g) ∙ (c.2 ∙ other c.0 c.3)
      where
        other : (a' : ℕ) → (((a ≡ x) × (a' ≡ y)) ⊎ ((a ≡ y) × (a' ≡ x)) ⊎ ((a ≢ x) × (a ≢ y) × (a' ≡ a))) → delta b a' ≡ delta b a
        other a' (inl s) = ap (delta b) s.1 ∙ (unit_other b y g ∙ sym (ap (delta b) s.0 ∙ unit_other b x d))
        other a' (inr (inl s)) = ap (delta b) s.1 ∙ (unit_other b x d ∙ sym (ap (delta b) s.0 ∙ unit_other b y g))
        other a' (inr (inr s)) = ap (delta b) s.2
