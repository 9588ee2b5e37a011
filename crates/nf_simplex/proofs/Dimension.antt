-- A basis has inverse columns: as many independent columns as rows combine to every list.
use Rattle.std.proofs.Common.{◌≡◌, ◌≢◌, ℕ, zero, suc, ◌+◌, ◌<◌, ◌⊎◌, inl, inr, [], ◌∷◌, refl, sym, ap, ap₂, ◌∙◌, subst, arith}
use Rattle.nf_num.specs.Rational.{ℚ, zero_ℚ, one_ℚ, ◌+ℚ◌, ◌*ℚ◌, neg_ℚ, inv_ℚ, ◌<ℚ◌}
use Rattle.nf_num.specs.Sum.{sum_ℚ, delta}
use Rattle.nf_simplex.specs.Numbers.{IsBasis, AreWeights, IsInverseColumn}
use Rattle.nf_simplex.specs.Place.{Place, Basic, one_if_basic, count_basic}
use Rattle.nf_simplex.specs.Stage.{Stage}
use Rattle.nf_simplex.proofs.Basis.{basic_or_not, zero_unique}
use Rattle.nf_simplex.proofs.Count.{put_at, put_same, put_other, not_basic_none}
use Rattle.nf_simplex.proofs.Exchange.{divide_times}
use Rattle.nf_simplex.proofs.FieldLaws.{mul-one, mul-inverse, one-positive, less_irrefl, less_cases}
use Rattle.nf_simplex.proofs.Slots.{AreSlots, spread, spread_off, spread_at, weights_of_slots}
use Rattle.nf_simplex.proofs.Sum.{by_one, neg-zero, sum_ext, sum_zero, sum_add, sum_scale, sum_unit, unit_same, equal_or_not}
use Rattle.nf_simplex.proofs.Terms.{v, nought, minus, ◌:+◌, ◌:*◌, ◌:-◌, ring, zero-mul}

-- the numbers but q, in order
skip : ℕ → ℕ → ℕ
skip zero i = suc i
skip (suc q) zero = zero
skip (suc q) (suc i) = suc (skip q i)

skip-onto : (q i m : ℕ) → q < suc m → i < suc m → i ≢ q → (k : ℕ) × (k < m) × (skip q k ≡ i)
unfolding skip
skip-onto zero zero m l h ne = absurd (ne refl)
skip-onto zero (suc i) m l h ne = (i, omega arith, refl)
skip-onto (suc q) i zero l h ne = absurd (omega arith)
skip-onto (suc q) zero (suc m) l h ne = (0, omega arith, refl)
skip-onto (suc q) (suc i) (suc m) l h ne = let (k, a, b) = skip-onto q i m (omega arith) (omega arith) (λ e. ne (ap suc e)) in (suc k, omega arith, ap suc b)

-- The basic columns stand in as many slots as there are.
pub slots_of : (n : ℕ) (s : ℕ → Place) → (slot : ℕ → ℕ) × AreSlots (count_basic n s) n s slot
slots_of zero s = (λ k. k, record { within = λ k h. absurd (omega arith); basic = λ k h. absurd (omega arith); distinct = λ k i h m e. absurd (omega arith); onto = λ j h b. absurd (omega arith) })
slots_of (suc n) s = of (slots_of n s) (basic_or_not (s n))
  where
    of : (slot : ℕ → ℕ) × AreSlots (count_basic n s) n s slot → (s n ≡ Basic) ⊎ (s n ≢ Basic) → (slot : ℕ → ℕ) × AreSlots (count_basic n s + one_if_basic (s n)) (suc n) s slot
    of (slot, p) (inr nb) = (
      slot,
      subst (λ c. AreSlots c (suc n) s slot) count record {
        within = λ k h. (let w = p.within k h in omega arith);
        basic = p.basic;
        distinct = p.distinct;
        onto = λ j h b. p.onto j (below j h (λ e. nb (ap s (sym e) ∙ b))) b;
      },
    )
      where
        count : count_basic n s ≡ count_basic n s + one_if_basic (s n)
        count = let z = not_basic_none (s n) nb in omega arith

        below : (j : ℕ) → j < suc n → j ≢ n → j < n
        below j h e = omega arith
    of (slot, p) (inl b) = (
      more,
      subst (λ c. AreSlots c (suc n) s more) count record {
        within = λ k h. at_within k h (equal_or_not k m);
        basic = λ k h. at_basic k h (equal_or_not k m);
        distinct = λ k i h l e. at_distinct k i h l e (equal_or_not k m) (equal_or_not i m);
        onto = λ j h q. at_onto j h q (equal_or_not j n);
      },
    )
      where
        m : ℕ
        m = count_basic n s

        more : ℕ → ℕ
        more = put_at m n slot

        count : suc (count_basic n s) ≡ count_basic n s + one_if_basic (s n)
        count = let z : one_if_basic (s n) ≡ 1 = ap one_if_basic b in omega arith

        at : (k : ℕ) → k ≡ m → more k ≡ n
        at k e = ap more e ∙ put_same m n slot

        off : (k : ℕ) → k ≢ m → more k ≡ slot k
        off k e = put_other m n slot k e

        at_within : (k : ℕ) → k < suc m → (k ≡ m) ⊎ (k ≢ m) → more k < suc n
        at_within k h (inl e) = let a = at k e in omega arith
        at_within k h (inr e) = let a = off k e in let w = p.within k (omega arith) in omega arith

        at_basic : (k : ℕ) → k < suc m → (k ≡ m) ⊎ (k ≢ m) → s (more k) ≡ Basic
        at_basic k h (inl e) = ap s (at k e) ∙ b
        at_basic k h (inr e) = ap s (off k e) ∙ p.basic k (omega arith)

        at_distinct : (k i : ℕ) → k < suc m → i < suc m → more k ≡ more i → (k ≡ m) ⊎ (k ≢ m) → (i ≡ m) ⊎ (i ≢ m) → k ≡ i
        at_distinct k i h l e (inl x) (inl y) = x ∙ sym y
        at_distinct k i h l e (inl x) (inr y) = let a = at k x in let c = off i y in let w = p.within i (omega arith) in absurd (omega arith)
        at_distinct k i h l e (inr x) (inl y) = let a = at i y in let c = off k x in let w = p.within k (omega arith) in absurd (omega arith)
        at_distinct k i h l e (inr x) (inr y) = p.distinct k i (omega arith) (omega arith) (sym (off k x) ∙ (e ∙ off i y))

        at_onto : (j : ℕ) → j < suc n → s j ≡ Basic → (j ≡ n) ⊎ (j ≢ n) → (k : ℕ) × (k < suc m) × (more k ≡ j)
        at_onto j h q (inl e) = (m, omega arith, put_same m n slot ∙ sym e)
        at_onto j h q (inr e) =
            let (k, w, f) = p.onto j (omega arith) q in
            (k, omega arith, off k (omega arith) ∙ f)

zero_or_not : (a : ℚ) → (a ≡ zero_ℚ) ⊎ (a ≢ zero_ℚ)
zero_or_not a = of (less_cases a zero_ℚ)
  where
    of : ◌<ℚ◌ a zero_ℚ ⊎ ((a ≡ zero_ℚ) ⊎ ◌<ℚ◌ zero_ℚ a) → (a ≡ zero_ℚ) ⊎ (a ≢ zero_ℚ)
    of (inl h) = inr (λ e. less_irrefl zero_ℚ (subst (λ x. ◌<ℚ◌ x zero_ℚ) e h))
    of (inr (inl h)) = inl h
    of (inr (inr h)) = inr (λ e. less_irrefl zero_ℚ (subst (λ x. ◌<ℚ◌ zero_ℚ x) e h))

all_zero_or_not : (n : ℕ) (f : ℕ → ℚ) → ((i : ℕ) → i < n → f i ≡ zero_ℚ) ⊎ ((i : ℕ) × (i < n) × (f i ≢ zero_ℚ))
all_zero_or_not zero f = inl (λ i h. absurd (omega arith))
all_zero_or_not (suc n) f = of (all_zero_or_not n f) (zero_or_not (f n))
  where
    last : (i : ℕ) → i < suc n → (i < n) ⊎ (i ≡ n)
    last i h = grind arith

    of : ((i : ℕ) → i < n → f i ≡ zero_ℚ) ⊎ ((i : ℕ) × (i < n) × (f i ≢ zero_ℚ)) → (f n ≡ zero_ℚ) ⊎ (f n ≢ zero_ℚ) → ((i : ℕ) → i < suc n → f i ≡ zero_ℚ) ⊎ ((i : ℕ) × (i < suc n) × (f i ≢ zero_ℚ))
    of (inr (i, h, nz)) e = inr (i, omega arith, nz)
    of (inl z) (inr nz) = inr (n, omega arith, nz)
    of (inl z) (inl e) = inl (λ i h. at i (last i h))
      where
        at : (i : ℕ) → (i < n) ⊎ (i ≡ n) → f i ≡ zero_ℚ
        at i (inl h) = z i h
        at i (inr q) = ap f q ∙ e

-- m + 1 lists of m numbers have a combination that is zero.
pub record IsDependent (m n : ℕ) (f : ℕ → ℕ → ℚ) : Type 0 where
  pub weights : ℕ → ℚ
  pub which : ℕ
  pub there : which < n
  pub not_zero : weights which ≢ zero_ℚ
  pub null : (i : ℕ) → i < m → sum_ℚ n (λ k. weights k *ℚ f k i) ≡ zero_ℚ

pub too_many : (m : ℕ) (f : ℕ → ℕ → ℚ) → IsDependent m (suc m) f
unfolding sum_ℚ
too_many zero f = record { weights = λ k. one_ℚ; which = 0; there = omega arith; not_zero = λ e. less_irrefl zero_ℚ (subst (λ x. ◌<ℚ◌ zero_ℚ x) e one-positive); null = λ i h. absurd (omega arith) }
too_many (suc m) f = of (all_zero_or_not (suc m) (f (suc m))) (too_many m)
  where
    n : ℕ
    n = suc m

    of : ((i : ℕ) → i < n → f n i ≡ zero_ℚ) ⊎ ((i : ℕ) × (i < n) × (f n i ≢ zero_ℚ)) → ((g : ℕ → ℕ → ℚ) → IsDependent m n g) → IsDependent n (suc n) f
    of (inl z) less = record {
      weights = delta n;
      which = n;
      there = omega arith;
      not_zero = λ e. less_irrefl zero_ℚ (subst (λ x. ◌<ℚ◌ zero_ℚ x) (sym (unit_same n) ∙ e) one-positive);
      null = λ i h. sum_unit (suc n) (λ k. f k i) n (omega arith) ∙ z i h;
    }
    of (inr (q, h, nz)) less = record {
      weights = whole;
      which = r.which;
      there = (let t = r.there in omega arith);
      not_zero = λ e. r.not_zero (sym (keeps r.which r.there) ∙ e);
      null = λ i l. ap₂ (λ x y. x +ℚ y *ℚ f n i) (sum_ext n (λ k. whole k *ℚ f k i) (λ k. r.weights k *ℚ f k i) (λ k l. ap (λ x. x *ℚ f k i) (keeps k l))) (put_same n (neg_ℚ (sum_ℚ n (λ k. r.weights k *ℚ c k))) r.weights) ∙ joins i l;
    }
      where
        c : ℕ → ℚ
        c k = f k q *ℚ inv_ℚ (f n q)

        g : ℕ → ℕ → ℚ
        g k i = f k (skip q i) +ℚ neg_ℚ (c k *ℚ f n (skip q i))

        r : IsDependent m n g
        r = less g

        whole : ℕ → ℚ
        whole = put_at n (neg_ℚ (sum_ℚ n (λ k. r.weights k *ℚ c k))) r.weights

        keeps : (k : ℕ) → k < n → whole k ≡ r.weights k
        keeps k l = put_other n (neg_ℚ (sum_ℚ n (λ k. r.weights k *ℚ c k))) r.weights k (omega arith)

        gone : (i : ℕ) → i < n → (i ≡ q) ⊎ (i ≢ q) → sum_ℚ n (λ k. r.weights k *ℚ (f k i +ℚ neg_ℚ (c k *ℚ f n i))) ≡ zero_ℚ
        gone i l (inl e) =
            sum_zero n (λ k. r.weights k *ℚ (f k i +ℚ neg_ℚ (c k *ℚ f n i)))
            (λ k z. ap (λ y. r.weights k *ℚ (f k y +ℚ neg_ℚ (c k *ℚ f n y))) e ∙ (ap (λ y. r.weights k *ℚ (f k q +ℚ neg_ℚ y)) (divide_times (f k q) (f n q) nz) ∙ ring (r.weights k ∷ f k q ∷ []) (v 0 :* (v 1 :- v 1)) nought refl))
        gone i l (inr ne) =
            let (p, z, e) = skip-onto q i m h l ne in
            subst (λ y. sum_ℚ n (λ k. r.weights k *ℚ (f k y +ℚ neg_ℚ (c k *ℚ f n y))) ≡ zero_ℚ) e (r.null p z)

        joins : (i : ℕ) → i < n → sum_ℚ n (λ k. r.weights k *ℚ f k i) +ℚ neg_ℚ (sum_ℚ n (λ k. r.weights k *ℚ c k)) *ℚ f n i ≡ zero_ℚ
        joins i l =
            ring (sum_ℚ n (λ k. r.weights k *ℚ f k i) ∷ sum_ℚ n (λ k. r.weights k *ℚ c k) ∷ f n i ∷ []) (v 0 :+ minus (v 1) :* v 2) (v 0 :+ v 1 :* minus (v 2)) refl
            ∙ (ap (λ y. sum_ℚ n (λ k. r.weights k *ℚ f k i) +ℚ y) (sym (sum_scale n (λ k. r.weights k *ℚ c k) (neg_ℚ (f n i))))
            ∙ (sym (sum_add n (λ k. r.weights k *ℚ f k i) (λ k. (r.weights k *ℚ c k) *ℚ neg_ℚ (f n i)))
            ∙ (sum_ext n (λ k. r.weights k *ℚ f k i +ℚ (r.weights k *ℚ c k) *ℚ neg_ℚ (f n i)) (λ k. r.weights k *ℚ (f k i +ℚ neg_ℚ (c k *ℚ f n i)))
            (λ k z. ring (r.weights k ∷ f k i ∷ c k ∷ f n i ∷ []) (v 0 :* v 1 :+ (v 0 :* v 2) :* minus (v 3)) (v 0 :* (v 1 :- v 2 :* v 3)) refl)
            ∙ gone i l (equal_or_not i q))))

module _ (S : Stage) (s : ℕ → Place) (b : IsBasis S s) where
  pub weights_of_basis : (a : ℕ → ℚ) → (w : ℕ → ℚ) × AreWeights S s a w
  unfolding sum_ℚ
  weights_of_basis a = (
    λ j. neg_ℚ (spread m slot r.weights j) *ℚ inv_ℚ (r.weights m),
    record {
      of_basics = λ j h nb. ap (λ x. neg_ℚ x *ℚ inv_ℚ (r.weights m)) (spread_off m S.columns s slot p r.weights j nb) ∙ (ap (λ x. x *ℚ inv_ℚ (r.weights m)) (neg-zero) ∙ zero-mul _);
      gives = λ i h.
          sum_ext S.columns (λ j. (neg_ℚ (spread m slot r.weights j) *ℚ inv_ℚ (r.weights m)) *ℚ S.entry j i) (λ j. (spread m slot r.weights j *ℚ S.entry j i) *ℚ neg_ℚ (inv_ℚ (r.weights m)))
          (λ j l. ring (spread m slot r.weights j ∷ inv_ℚ (r.weights m) ∷ S.entry j i ∷ []) ((minus (v 0) :* v 1) :* v 2) ((v 0 :* v 2) :* minus (v 1)) refl)
          ∙ (sum_scale S.columns (λ j. spread m slot r.weights j *ℚ S.entry j i) (neg_ℚ (inv_ℚ (r.weights m)))
          ∙ (ap (λ x. x *ℚ neg_ℚ (inv_ℚ (r.weights m))) ((weights_of_slots S s slot p (λ i. neg_ℚ (r.weights m *ℚ a i)) r.weights record { gives = part }).gives i h)
          ∙ (ring (r.weights m ∷ a i ∷ inv_ℚ (r.weights m) ∷ []) (minus (v 0 :* v 1) :* minus (v 2)) (v 1 :* (v 0 :* v 2)) refl
          ∙ (ap (λ x. a i *ℚ x) (mul-inverse (r.weights m) last_not_zero) ∙ mul-one (a i)))));
    },
  )
    where
      m : ℕ
      m = S.rows

      slot : ℕ → ℕ
      slot = (slots_of S.columns s).0

      p : AreSlots m S.columns s slot
      p = subst (λ c. AreSlots c S.columns s slot) b.as_many (slots_of S.columns s).1

      f : ℕ → ℕ → ℚ
      f = put_at m a (λ k. S.entry (slot k))

      r : IsDependent m (suc m) f
      r = too_many m f

      part : (i : ℕ) → i < m → sum_ℚ m (λ k. r.weights k *ℚ S.entry (slot k) i) ≡ neg_ℚ (r.weights m *ℚ a i)
      part i h =
          by_one _ _ (sum_ℚ m (λ k. r.weights k *ℚ f k i) +ℚ r.weights m *ℚ f m i) zero_ℚ (r.null i h)
          (ap (λ x. x +ℚ zero_ℚ) (sum_ext m (λ k. r.weights k *ℚ S.entry (slot k) i) (λ k. r.weights k *ℚ f k i) (λ k l. ap (λ y. r.weights k *ℚ y i) (sym (put_other m a (λ k. S.entry (slot k)) k (omega arith)))))
          ∙ (ring (sum_ℚ m (λ k. r.weights k *ℚ f k i) ∷ r.weights m *ℚ a i ∷ []) (v 0 :+ nought) (minus (v 1) :+ (v 0 :+ v 1)) refl
          ∙ ap (λ y. neg_ℚ (r.weights m *ℚ a i) +ℚ (sum_ℚ m (λ k. r.weights k *ℚ f k i) +ℚ r.weights m *ℚ y i)) (sym (put_same m a (λ k. S.entry (slot k))))))

      last_not_zero : r.weights m ≢ zero_ℚ
      last_not_zero z = r.not_zero (at (last r.which r.there))
        where
          last : (k : ℕ) → k < suc m → (k < m) ⊎ (k ≡ m)
          last k h = grind arith

          none : (k : ℕ) → k < m → r.weights k ≡ zero_ℚ
          none k h =
              sym (spread_at m S.columns s slot p r.weights k h)
              ∙ zero_unique S s b.independent (spread m slot r.weights)
              (weights_of_slots S s slot p (λ i. zero_ℚ) r.weights record { gives = λ i l. part i l ∙ (ap (λ x. neg_ℚ (x *ℚ a i)) z ∙ ring (a i ∷ []) (minus (nought :* v 0)) nought refl) })
              (slot k) (p.within k h)

          at : (r.which < m) ⊎ (r.which ≡ m) → r.weights r.which ≡ zero_ℚ
          at (inl h) = none r.which h
          at (inr e) = ap r.weights e ∙ z

  pub inverse_of_basis : (W : ℕ → ℕ → ℚ) × ((r : ℕ) → r < S.rows → IsInverseColumn S s r (W r))
  inverse_of_basis = (λ r. (weights_of_basis (delta r)).0, λ r h. (weights_of_basis (delta r)).1)
