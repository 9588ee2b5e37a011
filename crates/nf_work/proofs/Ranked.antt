-- The columns that are brought in one after the other: the identity to begin with, one more, the first dependent one, and all.
use Rattle.std.proofs.Common.{◌≡◌, ◌≢◌, ℕ, ◌+◌, ◌-◌, ◌<◌, ◌≤◌, List, length, refl, sym, ap, ◌∙◌, subst, Bool, true, false, eq-eqb, ne_eqb, lt-ltb, le-ltb, ◌⊎◌, inl, inr, arith}
use Rattle.std.specs.Prelude.{nat_eq, nat_lt, if◌then◌else◌}
use Rattle.nf_num.specs.Rational.{ℚ, zero_ℚ, one_ℚ, ◌+ℚ◌, ◌*ℚ◌}
use Rattle.nf_num.specs.Sum.{sum_ℚ, delta}
use Rattle.nf_num.proofs.Sums.{sum-split}
use Rattle.nf_simplex.proofs.FieldLaws.{mul_comm, add-zero}
use Rattle.nf_simplex.proofs.Terms.{zero-mul}
use Rattle.nf_simplex.proofs.Sum.{sum_ext, sum_zero, sum_unit, unit_same, unit_other, equal_or_not}
use Rattle.nf_sums.proofs.Chosen.{kept, dropped}
use Rattle.nf_inverse.specs.Weights.{IsDiagonal, weight}
use Rattle.nf_inverse.specs.Exchanged.{IsExchanged}
use Rattle.nf_work.specs.Matrix.{Matrix, AreInverses, IsColumnReplaced}
use Rattle.nf_work.specs.Causes.{numbers, entries}
use Rattle.nf_work.specs.Changed.{IsInverseOf}
use Rattle.nf_work.specs.Swapped.{AreSwapped}
use Rattle.nf_work.specs.Taken.{HasTaken, IsSpanned, IsIndependentBelow, column_at}
use Rattle.nf_work.specs.Rank.{IsFirstDependent}
use Rattle.nf_work.proofs.Inverses.{flip, regular_of_inverse}
use Rattle.nf_work.proofs.Solved.{combines}
use Rattle.nf_work.proofs.Replaced.{replaced}
use Rattle.nf_work.proofs.Swapped.{IsSwapped, inverses_swapped}

unit_weight : (s i : ℕ) → (if nat_eq s i then one_ℚ else zero_ℚ) ≡ delta s i
unit_weight s i = of (equal_or_not s i)
  where
    of : (s ≡ i) ⊎ (s ≢ i) → (if nat_eq s i then one_ℚ else zero_ℚ) ≡ delta s i
    of (inl e) = kept (nat_eq s i) one_ℚ (eq-eqb s i e) ∙ sym (ap (delta s) (sym e) ∙ unit_same s)
    of (inr n) = dropped (nat_eq s i) one_ℚ (ne_eqb s i n) ∙ sym (unit_other s i n)

pub identity : (k : ℕ) (w : List (List ℚ)) → IsDiagonal k (λ _. false) w → IsInverseOf delta w
identity k w d = subst (λ n. AreInverses n delta (weight w)) (sym d.size) record {
  right = λ i r h l. sum_ext k (λ a. weight w a r *ℚ delta i a) (λ a. delta i a *ℚ delta a r) (λ a m. ap (λ x. x *ℚ delta i a) (d.weights a r m l ∙ unit_weight a r) ∙ mul_comm (delta a r) (delta i a)) ∙ (sum_unit k (λ a. delta a r) i h ∙ flip i r);
  left = λ b a h l. sum_ext k (λ r. weight w b r *ℚ delta r a) (λ r. delta b r *ℚ delta r a) (λ r m. ap (λ x. x *ℚ delta r a) (d.weights b r h m ∙ unit_weight b r)) ∙ sum_unit k (λ r. delta r a) b h;
}

pub taken_none : (k : ℕ) (xs : ℕ → ℚ) (w : List (List ℚ)) → length w ≡ k → IsInverseOf delta w → HasTaken k xs 0 w
taken_none k xs w e inv = record { matrix = delta; size = e; mixed = record { taken = λ r a h l. absurd (omega arith); unit = λ a h l. (a, h, λ r m. flip r a) }; inverse = inv }

-- ---- one number or another
then_is : (b : Bool) (u v : ℚ) → b ≡ true → (if b then u else v) ≡ u
then_is true u v e = refl
then_is false u v e = cc

else_is : (b : Bool) (u v : ℚ) → b ≡ false → (if b then u else v) ≡ v
else_is true u v e = cc
else_is false u v e = refl

-- f with the number u at p
put_at : (p : ℕ) (u : ℚ) (f : ℕ → ℚ) → ℕ → ℚ
put_at p u f a = if nat_eq a p then u else f a

put_here : (p : ℕ) (u : ℚ) (f : ℕ → ℚ) → put_at p u f p ≡ u
unfolding put_at
put_here p u f = then_is (nat_eq p p) u (f p) (eq-eqb p p refl)

put_other : (p : ℕ) (u : ℚ) (f : ℕ → ℚ) (a : ℕ) → a ≢ p → put_at p u f a ≡ f a
unfolding put_at
put_other p u f a n = else_is (nat_eq a p) u (f a) (ne_eqb a p n)

-- f with the numbers at x and y exchanged
swap_at : (x y : ℕ) (f : ℕ → ℚ) → ℕ → ℚ
swap_at x y f = put_at x (f y) (put_at y (f x) f)

swapped_at : (x y : ℕ) (f : ℕ → ℚ) → IsSwapped x y f (swap_at x y f)
unfolding swap_at
swapped_at x y f = record {
  first = put_here x (f y) (put_at y (f x) f);
  second = of (equal_or_not y x);
  others = λ a n m. put_other x (f y) (put_at y (f x) f) a n ∙ put_other y (f x) f a m;
}
  where
    of : (y ≡ x) ⊎ (y ≢ x) → put_at x (f y) (put_at y (f x) f) y ≡ f x
    of (inl e) = ap (put_at x (f y) (put_at y (f x) f)) e ∙ (put_here x (f y) (put_at y (f x) f) ∙ ap f e)
    of (inr n) = put_other x (f y) (put_at y (f x) f) y n ∙ put_here y (f x) f

-- ---- one more column
module _ (xs : ℕ → ℚ) (n : ℕ) (old mid new : List (List ℚ)) (c e : ℕ → ℚ) (place : ℕ) (h : HasTaken (length old) xs n old) (there : place < length old) (from : n ≤ place) (own : (r : ℕ) → r < length old → c r ≡ column_at (length old) xs n r)
    (is : (a : ℕ) → a < length old → e a ≡ entries old c a) (nz : e place ≢ zero_ℚ) (size : length mid ≡ length old) (changed : IsExchanged old mid e place) (long : length new ≡ length mid) (swapped : AreSwapped mid new n place) where
  Q1 : Matrix
  Q1 r = put_at place (c r) (h.matrix r)

  Q2 : Matrix
  Q2 r = swap_at n place (Q1 r)

  is_replaced : IsColumnReplaced (length old) h.matrix place c Q1
  unfolding Q1
  is_replaced = record { there = there; new = λ r m. put_here place (c r) (h.matrix r); others = λ r a m l d. put_other place (c r) (h.matrix r) a d }

  inverse_mid : IsInverseOf Q1 mid
  inverse_mid = replaced old mid place c e there size is nz changed h.matrix Q1 h.inverse is_replaced

  weights_swapped : (r : ℕ) → r < length mid → IsSwapped n place (λ a. weight mid a r) (λ a. weight new a r)
  weights_swapped r h = record { first = swapped.first r h; second = swapped.second r h; others = λ a d m. swapped.others a r d m }

  columns_swapped : (r : ℕ) → IsSwapped n place (Q1 r) (Q2 r)
  unfolding Q2
  columns_swapped r = swapped_at n place (Q1 r)

  inverse_new : IsInverseOf Q2 new
  inverse_new = subst (λ k. AreInverses k Q2 (weight new)) (sym long) (inverses_swapped (length mid) n place Q1 (weight mid) Q2 (weight new) (omega (arith, size, there, from)) (subst (λ k. place < k) (sym size) there) inverse_mid columns_swapped weights_swapped)

  in_place : (r : ℕ) → Q1 r place ≡ c r
  unfolding Q1
  in_place r = put_here place (c r) (h.matrix r)

  elsewhere : (r a : ℕ) → a ≢ place → Q1 r a ≡ h.matrix r a
  unfolding Q1
  elsewhere r a d = put_other place (c r) (h.matrix r) a d

  taken : (r a : ℕ) → r < length old → a < n + 1 → Q2 r a ≡ column_at (length old) xs a r
  taken r a m l = of (equal_or_not a n)
    where
      of : (a ≡ n) ⊎ (a ≢ n) → Q2 r a ≡ column_at (length old) xs a r
      of (inl q) = ap (Q2 r) q ∙ ((columns_swapped r).first ∙ (in_place r ∙ (own r m ∙ ap (λ z. column_at (length old) xs z r) (sym q))))
      of (inr d) = let b : a < n = omega arith in let o : a ≢ place = λ z. absurd (omega (arith, z, b, from)) in (columns_swapped r).others a d o ∙ (elsewhere r a o ∙ h.mixed.taken r a m b)

  unit : (a : ℕ) → a < length old → n + 1 ≤ a → (p : ℕ) × (p < length old) × ((r : ℕ) → r < length old → Q2 r a ≡ delta p r)
  unit a m l = of (equal_or_not a place)
    where
      past : a ≢ n
      past z = absurd (omega (arith, z, l))

      of : (a ≡ place) ⊎ (a ≢ place) → (p : ℕ) × (p < length old) × ((r : ℕ) → r < length old → Q2 r a ≡ delta p r)
      of (inl q) =
          let o : n ≢ place = λ z. past (q ∙ sym z) in
          let u = h.mixed.unit n (omega (arith, from, there)) (omega arith) in
          (u.0, u.1, λ r b. ap (Q2 r) q ∙ ((columns_swapped r).second ∙ (elsewhere r n o ∙ u.2 r b)))
      of (inr d) =
          let u = h.mixed.unit a m (omega (arith, l)) in
          (u.0, u.1, λ r b. (columns_swapped r).others a past d ∙ (elsewhere r a d ∙ u.2 r b))

  pub taken_more : HasTaken (length old) xs (n + 1) new
  taken_more = record { matrix = Q2; size = long ∙ size; mixed = record { taken = taken; unit = unit }; inverse = inverse_new }

-- ---- the first dependent one
-- a sum whose members from n on are 0
sum_first : (n k : ℕ) (f : ℕ → ℚ) → n ≤ k → ((a : ℕ) → a < k → n ≤ a → f a ≡ zero_ℚ) → sum_ℚ k f ≡ sum_ℚ n f
sum_first n k f h z =
    ap (λ (m : ℕ). sum_ℚ m f) (let e : k ≡ n + (k - n) = omega (arith, h) in e)
    ∙ (sum-split n (k - n) f ∙ (ap (λ x. sum_ℚ n f +ℚ x) (sum_zero (k - n) (λ i. f (n + i)) (λ i l. z (n + i) (omega (arith, h, l)) (omega arith))) ∙ add-zero (sum_ℚ n f)))

module _ (k : ℕ) (xs : ℕ → ℚ) (n : ℕ) (w : List (List ℚ)) (h : HasTaken k xs n w) (below : n < k) where
  inverse : AreInverses k h.matrix (weight w)
  inverse = subst (λ m. AreInverses m h.matrix (weight w)) h.size h.inverse

  -- a combination of the columns that are taken
  of_taken : (z : ℕ → ℚ) → ((a : ℕ) → a < k → n ≤ a → z a ≡ zero_ℚ) → (r : ℕ) → r < k → sum_ℚ k (λ a. z a *ℚ h.matrix r a) ≡ sum_ℚ n (λ a. z a *ℚ column_at k xs a r)
  of_taken z none r m =
      sum_first n k (λ a. z a *ℚ h.matrix r a) (omega (arith, below)) (λ a l b. ap (λ x. x *ℚ h.matrix r a) (none a l b) ∙ zero-mul (h.matrix r a))
      ∙ sum_ext n (λ a. z a *ℚ h.matrix r a) (λ a. z a *ℚ column_at k xs a r) (λ a l. ap (λ x. z a *ℚ x) (h.mixed.taken r a m l))

  pub independent : IsIndependentBelow k xs n
  independent z zero a l = sym (below_is a l) ∙ regular_of_inverse k h.matrix (weight w) inverse z' (λ r m. of_taken z' past r m ∙ (sum_ext n (λ b. z' b *ℚ column_at k xs b r) (λ b. z b *ℚ column_at k xs b r) (λ b p. ap (λ x. x *ℚ column_at k xs b r) (below_is b p)) ∙ zero r m)) a (omega (arith, below, l))
    where
      z' : ℕ → ℚ
      z' b = if nat_lt b n then z b else zero_ℚ

      below_is : (b : ℕ) → b < n → z' b ≡ z b
      below_is b p = then_is (nat_lt b n) (z b) zero_ℚ (lt-ltb b n p)

      past : (b : ℕ) → b < k → n ≤ b → z' b ≡ zero_ℚ
      past b p q = else_is (nat_lt b n) (z b) zero_ℚ (le-ltb b n q)

  pub first_dependent : (c e : ℕ → ℚ) (ws : List ℚ) → ((r : ℕ) → r < k → c r ≡ column_at k xs n r) → IsSpanned k c n w e → length ws ≡ n → ((a : ℕ) → a < n → numbers ws a ≡ e a) → IsFirstDependent k xs n ws
  first_dependent c e ws own s len same = record {
    there = below;
    as_many = len;
    first = independent;
    combined = λ r m.
        sum_ext n (λ a. numbers ws a *ℚ column_at k xs a r) (λ a. e a *ℚ column_at k xs a r) (λ a l. ap (λ x. x *ℚ column_at k xs a r) (same a l))
        ∙ (sym (of_taken e s.none r m) ∙ (solves r m ∙ own r m));
  }
    where
      solves : (r : ℕ) → r < k → sum_ℚ k (λ a. e a *ℚ h.matrix r a) ≡ c r
      solves = subst (λ m. (r : ℕ) → r < m → sum_ℚ m (λ a. e a *ℚ h.matrix r a) ≡ c r) h.size (combines w h.matrix c e h.inverse (λ a l. s.is_entries a (subst (λ m. a < m) h.size l)))

-- ---- all
pub taken_all : (k : ℕ) (xs : ℕ → ℚ) (w : List (List ℚ)) → HasTaken k xs k w → (length w ≡ k) × IsInverseOf (λ r a. column_at k xs a r) w
taken_all k xs w h = (
  h.size,
  record {
    right = λ i r m l. sum_ext (length w) (λ a. weight w a r *ℚ column_at k xs a i) (λ a. weight w a r *ℚ h.matrix i a) (λ a b. ap (λ x. weight w a r *ℚ x) (sym (h.mixed.taken i a (in_k i m) (in_k a b)))) ∙ h.inverse.right i r m l;
    left = λ b a m l. sum_ext (length w) (λ r. weight w b r *ℚ column_at k xs a r) (λ r. weight w b r *ℚ h.matrix r a) (λ r p. ap (λ x. weight w b r *ℚ x) (sym (h.mixed.taken r a (in_k r p) (in_k a l)))) ∙ h.inverse.left b a m l;
  },
)
  where
    in_k : (i : ℕ) → i < length w → i < k
    in_k i m = subst (λ j. i < j) h.size m
