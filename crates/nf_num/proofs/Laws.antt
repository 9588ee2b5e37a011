-- The laws of the rational numbers as an ordered field. Each is carried over from ℤ, by fractions of any common form.
use Rattle.std.proofs.Common.{nat_abs, ◌≤ℤ◌, ◌<ℤ◌, ◌≡◌, ℕ, zero, suc, ◌*◌, ◌<◌, refl, sym, ◌∙◌, ap, ap₂, subst, subst₂, arith, ◌⊎◌, inl, inr, ℤ, pos, negsuc, ◌+ℤ◌, ◌*ℤ◌, neg_ℤ, ◌≤ℤ◌, mul-pos, [], ◌∷◌, zero-lt-suc, ◌↔◌}
use borrow.Author.Differences.{ints, product_is}
use lib.Signed.{≤ℤ_refl}
use Rattle.std.proofs.lemmas.Int.{by_lt_z}
use lib.IntN.{ℤ_discrete}
use native.Mathlib.Decide.{ℕ_discrete}
use mathlib.Core.HLevel.{Discrete, hedberg}
use Rattle.nf_num.specs.Rational.{ℚ, numer, denom, frac, of_ℤ, zero_ℚ, one_ℚ, ◌+ℚ◌, ◌*ℚ◌, neg_ℚ, inv_ℚ, inv_ℚ-is, same_parts, le_cross, lt_cross, ◌≤ℚ◌, ◌<ℚ◌}
use Rattle.nf_num.proofs.IntRing.{ring_ℤ, z_codes, cancel_pos, ≤ℤ-mul, ≤ℤ_cancel, ≤ℤ_trans, ≤ℤ_mul_nonneg}
use Rattle.nf_num.proofs.Parts.{denom_pos, frac_cross, same_cross, frac-numer-denom, by_frac}

-- ---- fractions

pub frac_same : (a c : ℤ) (b d : ℕ) → 0 < b → 0 < d → a *ℤ pos d ≡ c *ℤ pos b → frac a b ≡ frac c d
frac_same a c b d hb hd e =
    let x : ℚ = frac a b in
    let y : ℚ = frac c d in
    same_cross x y (cancel_pos (numer x *ℤ pos (denom y)) (numer y *ℤ pos (denom x)) (b * d) (mul-pos hb hd)
    (one (numer x) (denom y) ∙ ap (λ z. z *ℤ (pos d *ℤ pos (denom y))) (frac_cross a b hb) ∙ two (denom x) (denom y) ∙ ap (λ z. z *ℤ (pos (denom x) *ℤ pos (denom y))) e ∙ three (denom x) (denom y) ∙ ap (λ z. z *ℤ (pos b *ℤ pos (denom x))) (sym (frac_cross c d hd)) ∙ four (numer y) (denom x)))
  where
    one : (m : ℤ) (v : ℕ) → m *ℤ pos v *ℤ pos (b * d) ≡ (m *ℤ pos b) *ℤ (pos d *ℤ pos v)
    one m v = ring_ℤ (m ∷ pos v ∷ pos b ∷ pos d ∷ []) (search z_codes depth 8 fits 4000) refl

    two : (u v : ℕ) → (a *ℤ pos u) *ℤ (pos d *ℤ pos v) ≡ (a *ℤ pos d) *ℤ (pos u *ℤ pos v)
    two u v = ring_ℤ (a ∷ pos u ∷ pos d ∷ pos v ∷ []) (search z_codes depth 8 fits 4000) refl

    three : (u v : ℕ) → (c *ℤ pos b) *ℤ (pos u *ℤ pos v) ≡ (c *ℤ pos v) *ℤ (pos b *ℤ pos u)
    three u v = ring_ℤ (c ∷ pos u ∷ pos b ∷ pos v ∷ []) (search z_codes depth 8 fits 4000) refl

    four : (m : ℤ) (u : ℕ) → (m *ℤ pos d) *ℤ (pos b *ℤ pos u) ≡ m *ℤ pos u *ℤ pos (b * d)
    four m u = ring_ℤ (m ∷ pos u ∷ pos b ∷ pos d ∷ []) (search z_codes depth 8 fits 4000) refl

pub frac_add : (a c : ℤ) (b d : ℕ) → 0 < b → 0 < d → frac a b +ℚ frac c d ≡ frac (a *ℤ pos d +ℤ c *ℤ pos b) (b * d)
unfolding ◌+ℚ◌
frac_add a c b d hb hd =
    let x : ℚ = frac a b in
    let y : ℚ = frac c d in
    frac_same (numer x *ℤ pos (denom y) +ℤ numer y *ℤ pos (denom x)) (a *ℤ pos d +ℤ c *ℤ pos b) (denom x * denom y) (b * d) (mul-pos (denom_pos x) (denom_pos y)) (mul-pos hb hd)
    (before (numer x) (numer y) (denom x) (denom y)
    ∙ ap₂ (λ p q. p *ℤ (pos d *ℤ pos (denom y)) +ℤ q *ℤ (pos b *ℤ pos (denom x))) (frac_cross a b hb) (frac_cross c d hd)
    ∙ after (denom x) (denom y))
  where
    before : (m n : ℤ) (u v : ℕ) → (m *ℤ pos v +ℤ n *ℤ pos u) *ℤ pos (b * d) ≡ (m *ℤ pos b) *ℤ (pos d *ℤ pos v) +ℤ (n *ℤ pos d) *ℤ (pos b *ℤ pos u)
    before m n u v = ring_ℤ (m ∷ n ∷ pos u ∷ pos v ∷ pos b ∷ pos d ∷ []) (search z_codes depth 8 fits 4000) refl

    after : (u v : ℕ) → (a *ℤ pos u) *ℤ (pos d *ℤ pos v) +ℤ (c *ℤ pos v) *ℤ (pos b *ℤ pos u) ≡ (a *ℤ pos d +ℤ c *ℤ pos b) *ℤ pos (u * v)
    after u v = ring_ℤ (a ∷ c ∷ pos u ∷ pos v ∷ pos b ∷ pos d ∷ []) (search z_codes depth 8 fits 4000) refl

pub frac_mul : (a c : ℤ) (b d : ℕ) → 0 < b → 0 < d → frac a b *ℚ frac c d ≡ frac (a *ℤ c) (b * d)
unfolding ◌*ℚ◌
frac_mul a c b d hb hd =
    let x : ℚ = frac a b in
    let y : ℚ = frac c d in
    frac_same (numer x *ℤ numer y) (a *ℤ c) (denom x * denom y) (b * d) (mul-pos (denom_pos x) (denom_pos y)) (mul-pos hb hd)
    (before (numer x) (numer y) ∙ ap₂ ◌*ℤ◌ (frac_cross a b hb) (frac_cross c d hd) ∙ after (denom x) (denom y))
  where
    before : (m n : ℤ) → (m *ℤ n) *ℤ pos (b * d) ≡ (m *ℤ pos b) *ℤ (n *ℤ pos d)
    before m n = ring_ℤ (m ∷ n ∷ pos b ∷ pos d ∷ []) (search z_codes depth 8 fits 4000) refl

    after : (u v : ℕ) → (a *ℤ pos u) *ℤ (c *ℤ pos v) ≡ (a *ℤ c) *ℤ pos (u * v)
    after u v = ring_ℤ (a ∷ c ∷ pos u ∷ pos v ∷ []) (search z_codes depth 8 fits 4000) refl

pub frac_neg : (a : ℤ) (b : ℕ) → 0 < b → neg_ℚ (frac a b) ≡ frac (neg_ℤ a) b
unfolding neg_ℚ
frac_neg a b hb =
    let x : ℚ = frac a b in
    frac_same (neg_ℤ (numer x)) (neg_ℤ a) (denom x) b (denom_pos x) hb
    (before (numer x) (pos b) ∙ ap neg_ℤ (frac_cross a b hb) ∙ sym (before a (pos (denom x))))
  where
    before : (m n : ℤ) → neg_ℤ m *ℤ n ≡ neg_ℤ (m *ℤ n)
    before m n = ring_ℤ (m ∷ n ∷ []) (search z_codes) refl

-- ---- a commutative ring

pub of_ℤ-add : (m n : ℤ) → of_ℤ (m +ℤ n) ≡ of_ℤ m +ℚ of_ℤ n
unfolding of_ℤ
of_ℤ-add m n = sym (frac_add m n 1 1 (zero-lt-suc 0) (zero-lt-suc 0) ∙ ap (λ z. frac z 1) (omega (arith, ints)))

pub of_ℤ-mul : (m n : ℤ) → of_ℤ (m *ℤ n) ≡ of_ℤ m *ℚ of_ℤ n
unfolding of_ℤ
of_ℤ-mul m n = sym (frac_mul m n 1 1 (zero-lt-suc 0) (zero-lt-suc 0))

pub add_comm : (x y : ℚ) → x +ℚ y ≡ y +ℚ x
add_comm = by_frac (λ x. (y : ℚ) → x +ℚ y ≡ y +ℚ x) (λ a b hb. by_frac (λ y. frac a b +ℚ y ≡ y +ℚ frac a b) (λ c d hd. frac_add a c b d hb hd ∙ frac_same (a *ℤ pos d +ℤ c *ℤ pos b) (c *ℤ pos b +ℤ a *ℤ pos d) (b * d) (d * b) (mul-pos hb hd) (mul-pos hd hb) (ring_ℤ (a ∷ c ∷ pos b ∷ pos d ∷ []) (search z_codes depth 8 fits 4000) refl) ∙ sym (frac_add c a d b hd hb)))

by_frac₃ : (P : ℚ → ℚ → ℚ → Type 0) → ((a c e : ℤ) (b d f : ℕ) → 0 < b → 0 < d → 0 < f → P (frac a b) (frac c d) (frac e f)) → (x y z : ℚ) → P x y z
by_frac₃ P h x y z = by_frac (λ x. P x y z) (λ a b hb. by_frac (λ y. P (frac a b) y z) (λ c d hd. by_frac (λ z. P (frac a b) (frac c d) z) (λ e f hf. h a c e b d f hb hd hf) z) y) x

by_frac₂ : (P : ℚ → ℚ → Type 0) → ((a c : ℤ) (b d : ℕ) → 0 < b → 0 < d → P (frac a b) (frac c d)) → (x y : ℚ) → P x y
by_frac₂ P h x y = by_frac (λ x. P x y) (λ a b hb. by_frac (λ y. P (frac a b) y) (λ c d hd. h a c b d hb hd) y) x

pub add_assoc : (x y z : ℚ) → x +ℚ y +ℚ z ≡ x +ℚ (y +ℚ z)
add_assoc = by_frac₃ (λ x y z. x +ℚ y +ℚ z ≡ x +ℚ (y +ℚ z)) (λ a c e b d f hb hd hf.
    ap (λ q. q +ℚ frac e f) (frac_add a c b d hb hd)
    ∙ frac_add (a *ℤ pos d +ℤ c *ℤ pos b) e (b * d) f (mul-pos hb hd) hf
    ∙ frac_same ((a *ℤ pos d +ℤ c *ℤ pos b) *ℤ pos f +ℤ e *ℤ pos (b * d)) (a *ℤ pos (d * f) +ℤ (c *ℤ pos f +ℤ e *ℤ pos d) *ℤ pos b) (b * d * f) (b * (d * f)) (mul-pos (mul-pos hb hd) hf) (mul-pos hb (mul-pos hd hf))
    (ring_ℤ (a ∷ c ∷ e ∷ pos b ∷ pos d ∷ pos f ∷ []) (search z_codes depth 12 fits 4000) refl)
    ∙ sym (ap (λ q. frac a b +ℚ q) (frac_add c e d f hd hf) ∙ frac_add a (c *ℤ pos f +ℤ e *ℤ pos d) b (d * f) hb (mul-pos hd hf)))

pub zero_add : (x : ℚ) → zero_ℚ +ℚ x ≡ x
unfolding of_ℤ
zero_add = by_frac (λ x. zero_ℚ +ℚ x ≡ x) (λ a b hb. frac_add (pos 0) a 1 b (zero-lt-suc 0) hb ∙ frac_same (pos 0 *ℤ pos b +ℤ a *ℤ pos 1) a (1 * b) b (mul-pos (zero-lt-suc 0) hb) hb (ring_ℤ (a ∷ pos b ∷ []) (search z_codes depth 8 fits 4000) refl))

pub mul_comm : (x y : ℚ) → x *ℚ y ≡ y *ℚ x
mul_comm = by_frac₂ (λ x y. x *ℚ y ≡ y *ℚ x) (λ a c b d hb hd. frac_mul a c b d hb hd ∙ frac_same (a *ℤ c) (c *ℤ a) (b * d) (d * b) (mul-pos hb hd) (mul-pos hd hb) (ring_ℤ (a ∷ c ∷ pos b ∷ pos d ∷ []) (search z_codes depth 8 fits 4000) refl) ∙ sym (frac_mul c a d b hd hb))

pub mul_assoc : (x y z : ℚ) → x *ℚ y *ℚ z ≡ x *ℚ (y *ℚ z)
mul_assoc = by_frac₃ (λ x y z. x *ℚ y *ℚ z ≡ x *ℚ (y *ℚ z)) (λ a c e b d f hb hd hf.
    ap (λ q. q *ℚ frac e f) (frac_mul a c b d hb hd)
    ∙ frac_mul (a *ℤ c) e (b * d) f (mul-pos hb hd) hf
    ∙ frac_same (a *ℤ c *ℤ e) (a *ℤ (c *ℤ e)) (b * d * f) (b * (d * f)) (mul-pos (mul-pos hb hd) hf) (mul-pos hb (mul-pos hd hf))
    (ring_ℤ (a ∷ c ∷ e ∷ pos b ∷ pos d ∷ pos f ∷ []) (search z_codes depth 12 fits 4000) refl)
    ∙ sym (ap (λ q. frac a b *ℚ q) (frac_mul c e d f hd hf) ∙ frac_mul a (c *ℤ e) b (d * f) hb (mul-pos hd hf)))

pub one_mul : (x : ℚ) → one_ℚ *ℚ x ≡ x
unfolding of_ℤ
one_mul = by_frac (λ x. one_ℚ *ℚ x ≡ x) (λ a b hb. frac_mul (pos 1) a 1 b (zero-lt-suc 0) hb ∙ frac_same (pos 1 *ℤ a) a (1 * b) b (mul-pos (zero-lt-suc 0) hb) hb (ring_ℤ (a ∷ pos b ∷ []) (search z_codes depth 8 fits 4000) refl))

pub zero_mul : (x : ℚ) → zero_ℚ *ℚ x ≡ zero_ℚ
unfolding of_ℤ
zero_mul = by_frac (λ x. zero_ℚ *ℚ x ≡ zero_ℚ) (λ a b hb. frac_mul (pos 0) a 1 b (zero-lt-suc 0) hb ∙ frac_same (pos 0 *ℤ a) (pos 0) (1 * b) 1 (mul-pos (zero-lt-suc 0) hb) (zero-lt-suc 0) (ring_ℤ (a ∷ pos b ∷ []) (search z_codes depth 8 fits 4000) refl))

pub add_mul : (x y z : ℚ) → (x +ℚ y) *ℚ z ≡ x *ℚ z +ℚ y *ℚ z
add_mul = by_frac₃ (λ x y z. (x +ℚ y) *ℚ z ≡ x *ℚ z +ℚ y *ℚ z) (λ a c e b d f hb hd hf.
    ap (λ q. q *ℚ frac e f) (frac_add a c b d hb hd)
    ∙ frac_mul (a *ℤ pos d +ℤ c *ℤ pos b) e (b * d) f (mul-pos hb hd) hf
    ∙ frac_same ((a *ℤ pos d +ℤ c *ℤ pos b) *ℤ e) (a *ℤ e *ℤ pos (d * f) +ℤ c *ℤ e *ℤ pos (b * f)) (b * d * f) (b * f * (d * f)) (mul-pos (mul-pos hb hd) hf) (mul-pos (mul-pos hb hf) (mul-pos hd hf))
    (ring_ℤ (a ∷ c ∷ e ∷ pos b ∷ pos d ∷ pos f ∷ []) (search z_codes depth 12 fits 4000) refl)
    ∙ sym (ap₂ ◌+ℚ◌ (frac_mul a e b f hb hf) (frac_mul c e d f hd hf) ∙ frac_add (a *ℤ e) (c *ℤ e) (b * f) (d * f) (mul-pos hb hf) (mul-pos hd hf)))

pub neg_is : (x : ℚ) → neg_ℚ x ≡ of_ℤ (negsuc 0) *ℚ x
unfolding of_ℤ
neg_is = by_frac (λ x. neg_ℚ x ≡ of_ℤ (negsuc 0) *ℚ x) (λ a b hb. frac_neg a b hb ∙ sym (frac_mul (negsuc 0) a 1 b (zero-lt-suc 0) hb ∙ frac_same (negsuc 0 *ℤ a) (neg_ℤ a) (1 * b) b (mul-pos (zero-lt-suc 0) hb) hb (ring_ℤ (a ∷ pos b ∷ []) (search z_codes depth 8 fits 4000) refl)))

-- ---- quotients of whole numbers

pub frac_quotient : (n : ℤ) (d : ℕ) → 0 < d → frac n d *ℚ of_ℤ (pos d) ≡ of_ℤ n
unfolding of_ℤ
frac_quotient n d h =
    frac_mul n (pos d) d 1 h (zero-lt-suc 0)
    ∙ frac_same (n *ℤ pos d) n (d * 1) 1 (mul-pos h (zero-lt-suc 0)) (zero-lt-suc 0) (ring_ℤ (n ∷ pos d ∷ []) (search z_codes depth 8 fits 4000) refl)

pub number_quotient : (x : ℚ) → x *ℚ of_ℤ (pos (denom x)) ≡ of_ℤ (numer x)
number_quotient x = ap (λ y. y *ℚ of_ℤ (pos (denom x))) (sym (frac-numer-denom x)) ∙ frac_quotient (numer x) (denom x) (denom_pos x)

-- ---- the order

pub frac_le : (a c : ℤ) (b d : ℕ) → 0 < b → 0 < d → (frac a b ≤ℚ frac c d) ↔ ((a *ℤ pos d) ≤ℤ (c *ℤ pos b))
frac_le a c b d hb hd =
    let x : ℚ = frac a b in
    let y : ℚ = frac c d in
    let over : numer x *ℤ pos (denom y) *ℤ pos (b * d) ≡ a *ℤ pos d *ℤ pos (denom x * denom y) = left (numer x) (denom x) (denom y) (frac_cross a b hb) in
    let under : numer y *ℤ pos (denom x) *ℤ pos (b * d) ≡ c *ℤ pos b *ℤ pos (denom x * denom y) = right (numer y) (denom x) (denom y) (frac_cross c d hd) in (
      (λ h'. let h : (numer x *ℤ pos (denom y)) ≤ℤ (numer y *ℤ pos (denom x)) = (le_cross x y).0 h' in ≤ℤ_cancel (a *ℤ pos d) (c *ℤ pos b) (denom x * denom y) (mul-pos (denom_pos x) (denom_pos y)) (subst₂ ◌≤ℤ◌ over under (≤ℤ-mul (numer x *ℤ pos (denom y)) (numer y *ℤ pos (denom x)) (b * d) h))),
      (λ h. (le_cross x y).1 (≤ℤ_cancel (numer x *ℤ pos (denom y)) (numer y *ℤ pos (denom x)) (b * d) (mul-pos hb hd) (subst₂ ◌≤ℤ◌ (sym over) (sym under) (≤ℤ-mul (a *ℤ pos d) (c *ℤ pos b) (denom x * denom y) h)))),
    )
  where
    left : (m : ℤ) (u v : ℕ) → m *ℤ pos b ≡ a *ℤ pos u → m *ℤ pos v *ℤ pos (b * d) ≡ a *ℤ pos d *ℤ pos (u * v)
    left m u v e = (let f : m *ℤ pos v *ℤ pos (b * d) ≡ (m *ℤ pos b) *ℤ (pos v *ℤ pos d) = ring_ℤ (m ∷ pos b ∷ pos d ∷ pos v ∷ []) (search z_codes depth 8 fits 4000) refl in f) ∙ ap (λ z. z *ℤ (pos v *ℤ pos d)) e ∙ ring_ℤ (a ∷ pos u ∷ pos d ∷ pos v ∷ []) (search z_codes depth 8 fits 4000) refl

    right : (m : ℤ) (u v : ℕ) → m *ℤ pos d ≡ c *ℤ pos v → m *ℤ pos u *ℤ pos (b * d) ≡ c *ℤ pos b *ℤ pos (u * v)
    right m u v e = (let f : m *ℤ pos u *ℤ pos (b * d) ≡ (m *ℤ pos d) *ℤ (pos u *ℤ pos b) = ring_ℤ (m ∷ pos b ∷ pos d ∷ pos u ∷ []) (search z_codes depth 8 fits 4000) refl in f) ∙ ap (λ z. z *ℤ (pos u *ℤ pos b)) e ∙ ring_ℤ (c ∷ pos u ∷ pos b ∷ pos v ∷ []) (search z_codes depth 8 fits 4000) refl

pub le_refl : (x : ℚ) → x ≤ℚ x
le_refl x = (le_cross x x).1 (≤ℤ_refl (numer x *ℤ pos (denom x)))

pub le_antisymm : (x y : ℚ) → x ≤ℚ y → y ≤ℚ x → x ≡ y
le_antisymm x y h k = same_cross x y (omega (arith, ints, (le_cross x y).0 h, (le_cross y x).0 k))

pub le_or_lt : (x y : ℚ) → (x ≤ℚ y) ⊎ (y <ℚ x)
le_or_lt x y = by_lt_z (numer y *ℤ pos (denom x)) (numer x *ℤ pos (denom y)) (λ h. inr ((lt_cross y x).1 h)) (λ h. inl ((le_cross x y).1 h))

pub le_of_lt : (x y : ℚ) → x <ℚ y → x ≤ℚ y
le_of_lt x y h = (le_cross x y).1 (omega (arith, ints, (lt_cross x y).0 h))

pub not_le_of_lt : (x y : ℚ) → x <ℚ y → y ≤ℚ x → ⊥
not_le_of_lt x y h k = omega (arith, ints, (lt_cross x y).0 h, (le_cross y x).0 k)

pub le_trans : (x y z : ℚ) → x ≤ℚ y → y ≤ℚ z → x ≤ℚ z
le_trans = by_frac₃ (λ x y z. x ≤ℚ y → y ≤ℚ z → x ≤ℚ z) (λ a c e b d f hb hd hf h k.
    let p : (a *ℤ pos d) ≤ℤ (c *ℤ pos b) = (frac_le a c b d hb hd).0 h in
    let q : (c *ℤ pos f) ≤ℤ (e *ℤ pos d) = (frac_le c e d f hd hf).0 k in
    (frac_le a e b f hb hf).1 (≤ℤ_cancel (a *ℤ pos f) (e *ℤ pos b) d hd
    (≤ℤ_trans (a *ℤ pos f *ℤ pos d) (c *ℤ pos b *ℤ pos f) (e *ℤ pos b *ℤ pos d)
    (subst (λ z. z ≤ℤ (c *ℤ pos b *ℤ pos f)) (swap (pos d) (pos f) a) (≤ℤ-mul (a *ℤ pos d) (c *ℤ pos b) f p))
    (subst₂ ◌≤ℤ◌ (swap (pos f) (pos b) c) (swap (pos d) (pos b) e) (≤ℤ-mul (c *ℤ pos f) (e *ℤ pos d) b q)))))
  where
    swap : (m n a : ℤ) → a *ℤ m *ℤ n ≡ a *ℤ n *ℤ m
    swap m n a = ring_ℤ (a ∷ m ∷ n ∷ []) (search z_codes) refl

pub add_le : (x y z : ℚ) → x ≤ℚ y → x +ℚ z ≤ℚ y +ℚ z
add_le = by_frac₃ (λ x y z. x ≤ℚ y → x +ℚ z ≤ℚ y +ℚ z) (λ a c e b d f hb hd hf h.
    let p : (a *ℤ pos d) ≤ℤ (c *ℤ pos b) = (frac_le a c b d hb hd).0 h in
    subst₂ ◌≤ℚ◌ (sym (frac_add a e b f hb hf)) (sym (frac_add c e d f hd hf))
    ((frac_le (a *ℤ pos f +ℤ e *ℤ pos b) (c *ℤ pos f +ℤ e *ℤ pos d) (b * f) (d * f) (mul-pos hb hf) (mul-pos hd hf)).1
    (subst₂ ◌≤ℤ◌ (expand a e b d f) (let g : (c *ℤ pos b) *ℤ pos (f * f) +ℤ e *ℤ pos (b * d * f) ≡ (c *ℤ pos f +ℤ e *ℤ pos d) *ℤ pos (b * f) = ring_ℤ (c ∷ e ∷ pos b ∷ pos d ∷ pos f ∷ []) (search z_codes depth 8 fits 4000) refl in g)
    (+ℤ_mono ((a *ℤ pos d) *ℤ pos (f * f)) ((c *ℤ pos b) *ℤ pos (f * f)) (e *ℤ pos (b * d * f)) (≤ℤ-mul (a *ℤ pos d) (c *ℤ pos b) (f * f) p)))))
  where
    expand : (a e : ℤ) (b d f : ℕ) → (a *ℤ pos d) *ℤ pos (f * f) +ℤ e *ℤ pos (b * d * f) ≡ (a *ℤ pos f +ℤ e *ℤ pos b) *ℤ pos (d * f)
    expand a e b d f = ring_ℤ (a ∷ e ∷ pos b ∷ pos d ∷ pos f ∷ []) (search z_codes depth 8 fits 4000) refl

    +ℤ_mono : (m n k : ℤ) → m ≤ℤ n → (m +ℤ k) ≤ℤ (n +ℤ k)
    +ℤ_mono m n k h = omega (arith, ints)

nonneg_out : (a : ℤ) (b : ℕ) → 0 < b → zero_ℚ ≤ℚ frac a b → pos 0 ≤ℤ a
unfolding of_ℤ
nonneg_out a b hb h = let p : (pos 0 *ℤ pos b) ≤ℤ (a *ℤ pos 1) = (frac_le (pos 0) a 1 b (zero-lt-suc 0) hb).0 h in omega (arith, ints, product_is a (pos 1))

nonneg_in : (a : ℤ) (b : ℕ) → 0 < b → pos 0 ≤ℤ a → zero_ℚ ≤ℚ frac a b
unfolding of_ℤ
nonneg_in a b hb h = (frac_le (pos 0) a 1 b (zero-lt-suc 0) hb).1 (omega (arith, ints, product_is a (pos 1)))

pub mul_nonneg : (x y : ℚ) → zero_ℚ ≤ℚ x → zero_ℚ ≤ℚ y → zero_ℚ ≤ℚ x *ℚ y
mul_nonneg = by_frac₂ (λ x y. zero_ℚ ≤ℚ x → zero_ℚ ≤ℚ y → zero_ℚ ≤ℚ x *ℚ y) (λ a c b d hb hd h k.
    subst (λ q. zero_ℚ ≤ℚ q) (sym (frac_mul a c b d hb hd)) (nonneg_in (a *ℤ c) (b * d) (mul-pos hb hd) (≤ℤ_mul_nonneg a c (nonneg_out a b hb h) (nonneg_out c d hd k))))

pub lt_of_not_le : (x y : ℚ) → (y ≤ℚ x → ⊥) → x <ℚ y
lt_of_not_le x y h = elim (le_or_lt y x) [ inl k ↦ absurd (h k) | inr k ↦ k ]

pub zero_lt_one : zero_ℚ <ℚ one_ℚ
unfolding of_ℤ
zero_lt_one = lt_of_not_le zero_ℚ one_ℚ (λ h. ((frac_le (pos 1) (pos 0) 1 1 (zero-lt-suc 0) (zero-lt-suc 0)).0 h).le)

pub ℚ_discrete : Discrete ℚ
ℚ_discrete x y = go (ℤ_discrete (numer x) (numer y)) (ℕ_discrete (denom x) (denom y))
  where
    go : Dec (numer x ≡ numer y) → Dec (denom x ≡ denom y) → Dec (x ≡ y)
    go (yes p) (yes q) = yes (same_parts x y p q)
    go (yes p) (no q) = no (λ e. q (ap denom e))
    go (no p) q = no (λ e. p (ap numer e))

pub ℚ_set : IsSet ℚ
ℚ_set = hedberg ℚ_discrete

-- ---- the inverse

pub zero_of_numer : (x : ℚ) → numer x ≡ pos 0 → x ≡ zero_ℚ
unfolding of_ℤ
zero_of_numer x e = sym (frac-numer-denom x) ∙ ap (λ (z : ℤ). frac z (denom x)) e ∙ frac_same (pos 0) (pos 0) (denom x) 1 (denom_pos x) (zero-lt-suc 0) (ring_ℤ (pos (denom x) ∷ []) (search z_codes) refl)

times : (x : ℚ) (a c : ℤ) (d : ℕ) → numer x ≡ a → inv_ℚ x ≡ frac c d → 0 < d → a *ℤ c *ℤ pos 1 ≡ pos 1 *ℤ pos (denom x * d) → x *ℚ inv_ℚ x ≡ one_ℚ
unfolding of_ℤ
times x a c d e f hd g = ap₂ ◌*ℚ◌ (sym (frac-numer-denom x) ∙ ap (λ (z : ℤ). frac z (denom x)) e) f ∙ frac_mul a c (denom x) d (denom_pos x) hd ∙ frac_same (a *ℤ c) (pos 1) (denom x * d) 1 (mul-pos (denom_pos x) hd) (zero-lt-suc 0) g

signs : (b d : ℕ) → neg_ℤ (pos d) *ℤ neg_ℤ (pos b) *ℤ pos 1 ≡ pos 1 *ℤ pos (b * d)
signs b d = ring_ℤ (pos b ∷ pos d ∷ []) (search z_codes depth 8 fits 4000) refl

pub mul_inv : (x : ℚ) → (x ≡ zero_ℚ → ⊥) → x *ℚ inv_ℚ x ≡ one_ℚ
mul_inv x h = go (numer x) refl
  where
    go : (z : ℤ) → numer x ≡ z → x *ℚ inv_ℚ x ≡ one_ℚ
    go (pos zero) e = absurd (h (zero_of_numer x e))
    go (pos (suc n)) e = times x (pos (suc n)) (pos (denom x)) (suc n) e ((inv_ℚ-is x).0 n e) (zero-lt-suc n) (ring_ℤ (pos (suc n) ∷ pos (denom x) ∷ []) (search z_codes depth 8 fits 4000) refl)
    go (negsuc n) e = times x (negsuc n) (neg_ℤ (pos (denom x))) (suc n) e ((inv_ℚ-is x).1 n e) (zero-lt-suc n) (signs (denom x) (suc n))

-- the inverse by its parts
pub inv-positive : (x : ℚ) → (x ≡ zero_ℚ → ⊥) → pos 0 ≤ℤ numer x → inv_ℚ x ≡ frac (pos (denom x)) (nat_abs (numer x))
inv-positive x h k = go (numer x) refl k
  where
    go : (z : ℤ) → numer x ≡ z → pos 0 ≤ℤ z → inv_ℚ x ≡ frac (pos (denom x)) (nat_abs (numer x))
    go (pos zero) e l = absurd (h (zero_of_numer x e))
    go (pos (suc n)) e l = (inv_ℚ-is x).0 n e ∙ ap (λ (m : ℕ). frac (pos (denom x)) m) (sym (ap nat_abs e))
    go (negsuc n) e l = absurd l.le

pub inv-negative : (x : ℚ) → numer x <ℤ pos 0 → inv_ℚ x ≡ frac (neg_ℤ (pos (denom x))) (nat_abs (numer x))
inv-negative x k = go (numer x) refl k
  where
    go : (z : ℤ) → numer x ≡ z → z <ℤ pos 0 → inv_ℚ x ≡ frac (neg_ℤ (pos (denom x))) (nat_abs (numer x))
    go (pos n) e l = absurd (omega (arith, ints))
    go (negsuc n) e l = (inv_ℚ-is x).1 n e ∙ ap (λ (m : ℕ). frac (neg_ℤ (pos (denom x))) m) (sym (ap nat_abs e))

pub numer_abs_pos : (x : ℚ) → (x ≡ zero_ℚ → ⊥) → 0 < nat_abs (numer x)
numer_abs_pos x h = go (numer x) refl
  where
    go : (z : ℤ) → numer x ≡ z → 0 < nat_abs z
    go (pos zero) e = absurd (h (zero_of_numer x e))
    go (pos (suc n)) e = zero-lt-suc n
    go (negsuc n) e = zero-lt-suc n
