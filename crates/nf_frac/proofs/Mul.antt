-- The steps of a product and of a negation, against their values.
use Rattle.std.proofs.Common.{◌≡◌, ℕ, ◌*◌, ◌/◌, ◌<◌, ◌^◌, sym, ◌∙◌, ap, ap₂, subst, subst₂, ℤ, pos, ◌-ℤ◌, ◌*ℤ◌, neg_ℤ, unsigned_abs, int_div, lt_of_le_of_lt, div-le_self, div-one, lit<, mul-pos}
use Rattle.std.specs.Int.RustNames.{FitsSigned}
use lib.IntN.{+ℤ_idl}
use mir.Syntax.{w128}
use mir.Val.{to_z, of_z}
use Rattle.nf_num.specs.Gcd.{gcd}
use Rattle.nf_num.specs.Rational.{ℚ, numer, denom, frac, quotient_ℤ, ◌*ℚ◌, neg_ℚ}
use Rattle.nf_num.proofs.Gcd.{gcd_pos, gcd-dvd_left, gcd-dvd_right, gcd_bound}
use Rattle.nf_num.proofs.Parts.{denom_pos, nat_abs-quotient, quotient-one}
use Rattle.nf_num.proofs.Reduce.{mul-parts, mul-lowest, div_pos, abs-neg}
use Rattle.nf_frac.specs.Range.{AreParts, InRange, ProductFits}
use Rattle.nf_frac.proofs.Fields.{back, back_is, fits}
use Rattle.nf_frac.proofs.Reduced.{prime}

-- ---- a numerator without what it has in common with the other denominator

module _ (x y : ℚ) (n : ℤ) (m u s : ℕ) (px : AreParts (numer x) (denom x)) (py : AreParts (numer y) (denom y)) (n_is : n ≡ numer x) (m_is : m ≡ denom y) (u_is : u ≡ unsigned_abs (to_z w128 (of_z w128 n))) (s_is : s ≡ gcd u m) where
  read_is : to_z w128 (of_z w128 n) ≡ numer x
  read_is = back_is n (numer x) px.num_in_range n_is

  pub shared_is : s ≡ gcd (unsigned_abs (numer x)) (denom y)
  shared_is = s_is ∙ ap₂ gcd (u_is ∙ ap unsigned_abs read_is) m_is

  pub shared_pos : 0 < s
  shared_pos = subst (λ (k : ℕ). 0 < k) (sym shared_is) (gcd_pos (unsigned_abs (numer x)) (denom y) (denom_pos y))

  pub shared_small : s < 2 ^ 127
  shared_small = subst (λ (k : ℕ). k < 2 ^ 127) (sym shared_is) (lt_of_le_of_lt (gcd_bound (unsigned_abs (numer x)) (denom y) (denom_pos y)) py.den_in_range)

  in_range : InRange (int_div (numer x) (pos s))
  in_range = subst (λ (k : ℕ). k < 2 ^ 127) (sym (nat_abs-quotient (numer x) s)) (lt_of_le_of_lt (div-le_self (unsigned_abs (numer x)) s) px.num_in_range)

  pub read_in_range : InRange (to_z w128 (of_z w128 n))
  read_in_range = subst InRange (sym read_is) px.num_in_range

  -- v is the numerator divided
  module _ (v : ℤ) (v_is : v ≡ int_div (to_z w128 (of_z w128 n)) (pos s)) where
    pub rest_is : to_z w128 (of_z w128 v) ≡ int_div (numer x) (pos s)
    rest_is = back_is v (int_div (numer x) (pos s)) in_range (v_is ∙ ap (λ (z : ℤ). int_div z (pos s)) read_is)

    pub rest_in_range : InRange (to_z w128 (of_z w128 v))
    rest_in_range = subst InRange (sym rest_is) in_range

  -- where the divisor is 1 the numerator stays as it is
  module _ (one : s ≡ 1) where
    pub shared_one : 1 ≡ gcd (unsigned_abs (numer x)) (denom y)
    shared_one = sym one ∙ shared_is

    pub kept_is : to_z w128 (of_z w128 n) ≡ int_div (numer x) (pos 1)
    kept_is = read_is ∙ sym (quotient-one (numer x))

-- ---- the product

-- the numbers of a product x * y as the code has them: a and c are what is left of the numerators, s and t what was taken out, o and r what is left of the denominators
pub record At (x y : ℚ) (a c : ℤ) (b d s t o r : ℕ) : Type 0 where
  pub s_is : s ≡ gcd (unsigned_abs (numer x)) (denom y)
  pub t_is : t ≡ gcd (unsigned_abs (numer y)) (denom x)
  pub a_is : a ≡ int_div (numer x) (pos (gcd (unsigned_abs (numer x)) (denom y)))
  pub c_is : c ≡ int_div (numer y) (pos (gcd (unsigned_abs (numer y)) (denom x)))
  pub b_is : b ≡ denom x
  pub d_is : d ≡ denom y
  pub o_is : o ≡ b / t
  pub r_is : r ≡ d / s

pub at : (x y : ℚ) (a c : ℤ) (b d s t o r : ℕ) → s ≡ gcd (unsigned_abs (numer x)) (denom y) → a ≡ int_div (numer x) (pos s) → InRange a → t ≡ gcd (unsigned_abs (numer y)) (denom x) → c ≡ int_div (numer y) (pos t) → InRange c → b ≡ denom x → d ≡ denom y → o ≡ b / t → r ≡ d / s → At x y (to_z w128 (of_z w128 a)) (to_z w128 (of_z w128 c)) b d s t o r
at x y a c b d s t o r es ea ra et ec rc eb ed eo er =
    record { s_is = es; t_is = et; a_is = back a ra ∙ ea ∙ ap (λ (k : ℕ). int_div (numer x) (pos k)) es; c_is = back c rc ∙ ec ∙ ap (λ (k : ℕ). int_div (numer y) (pos k)) et; b_is = eb; d_is = ed; o_is = eo; r_is = er }

module _ {x y : ℚ} {a c : ℤ} {b d s t o r : ℕ} (k : At x y a c b d s t o r) where
  abbrev g : ℕ
  g = gcd (unsigned_abs (numer x)) (denom y)

  abbrev h : ℕ
  h = gcd (unsigned_abs (numer y)) (denom x)

  num_is : a *ℤ c ≡ int_div (numer x) (pos g) *ℤ int_div (numer y) (pos h)
  num_is = ap₂ ◌*ℤ◌ k.a_is k.c_is

  den_is : o * r ≡ denom x / h * (denom y / g)
  den_is = ap₂ (λ (i j : ℕ). i * j) (k.o_is ∙ ap₂ (λ (i j : ℕ). i / j) k.b_is k.t_is) (k.r_is ∙ ap₂ (λ (i j : ℕ). i / j) k.d_is k.s_is)

  pub no_numerator : ¬ (InRange (a *ℤ c)) → ¬ (ProductFits x y)
  no_numerator n f = n (subst InRange (sym num_is) f.numerator)

  pub no_denominator : ¬ (o * r < 2 ^ 127) → ¬ (ProductFits x y)
  no_denominator n f = n (subst (λ (m : ℕ). m < 2 ^ 127) (sym den_is) f.denominator)

  pub fits_both : InRange (a *ℤ c) → o * r < 2 ^ 127 → ProductFits x y
  fits_both p q = record { numerator = subst InRange num_is p; denominator = subst (λ (m : ℕ). m < 2 ^ 127) den_is q }

  module _ (n : ℤ) (m : ℕ) (p : InRange (a *ℤ c)) (n_is : n ≡ a *ℤ c) (q : o * r < 2 ^ 127) (m_is : m ≡ o * r) where
    read : to_z w128 (of_z w128 n) ≡ int_div (numer x) (pos g) *ℤ int_div (numer y) (pos h)
    read = back_is n (a *ℤ c) p n_is ∙ num_is

    pub parts : AreParts (to_z w128 (of_z w128 n)) m
    parts =
        subst₂ AreParts (sym read) (sym (m_is ∙ den_is))
        (record {
          num_in_range = subst InRange num_is p;
          den_in_range = subst (λ (m : ℕ). m < 2 ^ 127) den_is q;
          positive = mul-pos (div_pos (denom x) h (denom_pos x) (gcd-dvd_right (unsigned_abs (numer y)) (denom x))) (div_pos (denom y) g (denom_pos y) (gcd-dvd_right (unsigned_abs (numer x)) (denom y)));
          lowest = mul-lowest x y;
        })

    pub value : frac (to_z w128 (of_z w128 n)) m ≡ x *ℚ y
    value = ap₂ frac read (m_is ∙ den_is) ∙ sym (mul-parts x y g h (gcd-dvd_left (unsigned_abs (numer x)) (denom y)) (gcd-dvd_right (unsigned_abs (numer x)) (denom y)) (gcd-dvd_left (unsigned_abs (numer y)) (denom x)) (gcd-dvd_right (unsigned_abs (numer y)) (denom x)))

-- ---- the product of whole numbers

over_one : (z : ℤ) (k : ℕ) → k ≡ 1 → int_div z (pos (gcd (unsigned_abs z) k)) ≡ z
over_one z k e = ap (λ (j : ℕ). quotient_ℤ z j) (ap (gcd (unsigned_abs z)) e ∙ prime (unsigned_abs z)) ∙ quotient-one z

by_one : (u k : ℕ) → k ≡ 1 → k / gcd u k ≡ 1
by_one u k e = ap₂ (λ (i j : ℕ). i / j) e (ap (gcd u) e ∙ prime u) ∙ div-one 1

-- a and c are the numerators as they are passed on
module _ (x y : ℚ) (a c : ℤ) (a_is : a ≡ numer x) (c_is : c ≡ numer y) (one_x : denom x ≡ 1) (one_y : denom y ≡ 1) where
  nums_are : int_div (numer x) (pos (gcd (unsigned_abs (numer x)) (denom y))) *ℤ int_div (numer y) (pos (gcd (unsigned_abs (numer y)) (denom x))) ≡ a *ℤ c
  nums_are = ap₂ ◌*ℤ◌ (over_one (numer x) (denom y) one_y ∙ sym a_is) (over_one (numer y) (denom x) one_x ∙ sym c_is)

  dens_are : denom x / gcd (unsigned_abs (numer y)) (denom x) * (denom y / gcd (unsigned_abs (numer x)) (denom y)) ≡ 1
  dens_are = ap₂ (λ (i j : ℕ). i * j) (by_one (unsigned_abs (numer y)) (denom x) one_x) (by_one (unsigned_abs (numer x)) (denom y) one_y)

  pub no_whole : ¬ (InRange (a *ℤ c)) → ¬ (ProductFits x y)
  no_whole n f = n (subst InRange nums_are f.numerator)

  pub whole_fits : InRange (a *ℤ c) → ProductFits x y
  whole_fits f = record { numerator = subst InRange (sym nums_are) f; denominator = subst (λ (j : ℕ). j < 2 ^ 127) (sym dens_are) (lit< tt) }

  pub whole_value : (k : ℤ) → InRange (a *ℤ c) → k ≡ a *ℤ c → frac (to_z w128 (of_z w128 k)) 1 ≡ x *ℚ y
  unfolding ◌*ℚ◌
  whole_value k f e = ap₂ frac (back_is k (a *ℤ c) f e ∙ ap₂ ◌*ℤ◌ a_is c_is) (sym (ap₂ (λ (i j : ℕ). i * j) one_x one_y))

-- ---- the negation

module _ (x : ℚ) (n : ℤ) (px : AreParts (numer x) (denom x)) (n_is : n ≡ numer x) where
  minus_is : pos 0 -ℤ to_z w128 (of_z w128 n) ≡ neg_ℤ (numer x)
  minus_is = +ℤ_idl (neg_ℤ (to_z w128 (of_z w128 n))) ∙ ap neg_ℤ (back_is n (numer x) px.num_in_range n_is)

  minus_in_range : InRange (neg_ℤ (numer x))
  minus_in_range = subst (λ (k : ℕ). k < 2 ^ 127) (sym (abs-neg (numer x))) px.num_in_range

  pub minus_fits : FitsSigned w128 (pos 0 -ℤ to_z w128 (of_z w128 n))
  minus_fits = fits (pos 0 -ℤ to_z w128 (of_z w128 n)) (subst InRange (sym minus_is) minus_in_range)

  minus_read : to_z w128 (of_z w128 (pos 0 -ℤ to_z w128 (of_z w128 n))) ≡ neg_ℤ (numer x)
  minus_read = back_is (pos 0 -ℤ to_z w128 (of_z w128 n)) (neg_ℤ (numer x)) minus_in_range minus_is

  pub minus_parts : (m : ℕ) → m ≡ denom x → AreParts (to_z w128 (of_z w128 (pos 0 -ℤ to_z w128 (of_z w128 n)))) m
  minus_parts m e =
      subst₂ AreParts (sym minus_read) (sym e)
      (record { num_in_range = minus_in_range; den_in_range = px.den_in_range; positive = px.positive; lowest = ap (λ (k : ℕ). gcd k (denom x)) (abs-neg (numer x)) ∙ px.lowest })

  pub minus_value : (m : ℕ) → m ≡ denom x → frac (to_z w128 (of_z w128 (pos 0 -ℤ to_z w128 (of_z w128 n)))) m ≡ neg_ℚ x
  unfolding neg_ℚ
  minus_value m e = ap₂ frac minus_read e
