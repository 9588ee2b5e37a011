-- What numbers are: an ordered field, each of whose members is a quotient of whole numbers.
-- The functions of this crate promise these laws; all algebra of the crates above rests on them.
use Rattle.std.specs.Prelude.{ℕ, ◌<◌, ◌≡◌, ◌⊎◌, ℤ, pos, nat_abs}
use Rattle.nf_num.specs.Gcd.{gcd}
use Rattle.nf_num.specs.Rational.{ℚ, numer, denom, frac, of_ℤ, zero_ℚ, one_ℚ, ◌+ℚ◌, ◌*ℚ◌, ◌-ℚ◌, inv_ℚ, ◌≤ℚ◌, ◌<ℚ◌}
use Rattle.nf_num.specs.Sum.{sum_ℚ}

-- The rationals are an ordered field.
pub record IsOrderedField : Type 0 where
  pub add_assoc : (x y z : ℚ) → x +ℚ y +ℚ z ≡ x +ℚ (y +ℚ z)
  pub add_comm : (x y : ℚ) → x +ℚ y ≡ y +ℚ x
  pub zero_add : (x : ℚ) → zero_ℚ +ℚ x ≡ x
  pub sub_self : (x : ℚ) → x -ℚ x ≡ zero_ℚ
  pub mul_assoc : (x y z : ℚ) → x *ℚ y *ℚ z ≡ x *ℚ (y *ℚ z)
  pub mul_comm : (x y : ℚ) → x *ℚ y ≡ y *ℚ x
  pub one_mul : (x : ℚ) → one_ℚ *ℚ x ≡ x
  pub mul_inv : (x : ℚ) → (x ≡ zero_ℚ → ⊥) → x *ℚ inv_ℚ x ≡ one_ℚ
  pub add_mul : (x y z : ℚ) → (x +ℚ y) *ℚ z ≡ x *ℚ z +ℚ y *ℚ z
  pub le_refl : (x : ℚ) → x ≤ℚ x
  pub le_trans : (x y z : ℚ) → x ≤ℚ y → y ≤ℚ z → x ≤ℚ z
  pub le_antisymm : (x y : ℚ) → x ≤ℚ y → y ≤ℚ x → x ≡ y
  pub le_or_lt : (x y : ℚ) → (x ≤ℚ y) ⊎ (y <ℚ x)
  pub lt_not_le : (x y : ℚ) → x <ℚ y → y ≤ℚ x → ⊥
  pub zero_lt_one : zero_ℚ <ℚ one_ℚ
  pub add_le : (x y z : ℚ) → x ≤ℚ y → x +ℚ z ≤ℚ y +ℚ z
  pub mul_nonneg : (x y : ℚ) → zero_ℚ ≤ℚ x → zero_ℚ ≤ℚ y → zero_ℚ ≤ℚ x *ℚ y

-- A number is the quotient of its numerator and its denominator, in lowest terms.
pub record IsQuotient (x : ℚ) : Type 0 where
  pub quotient : x *ℚ of_ℤ (pos (denom x)) ≡ of_ℤ (numer x)
  pub positive : 0 < denom x
  pub lowest : gcd (nat_abs (numer x)) (denom x) ≡ 1

-- Each number is a quotient of whole numbers in lowest terms, and each quotient of whole numbers is a number.
pub record AreQuotients : Type 0 where
  pub every_number : (x : ℚ) → IsQuotient x
  pub every_quotient : (n : ℤ) (d : ℕ) → 0 < d → frac n d *ℚ of_ℤ (pos d) ≡ of_ℤ n

-- Two sums, one inside the other, may be exchanged.
abbrev pub SumsExchange : Type 0
SumsExchange = (m n : ℕ) (f : ℕ → ℕ → ℚ) → sum_ℚ m (λ i. sum_ℚ n (f i)) ≡ sum_ℚ n (λ j. sum_ℚ m (λ i. f i j))
