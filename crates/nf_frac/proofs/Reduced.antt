-- Both parts of a fraction divided by their greatest common divisor.
use Rattle.std.proofs.Common.{◌≡◌, ℕ, ◌/◌, ◌<◌, ◌≤◌, ◌^◌, sym, ◌∙◌, ap, ap₂, subst, subst₂, ℤ, pos, unsigned_abs, int_div, lt_of_le_of_lt, div-le_self, arith, lit<}
use Prim.Native.Nat.{◌∣◌}
use mir.Syntax.{w128}
use Rattle.std.proofs.lemmas.Int.{to_z_pos}
use mir.Val.{to_z, of_z}
use Rattle.nf_num.specs.Gcd.{gcd}
use Rattle.nf_num.specs.Rational.{frac, quotient_ℤ}
use Rattle.nf_num.proofs.Gcd.{gcd_pos, gcd-dvd_left, gcd-dvd_right, gcd-div, gcd_bound}
use Rattle.nf_num.proofs.Parts.{nat_abs-quotient}
use Rattle.nf_num.proofs.Reduce.{frac-reduce, div_pos}
use Rattle.nf_frac.specs.Range.{AreParts, InRange}
use Rattle.nf_frac.proofs.Fields.{back, back_is}

module _ (n : ℤ) (m s r u : ℕ) (hn : InRange n) (hm : m < 2 ^ 127) (pm : 0 < m) (ds : s ∣ m) (e : gcd (unsigned_abs n) m ≡ gcd (unsigned_abs n) s) (r_is : r ≡ gcd u s) (u_is : u ≡ unsigned_abs (to_z w128 (of_z w128 n))) where
  rest_is : r ≡ gcd (unsigned_abs n) m
  rest_is = r_is ∙ ap (λ (k : ℕ). gcd k s) (u_is ∙ ap unsigned_abs (back n hn)) ∙ sym e

  pub rest_pos : 0 < r
  rest_pos = subst (λ (k : ℕ). 0 < k) (sym rest_is) (gcd_pos (unsigned_abs n) m pm)

  -- where this is 1 there is nothing to divide
  pub coprime : r ≡ 1 → AreParts n m
  coprime o = record { num_in_range = hn; den_in_range = hm; positive = pm; lowest = sym rest_is ∙ o }

  pub rest_small : r < 2 ^ 127
  rest_small = subst (λ (k : ℕ). k < 2 ^ 127) (sym rest_is) (lt_of_le_of_lt (gcd_bound (unsigned_abs n) m pm) hm)

  lowest : AreParts (quotient_ℤ n r) (m / r)
  lowest =
      subst (λ (k : ℕ). AreParts (quotient_ℤ n k) (m / k)) (sym rest_is)
      (record {
        num_in_range = subst (λ (k : ℕ). k < 2 ^ 127) (sym (nat_abs-quotient n (gcd (unsigned_abs n) m))) (lt_of_le_of_lt (div-le_self (unsigned_abs n) (gcd (unsigned_abs n) m)) hn);
        den_in_range = lt_of_le_of_lt (div-le_self m (gcd (unsigned_abs n) m)) hm;
        positive = div_pos m (gcd (unsigned_abs n) m) pm (gcd-dvd_right (unsigned_abs n) m);
        lowest = ap (λ (k : ℕ). gcd k (m / gcd (unsigned_abs n) m)) (nat_abs-quotient n (gcd (unsigned_abs n) m)) ∙ gcd-div (unsigned_abs n) m pm;
      })

  pub read_in_range : InRange (to_z w128 (of_z w128 n))
  read_in_range = subst InRange (sym (back n hn)) hn

  -- v is the numerator divided, and q the denominator
  module _ (v : ℤ) (q : ℕ) (v_is : v ≡ int_div (to_z w128 (of_z w128 n)) (pos r)) (q_is : q ≡ m / r) where
    read : to_z w128 (of_z w128 v) ≡ quotient_ℤ n r
    read = back_is v (quotient_ℤ n r) lowest.num_in_range (v_is ∙ ap (λ (z : ℤ). int_div z (pos r)) (back n hn))

    pub parts : AreParts (to_z w128 (of_z w128 v)) q
    parts = subst₂ AreParts (sym read) (sym q_is) lowest

    pub value : frac (to_z w128 (of_z w128 v)) q ≡ frac n m
    value =
        ap₂ frac read q_is
        ∙ ap (λ (k : ℕ). frac (quotient_ℤ n k) (m / k)) rest_is
        ∙ sym (frac-reduce n m (gcd (unsigned_abs n) m) pm (gcd-dvd_left (unsigned_abs n) m) (gcd-dvd_right (unsigned_abs n) m))

pub prime : (k : ℕ) → gcd k 1 ≡ 1
prime k = let p : 0 < gcd k 1 = gcd_pos k 1 (omega arith) in let q : gcd k 1 ≤ 1 = gcd_bound k 1 (omega arith) in omega arith

-- where the divisor is 1 nothing is left to divide
pub already : (n : ℤ) (m s : ℕ) → InRange n → m < 2 ^ 127 → 0 < m → gcd (unsigned_abs n) m ≡ gcd (unsigned_abs n) s → s ≡ 1 → AreParts n m
already n m s hn hm pm e o = record { num_in_range = hn; den_in_range = hm; positive = pm; lowest = e ∙ ap (gcd (unsigned_abs n)) o ∙ prime (unsigned_abs n) }

-- a whole number
pub whole_parts : (n v : ℤ) → InRange v → n ≡ v → AreParts (to_z w128 (of_z w128 n)) 1
whole_parts n v h e = subst (λ (z : ℤ). AreParts z 1) (sym (back_is n v h e)) (record { num_in_range = h; den_in_range = lit< tt; positive = lit< tt; lowest = prime (unsigned_abs v) })

pub natural_parts : (n : ℕ) → n < 2 ^ 127 → AreParts (to_z w128 n) 1
natural_parts n h = subst (λ (z : ℤ). AreParts z 1) (sym (to_z_pos w128 n h)) (record { num_in_range = h; den_in_range = lit< tt; positive = lit< tt; lowest = prime n })
