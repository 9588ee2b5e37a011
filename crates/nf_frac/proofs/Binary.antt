-- The steps of the binary greatest common divisor.
use Rattle.std.proofs.Common.{◌≡◌, ⊎_elim, ℕ, zero, suc, ◌+◌, ◌*◌, ◌-◌, ◌/◌, ◌%◌, ◌^◌, ◌<◌, ◌≤◌, sym, ◌∙◌, ap, ap₂, arith, min, lt_of_le_of_lt}
use native.Mathlib.Nat.{mod-eq-sub-mod, mod_self, mod-eq_of_lt, pow-suc, div-div-eq-div-mul}
use Rattle.std.specs.Int.{bit_at, Width, trailing_zeros}
use Rattle.std.proofs.lemmas.Bool.{cases_lt}
use Rattle.std.proofs.lemmas.Nat.{pow-add, pow_pos}
use Rattle.std.proofs.lemmas.Nat.Bits.{bit_at-trailing_zeros}
use mir.Val.{bits}
use Rattle.nf_num.specs.Gcd.{gcd}
use Rattle.nf_num.proofs.Gcd.{gcd_comm, gcd-zero, gcd-mod, gcd-scale, gcd_bound}
use Rattle.nf_num.proofs.Reduce.{coprime-mul}
use Rattle.nf_frac.proofs.Reduced.{prime}

-- an odd number has nothing in common with a power of 2
odd_two : (x : ℕ) → x % 2 ≡ 1 → gcd x 2 ≡ 1
odd_two x h = sym (gcd-mod x 2) ∙ ap (gcd 2) h ∙ prime 2

odd_pow : (x k : ℕ) → x % 2 ≡ 1 → gcd x (2 ^ k) ≡ 1
odd_pow x zero h = prime x
odd_pow x (suc k) h = ap (gcd x) (let e : 2 ^ suc k ≡ 2 * 2 ^ k = omega (arith, pow-suc 2 k) in e) ∙ coprime-mul x 2 (2 ^ k) (odd_two x h) ∙ odd_pow x k h

-- so it keeps what it has in common with a number that loses its factors 2
pub without_twos : (x y r k : ℕ) → x % 2 ≡ 1 → y ≡ r * 2 ^ k → gcd x r ≡ gcd x y
without_twos x y r k h e = sym (ap (gcd x) (e ∙ (let c : r * 2 ^ k ≡ 2 ^ k * r = omega arith in c)) ∙ coprime-mul x (2 ^ k) r (odd_pow x k h))

-- and with a number that loses a smaller one
pub less_left : (x r : ℕ) → x ≤ r → gcd x (r - x) ≡ gcd x r
less_left x r h = gcd_comm x (r - x) ∙ sym (gcd-mod (r - x) x) ∙ ap (gcd x) (sym (mod-eq-sub-mod h)) ∙ gcd-mod r x ∙ gcd_comm r x

pub less_right : (x r : ℕ) → r ≤ x → gcd r (x - r) ≡ gcd x r
less_right x r h = less_left r x h ∙ gcd_comm r x

regroup : (q p : ℕ) → q * 2 * p ≡ q * (p * 2)
regroup q p = omega arith

-- a number whose k lowest bits are 0
pub low_zero : (n k : ℕ) → ((i : ℕ) → i < k → bit_at n i ≡ 0) → n ≡ n / 2 ^ k * 2 ^ k
low_zero n zero h = omega arith
low_zero n (suc k) h =
    let below : n ≡ n / 2 ^ k * 2 ^ k = low_zero n k (λ i l. h i (omega arith)) in
    let bit : n / 2 ^ k % 2 ≡ 0 = h k (omega arith) in
    let half : n / 2 ^ k ≡ n / 2 ^ k / 2 * 2 = omega arith in
    let over : n / 2 ^ k / 2 ≡ n / 2 ^ suc k = div-div-eq-div-mul n (2 ^ k) 2 ∙ ap (λ (m : ℕ). n / m) (sym (pow-suc 2 k)) in
    below ∙ ap (λ (m : ℕ). m * 2 ^ k) (half ∙ ap (λ (m : ℕ). m * 2) over) ∙ regroup (n / 2 ^ suc k) (2 ^ k) ∙ ap (λ (m : ℕ). n / 2 ^ suc k * m) (sym (pow-suc 2 k))

-- what is left of a number without its factors 2, and that it is odd
pub odd_part : (w : Width) (n : ℕ) → 0 < n → n < 2 ^ bits w → n ≡ n / 2 ^ trailing_zeros w n * 2 ^ trailing_zeros w n
odd_part w n h k = low_zero n (trailing_zeros w n) (bit_at-trailing_zeros w n h k).2

pub odd_part_odd : (w : Width) (n : ℕ) → 0 < n → n < 2 ^ bits w → n / 2 ^ trailing_zeros w n % 2 ≡ 1
odd_part_odd w n h k = (bit_at-trailing_zeros w n h k).1

pub odd_shift : (w : Width) (n : ℕ) → 0 < n → n < 2 ^ bits w → trailing_zeros w n < bits w
odd_shift w n h k = (bit_at-trailing_zeros w n h k).0

-- a step: y loses its factors 2, and the lesser of it and x is taken from the greater
pub keeps_left : (w : Width) (x y : ℕ) → x % 2 ≡ 1 → 0 < y → y < 2 ^ bits w → x ≤ y / 2 ^ trailing_zeros w y → gcd x (y / 2 ^ trailing_zeros w y - x) ≡ gcd x y
keeps_left w x y h p f l = less_left x (y / 2 ^ trailing_zeros w y) l ∙ without_twos x y (y / 2 ^ trailing_zeros w y) (trailing_zeros w y) h (odd_part w y p f)

pub keeps_right : (w : Width) (x y : ℕ) → x % 2 ≡ 1 → 0 < y → y < 2 ^ bits w → y / 2 ^ trailing_zeros w y ≤ x → gcd (y / 2 ^ trailing_zeros w y) (x - y / 2 ^ trailing_zeros w y) ≡ gcd x y
keeps_right w x y h p f l = less_right x (y / 2 ^ trailing_zeros w y) l ∙ without_twos x y (y / 2 ^ trailing_zeros w y) (trailing_zeros w y) h (odd_part w y p f)

-- the factors 2 that two numbers have in common
twos_left : (x r s d : ℕ) → x % 2 ≡ 1 → gcd (x * 2 ^ s) (r * 2 ^ (s + d)) ≡ gcd x r * 2 ^ s
twos_left x r s d h =
    ap (gcd (x * 2 ^ s)) (ap (λ (p : ℕ). r * p) (pow-add 2 s d) ∙ swap r (2 ^ s) (2 ^ d)) ∙ gcd-scale x (r * 2 ^ d) (2 ^ s) (pow_pos s)
    ∙ ap (λ (g : ℕ). g * 2 ^ s) (sym (without_twos x (r * 2 ^ d) r d h (omega arith)))
  where
    swap : (r p q : ℕ) → r * (p * q) ≡ r * q * p
    swap r p q = omega arith

pub common_twos : (x r s t : ℕ) → x % 2 ≡ 1 → r % 2 ≡ 1 → gcd x r * 2 ^ min s t ≡ gcd (x * 2 ^ s) (r * 2 ^ t)
common_twos x r s t h k = ⊎_elim (λ l. left (omega arith)) right (cases_lt s t)
  where
    left : s ≤ t → gcd x r * 2 ^ min s t ≡ gcd (x * 2 ^ s) (r * 2 ^ t)
    left l = ap (λ (m : ℕ). gcd x r * 2 ^ m) (let e : min s t ≡ s = omega arith in e) ∙ sym (twos_left x r s (t - s) h) ∙ ap (λ (m : ℕ). gcd (x * 2 ^ s) (r * 2 ^ m)) (let e : s + (t - s) ≡ t = omega arith in e)

    right : t ≤ s → gcd x r * 2 ^ min s t ≡ gcd (x * 2 ^ s) (r * 2 ^ t)
    right l = ap₂ (λ (g m : ℕ). g * 2 ^ m) (gcd_comm x r) (let e : min s t ≡ t = omega arith in e) ∙ sym (twos_left r x t (s - t) k) ∙ gcd_comm (r * 2 ^ t) (x * 2 ^ (t + (s - t))) ∙ ap (λ (m : ℕ). gcd (x * 2 ^ m) (r * 2 ^ t)) (let e : t + (s - t) ≡ s = omega arith in e)

-- what the code computes of two numbers above 0, and that it fits
pub by_twos : (w : Width) (a b g : ℕ) → 0 < a → a < 2 ^ bits w → 0 < b → b < 2 ^ bits w → g ≡ gcd (a / 2 ^ trailing_zeros w a) (b / 2 ^ trailing_zeros w b) → g * 2 ^ min (trailing_zeros w a) (trailing_zeros w b) ≡ gcd a b
by_twos w a b g pa fa pb fb e =
    ap (λ (n : ℕ). n * 2 ^ min (trailing_zeros w a) (trailing_zeros w b)) e
    ∙ common_twos (a / 2 ^ trailing_zeros w a) (b / 2 ^ trailing_zeros w b) (trailing_zeros w a) (trailing_zeros w b) (odd_part_odd w a pa fa) (odd_part_odd w b pb fb)
    ∙ ap₂ gcd (sym (odd_part w a pa fa)) (sym (odd_part w b pb fb))

pub shifted : (w : Width) (a b g : ℕ) → 0 < a → a < 2 ^ bits w → 0 < b → b < 2 ^ bits w → g ≡ gcd (a / 2 ^ trailing_zeros w a) (b / 2 ^ trailing_zeros w b) → g * 2 ^ min (trailing_zeros w a) (trailing_zeros w b) % 2 ^ bits w ≡ gcd a b
shifted w a b g pa fa pb fb e = ap (λ (n : ℕ). n % 2 ^ bits w) (by_twos w a b g pa fa pb fb e) ∙ mod-eq_of_lt (lt_of_le_of_lt (gcd_bound a b pb) fb)

-- numbers that are 1, 0 or equal
pub with_one : (a b : ℕ) → b ≡ 1 → 1 ≡ gcd a b
with_one a b e = sym (ap (gcd a) e ∙ prime a)

pub one_with : (a b : ℕ) → a ≡ 1 → 1 ≡ gcd a b
one_with a b e = with_one b a e ∙ gcd_comm b a

pub with_zero : (a b : ℕ) → b ≡ 0 → a ≡ gcd a b
with_zero a b e = sym (gcd-zero a b e)

pub zero_with : (a b : ℕ) → a ≡ 0 → b ≡ gcd a b
zero_with a b e = with_zero b a e ∙ gcd_comm b a

pub with_same : (a b : ℕ) → a ≡ b → b ≡ gcd a b
with_same a b e = with_zero b (b % b) (mod_self b) ∙ gcd-mod b b ∙ ap (λ (n : ℕ). gcd n b) (sym e)

-- a number by its rest
pub by_rest : (x y : ℕ) → gcd x (y % x) ≡ gcd x y
by_rest x y = gcd-mod y x ∙ gcd_comm y x
