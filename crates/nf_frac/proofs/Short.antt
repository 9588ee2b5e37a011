-- The product of two numbers of 64 bits, by the machine's multiplication.
use Rattle.std.proofs.Common.{◌≡◌, ℕ, ◌*◌, ◌<◌, ◌^◌, sym, ◌∙◌, ap, ap₂, subst, ℤ, ◌*ℤ◌, unsigned_abs, arith}
use Rattle.std.proofs.lemmas.Int.{unsigned_abs-mul, to_z-of_z, fits_signed_from_abs}
use Rattle.std.proofs.lemmas.Nat.{mul-lt}
use mir.Syntax.{w64, w128}
use mir.Val.{to_z, of_z}
use Rattle.nf_frac.specs.Range.{InRange}
use Rattle.nf_frac.proofs.Fields.{back, back_is}

small : (m n : ℕ) → m < 2 ^ 63 → n < 2 ^ 63 → m * n < 2 ^ 127
small m n h k = let l : m * n < 2 ^ 63 * 2 ^ 63 = mul-lt m n (2 ^ 63) (2 ^ 63) h k in omega arith

pub in_range : (a b : ℤ) → unsigned_abs a < 2 ^ 63 → unsigned_abs b < 2 ^ 63 → InRange (a *ℤ b)
in_range a b h k = subst (λ (n : ℕ). n < 2 ^ 127) (sym (unsigned_abs-mul a b)) (small (unsigned_abs a) (unsigned_abs b) h k)

half_range : (a : ℤ) → unsigned_abs a < 2 ^ 63 → InRange a
half_range a h = let l : unsigned_abs a < 2 ^ 127 = omega arith in l

-- a short number as the machine has it
as_short : (a : ℤ) → unsigned_abs a < 2 ^ 63 → to_z w64 (of_z w64 (to_z w128 (of_z w128 a))) ≡ a
as_short a h = ap (λ (z : ℤ). to_z w64 (of_z w64 z)) (back a (half_range a h)) ∙ to_z-of_z w64 a (fits_signed_from_abs w64 a h)

pub value : (a b u v : ℤ) → unsigned_abs a < 2 ^ 63 → unsigned_abs b < 2 ^ 63 → u ≡ to_z w64 (of_z w64 (to_z w128 (of_z w128 a))) → v ≡ to_z w64 (of_z w64 (to_z w128 (of_z w128 b)))
    → to_z w128 (of_z w128 (to_z w128 (of_z w128 u) *ℤ to_z w128 (of_z w128 v))) ≡ a *ℤ b
value a b u v h k e d = back_is (to_z w128 (of_z w128 u) *ℤ to_z w128 (of_z w128 v)) (a *ℤ b) (in_range a b h k) (ap₂ ◌*ℤ◌ (back_is u a (half_range a h) (e ∙ as_short a h)) (back_is v b (half_range b k) (d ∙ as_short b k)))
