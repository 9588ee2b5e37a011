-- Worked examples of `ring` and `linear_le`, to be read beside Field.antt and Linear.antt. No other file needs them.
-- The list names the atoms; `search codes` writes the sides over them; `refl` and `tt` compare by computing.
use Rattle.std.proofs.Common.{◌≡◌, refl, [], ◌∷◌, pos}
use Rattle.nf_num.specs.Rational.{ℚ, of_ℤ, ◌+ℚ◌, ◌*ℚ◌, ◌-ℚ◌, zero_ℚ, one_ℚ, ◌≤ℚ◌, ◌<ℚ◌}
use Rattle.nf_num.proofs.Field as field
use Rattle.nf_num.proofs.Linear.{linear_le, linear_lt, linear_absurd, codes, le, lt, eq, qe}
use Rattle.nf_num.proofs.Laws.{mul_nonneg}

-- an equation of sums and products
square_difference : (x y : ℚ) → (x +ℚ y) *ℚ (x -ℚ y) ≡ x *ℚ x -ℚ y *ℚ y
square_difference x y = field.ring (x ∷ y ∷ []) (search field.codes depth 12) refl

-- facts of either order
sum_less : (x y z : ℚ) → x ≤ℚ y → y <ℚ z → x +ℚ y <ℚ z +ℚ z
sum_less x y z h k = linear_lt (x ∷ y ∷ z ∷ []) (le h ∷ lt k ∷ []) (search codes depth 12) tt

-- an equation among the facts is handed over in both directions
with_equation : (a b c d : ℚ) → a +ℚ b ≤ℚ c → c ≡ d -ℚ b → b ≤ℚ zero_ℚ → a +ℚ b ≤ℚ d +ℚ one_ℚ -ℚ b
with_equation a b c d h e k = linear_le (a ∷ b ∷ c ∷ d ∷ []) (le h ∷ eq e ∷ qe e ∷ le k ∷ []) (search codes depth 12) tt

-- facts that cannot all hold
no_sum : (x y : ℚ) → zero_ℚ ≤ℚ x → zero_ℚ <ℚ y → x +ℚ y ≤ℚ zero_ℚ → ⊥
no_sum x y h k m = linear_absurd (x ∷ y ∷ []) (le h ∷ lt k ∷ le m ∷ []) (search codes depth 12) tt

-- a product of atoms is an atom: the fact about the product is handed over
rearranged : (c x d u : ℚ) → zero_ℚ ≤ℚ c -ℚ d → zero_ℚ ≤ℚ x -ℚ u → d *ℚ x +ℚ c *ℚ u ≤ℚ c *ℚ x +ℚ d *ℚ u
rearranged c x d u h k = linear_le (c ∷ x ∷ d ∷ u ∷ []) (le (mul_nonneg (c -ℚ d) (x -ℚ u) h k) ∷ []) (search codes depth 12) tt

-- whole coefficients; deep terms want more depth
weighted : (a b : ℚ) → of_ℤ (pos 2) *ℚ a +ℚ of_ℤ (pos 3) *ℚ b ≤ℚ of_ℤ (pos 12) → of_ℤ (pos 3) *ℚ a -ℚ of_ℤ (pos 2) *ℚ b ≤ℚ of_ℤ (pos 5) → of_ℤ (pos 13) *ℚ a ≤ℚ of_ℤ (pos 39)
weighted a b h k = linear_le (a ∷ b ∷ []) (le h ∷ le k ∷ []) (search codes depth 16 fits 4000) tt
