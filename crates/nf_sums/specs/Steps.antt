-- What one step of a sum may pass at, and what a closure gives the sum.
-- The causes of `add_product`, `sub_product` and of the summing loops rest on these words.
use Rattle.std.specs.Prelude.{◌≡◌, ◌⊎◌, ℕ, ◌<◌}
use Rattle.nf_num.specs.Rational.{ℚ, ◌*ℚ◌}
use Rattle.nf_frac.specs.declared.Passed.{Passed}
use Rattle.nf_frac.specs.declared.Op.TheVariants.{Add, Sub, Mul}
use Rattle.nf_frac.specs.Range.{Passes}

-- The operation passes, and it is a * b, or the sum of the total and this product.
pub record AddsProduct (total a b : ℚ) (p : Passed) : Type 0 where
  pub passes : Passes p.op p.left p.right
  pub is_one : (p ≡ record { op = Mul; left = a; right = b }) ⊎ (p ≡ record { op = Add; left = total; right = a *ℚ b })

-- The operation passes, and it is a * b, or the total less this product.
pub record SubtractsProduct (total a b : ℚ) (p : Passed) : Type 0 where
  pub passes : Passes p.op p.left p.right
  pub is_one : (p ≡ record { op = Mul; left = a; right = b }) ⊎ (p ≡ record { op = Sub; left = total; right = a *ℚ b })

-- Each number below n gives the pair of a and b there.
abbrev pub Gives : (ℕ → ℚ × ℚ → Type 0) → ℕ → (ℕ → ℚ) → (ℕ → ℚ) → Type 0
Gives gives n a b = (k : ℕ) (t : ℚ × ℚ) → k < n → gives k t → (t.0 ≡ a k) × (t.1 ≡ b k)

-- Each number below n gives a there.
abbrev pub GivesNumber : (ℕ → ℚ → Type 0) → ℕ → (ℕ → ℚ) → Type 0
GivesNumber gives n a = (k : ℕ) (t : ℚ) → k < n → gives k t → t ≡ a k
