-- Two places of an inverse that have changed places.
-- `rank_check` brings each column to its own place so.
use Rattle.std.specs.Prelude.{◌≡◌, ◌≢◌, ℕ, ◌<◌, List, length}
use Rattle.nf_num.specs.Rational.{ℚ}
use Rattle.nf_inverse.specs.Weights.{weight}

-- The weights of places a and b are exchanged, and all others are as they were.
pub record AreSwapped (old new : List (List ℚ)) (a b : ℕ) : Type 0 where
  pub first : (r : ℕ) → r < length old → weight new a r ≡ weight old b r
  pub second : (r : ℕ) → r < length old → weight new b r ≡ weight old a r
  pub others : (s r : ℕ) → s ≢ a → s ≢ b → weight new s r ≡ weight old s r
