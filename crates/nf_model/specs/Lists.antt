-- Lists of numbers made from functions of a place.
-- The values and duals of a certificate are such lists.
use Rattle.std.specs.Prelude.{ℕ, List, map}
use Rattle.std.specs.List.{range_with_len}
use Rattle.nf_num.specs.Rational.{ℚ}

-- The list of f 0, .., f (n - 1).
unfoldable pub list_of : ℕ → (ℕ → ℚ) → List ℚ
list_of n f = map f (range_with_len 0 n)
