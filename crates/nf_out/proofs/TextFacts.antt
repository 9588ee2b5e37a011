-- The text of a fraction is UTF-8, and where the cell of an ID column stands.
use Rattle.std.proofs.Common.{◌≡◌, ◌<◌, ◌+◌, ◌*◌, ◌^◌, ◌==◌, ◌∷◌, ◌++◌, ℕ, zero, suc, List, [], inl, inr, arith, ℤ, pos, negsuc, decimal}
use Rattle.std.specs.Fmt.{signed_decimal}
use Rattle.std.specs.Prelude.{slice_index}
use Rattle.std.specs.Str.{IsUtf8}
use Rattle.std.proofs.lemmas.Bool.{cases_Bool}
use Rattle.std.proofs.lemmas.Fmt.{IsAscii-decimal_wide}
use Rattle.std.proofs.lemmas.Str.{IsUtf8-append, IsUtf8-from_ascii}
use Rattle.nf_num.specs.Rational.{ℚ, denom, numer}
use Rattle.nf_frac.specs.Range.{InRange}
use Rattle.nf_frac.specs.Texts.{frac_text}

pub decimal-utf8 : (n : ℕ) → n < 2 ^ 127 + 1 → IsUtf8 (decimal n)
decimal-utf8 n h = IsUtf8-from_ascii (decimal n) (IsAscii-decimal_wide n (omega (arith, h)))

mark-utf8 : (b : ℕ) → b < 128 → IsUtf8 (b ∷ [])
mark-utf8 b h = IsUtf8-from_ascii (b ∷ []) of
  where
    of : (i : ℕ) → slice_index (b ∷ []) i < 128
    of zero = h
    of (suc i) = omega arith

signed-utf8 : (z : ℤ) → InRange z → IsUtf8 (signed_decimal z)
signed-utf8 (pos n) h = let small : n < 2 ^ 127 = h in decimal-utf8 n (omega (arith, small))
signed-utf8 (negsuc n) h = let small : suc n < 2 ^ 127 = h in IsUtf8-append (45 ∷ []) (decimal (suc n)) (mark-utf8 45 (omega arith)) (decimal-utf8 (suc n) (omega (arith, small)))

pub frac-utf8 : (x : ℚ) → InRange (numer x) → denom x < 2 ^ 127 → IsUtf8 (frac_text x)
unfolding frac_text
frac-utf8 x a b = elim (cases_Bool (denom x == 1)) [
  | inl whole ↦ rw whole (signed-utf8 (numer x) a)
  | inr other ↦ rw other (IsUtf8-append (signed_decimal (numer x)) (47 ∷ decimal (denom x)) (signed-utf8 (numer x) a)
      (IsUtf8-append (47 ∷ []) (decimal (denom x)) (mark-utf8 47 (omega arith)) (decimal-utf8 (denom x) (omega (arith, b)))))
]

-- The cell of an arc in an ID column is one of all cells.
pub id-there : (k own h c n : ℕ) → k < own → c < h → n ≡ own * h → k * h + c < n
id-there k own h c n a b e = grind (arith, a, b, e)
