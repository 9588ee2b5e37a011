-- The numbers of a text: perhaps a `-`, and one to nine digits.
-- What the lines say rests on it.
use Rattle.std.specs.Prelude.{ℕ, ◌==◌, ◌&&◌, Bool, List, [], ◌∷◌, length, Option, Some, None, ℤ, pos, neg_ℤ, if◌then◌else◌}
use Rattle.std.specs.Bool.{nat_le}
use Rattle.std.specs.Option.{option_map}
use Rattle.nf_frac.specs.Digits.{are_digits, decimal_value}

-- One to nine digits.
abbrev pub are_short_digits : List ℕ → Bool
are_short_digits ds = are_digits ds && nat_le (length ds) 9

-- The number that one to nine digits write.
abbrev pub magnitude_of : List ℕ → Option ℕ
magnitude_of ds = if are_short_digits ds then Some (decimal_value ds) else None

-- The number that a field writes, if it is one: 45 is `-`.
unfoldable pub number_of : List ℕ → Option ℤ
number_of [] = None
number_of (b ∷ bs) = if b == 45 then option_map (λ n. neg_ℤ (pos n)) (magnitude_of bs) else option_map pos (magnitude_of (b ∷ bs))
