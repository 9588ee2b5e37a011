-- Decimal digits: what the texts of amounts and of fractions are made of.
-- What `read_amount` and `read_frac` promise rests on these words.
use Rattle.std.specs.Prelude.{ℕ, ◌&&◌, Bool, false, List, [], ◌∷◌, length}
use Rattle.std.specs.Bool.{nat_lt}
use Rattle.std.specs.List.{list_all}
use Rattle.std.specs.Char.{is_ascii_digit}
use Rattle.std.specs.Str.Parse.{digits_value}

-- One digit or more.
abbrev pub are_digits : List ℕ → Bool
are_digits ds = nat_lt 0 (length ds) && list_all is_ascii_digit ds

-- Digits without leading zeros: 48 is `0`.
abbrev pub is_numeral : List ℕ → Bool
is_numeral [] = false
is_numeral (d ∷ []) = is_ascii_digit d
is_numeral (d ∷ e ∷ ds) = nat_lt 48 d && list_all is_ascii_digit (d ∷ e ∷ ds)

-- The number that digits write.
abbrev pub decimal_value : List ℕ → ℕ
decimal_value ds = digits_value 10 ds
