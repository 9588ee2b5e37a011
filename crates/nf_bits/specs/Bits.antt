-- Sets of numbers as the bits of words.
-- The contracts of `BitSet` rest on it; what others promise does not speak of it.
use Rattle.std.specs.Prelude.{◌/◌, ◌%◌, ◌^◌, ℕ, Bool, List, get_or, set, nat_eq, bit_or}
use Rattle.std.specs.Int.{bit_at}

-- A set has a number where its bit is 1, in words of 64 bits.
abbrev pub has_number : List ℕ → ℕ → Bool
has_number words n = nat_eq (bit_at (get_or words (n / 64) 0) (n % 64)) 1

-- The set with one more number.
abbrev pub with_number : List ℕ → ℕ → List ℕ
with_number words n = set words (n / 64) (bit_or (get_or words (n / 64) 0) (2 ^ (n % 64)))
