-- What a cell of a table says: its value, whether it is missing, whether it is a name.
-- The readers of all data sets rest on these words.
use Rattle.std.specs.Prelude.{◌==◌, ◌&&◌, ◌||◌, nat_eq, ℕ, Bool, List, [], ◌∷◌, length, if◌then◌else◌, codes}
use Rattle.std.specs.Bool.{nat_le}
use Rattle.std.specs.List.{list_all, list_any}
use Rattle.std.specs.Char.{is_ascii_alphanumeric}
use Rattle.std.specs.Str.{bytes_eq}

-- The ASCII space is byte 32.
abbrev pub is_space : ℕ → Bool
is_space b = b == 32

-- The bytes from the first that is no space.
abbrev pub trim_start : List ℕ → List ℕ
trim_start [] = []
trim_start (x ∷ xs) = if is_space x then trim_start xs else x ∷ xs

-- The bytes up to the last that is no space.
abbrev pub trim_end : List ℕ → List ℕ
trim_end [] = []
trim_end (x ∷ xs) = if list_all is_space (x ∷ xs) then [] else x ∷ trim_end xs

-- The value of a cell is its bytes without the spaces at both ends.
abbrev pub value_of : List ℕ → List ℕ
value_of cell = trim_end (trim_start cell)

-- A value is missing where it is empty or a single point.
abbrev pub is_blank : List ℕ → Bool
is_blank value = bytes_eq value [] || bytes_eq value (codes ".")

-- A name has ASCII letters, digits, `_`, spaces, points and `-`,
abbrev pub is_name_byte : ℕ → Bool
is_name_byte b = is_ascii_alphanumeric b || list_any (nat_eq b) (codes "_ .-")

-- and 1 to 32 of them.
abbrev pub is_name : List ℕ → Bool
is_name bytes = nat_le 1 (length bytes) && nat_le (length bytes) 32 && list_all is_name_byte bytes
