-- The lines of a text and the fields of a line.
-- All that `read_dimacs` promises rests on it: a line counts even if it says nothing.
use Rattle.std.specs.Prelude.{ℕ, ◌-◌, ◌==◌, ◌||◌, Bool, List, [], ◌∷◌, length, take, get_or, if◌then◌else◌}
use Rattle.std.specs.List.{flat_map, slice_split}

-- A line feed.
abbrev pub is_feed : ℕ → Bool
is_feed b = b == 10

-- A space or a tab.
abbrev pub is_blank : ℕ → Bool
is_blank b = b == 32 || b == 9

-- A list of one piece, and of none if the piece has no bytes.
abbrev pub with_bytes : List ℕ → List (List ℕ)
with_bytes [] = []
with_bytes (b ∷ bs) = (b ∷ bs) ∷ []

-- Bytes without a carriage return at their end.
abbrev pub without_return : List ℕ → List ℕ
without_return bs = if get_or bs (length bs - 1) 0 == 13 then take (length bs - 1) bs else bs

-- The lines that pieces between line feeds make: a carriage return before the line feed is no part of a line, and after
-- the last line feed there is a line only if there are bytes.
abbrev pub lines_between : List (List ℕ) → List (List ℕ)
lines_between [] = []
lines_between (piece ∷ []) = with_bytes piece
lines_between (piece ∷ next ∷ pieces) = without_return piece ∷ lines_between (next ∷ pieces)

-- The lines of a text.
unfoldable pub lines_of : List ℕ → List (List ℕ)
lines_of text = lines_between (slice_split is_feed text)

-- The fields of a line: the pieces between spaces and tabs that have bytes.
unfoldable pub fields_of : List ℕ → List (List ℕ)
fields_of line = flat_map with_bytes (slice_split is_blank line)
