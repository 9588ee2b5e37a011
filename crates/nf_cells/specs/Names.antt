-- Lists of names, each once, and where a name stands in one.
-- The numbers of nodes, arcs and rows rest on these words: a name's number is its place in the order of first appearance.
use Rattle.std.specs.Prelude.{◌++◌, ℕ, Bool, true, not, ◌&&◌, List, [], ◌∷◌, Option, filter, position, if◌then◌else◌}
use Rattle.std.specs.List.{list_any, position_or_len}
use Rattle.std.specs.Str.{bytes_eq}

-- A name is its bytes.
abbrev pub Name : Type 0
Name = List ℕ

-- Whether a name is in a list.
abbrev pub has_name : Name → List Name → Bool
has_name name names = list_any (bytes_eq name) names

-- Where a name stands in a list, if it does, counted from 0.
abbrev pub number_of : Name → List Name → Option ℕ
number_of name names = position (bytes_eq name) names

-- Where a name stands in a list, or the list's length.
abbrev pub place_of : Name → List Name → ℕ
place_of name names = position_or_len (bytes_eq name) names

-- The names and this one, at the end if it is new.
abbrev pub with_name : List Name → Name → List Name
with_name names name = if has_name name names then names else names ++ name ∷ []

-- Each name of a list once, where it first stands.
unfoldable pub first_seen : List Name → List Name
first_seen [] = []
first_seen (n ∷ ns) = n ∷ filter (λ m. not (bytes_eq n m)) (first_seen ns)

-- Each name of a list stands once.
unfoldable pub is_once : List Name → Bool
is_once [] = true
is_once (k ∷ ks) = not (has_name k ks) && is_once ks
