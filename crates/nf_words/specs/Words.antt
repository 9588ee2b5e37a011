-- Words with their kinds, and looking one up without regard to ASCII case. That a table gives the one kind
-- of a word, or none, rests on it.
use Rattle.std.specs.Prelude.{◌≡◌, ℕ, Bool, true, ◌&&◌, not, nat_eq, List, [], ◌∷◌, map, Option, Some, None, if◌then◌else◌, ◌++◌}
use Rattle.std.specs.Char.{to_ascii_lowercase}
use Rattle.std.specs.Str.{str_eq_ignore_ascii_case}

-- a spelling, and the number of its kind
pub record Word : Type 0 where
  pub spelling : List ℕ
  pub kind : ℕ

-- Two words agree if they are one without regard to ASCII case.
abbrev pub Agree : List ℕ → List ℕ → Type 0
Agree a b = map to_ascii_lowercase a ≡ map to_ascii_lowercase b

-- The kind of the first spelling that agrees with the word.
abbrev pub find_word : List Word → List ℕ → Option ℕ
find_word [] w = None
find_word (x ∷ xs) w = if str_eq_ignore_ascii_case x.spelling w then Some x.kind else find_word xs w

-- The first spelling of the kind.
abbrev pub first_spelling : List Word → ℕ → Option (List ℕ)
first_spelling [] k = None
first_spelling (x ∷ xs) k = if nat_eq x.kind k then Some x.spelling else first_spelling xs k

-- No spelling of the list agrees with the word.
abbrev pub is_new : List ℕ → List Word → Bool
is_new w [] = true
is_new w (x ∷ xs) = not (str_eq_ignore_ascii_case x.spelling w) && is_new w xs

-- The test of a table: no spelling agrees with a later one.
abbrev pub is_table : List Word → Bool
is_table [] = true
is_table (x ∷ xs) = is_new x.spelling xs && is_table xs

-- No two spellings of the list, wherever they stand, agree.
abbrev pub NoTwoAgree : List Word → Type 0
NoTwoAgree xs = (a b c : List Word) (x y : Word) → xs ≡ a ++ x ∷ (b ++ y ∷ c) → Agree x.spelling y.spelling → ⊥
