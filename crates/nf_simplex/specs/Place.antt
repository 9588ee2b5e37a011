-- Where the columns of a state stand, and how many are basic.
-- What a basis is, and every step of the simplex method, rests on it.
use Rattle.std.specs.Prelude.{◌≡◌, ℕ, zero, suc, ◌+◌, Bool, true, false}

-- A column stands at its lower bound, at its upper bound, at zero where it has no bound, or among the basic ones; one
-- that its stage lacks is absent.
pub data Place : Type 0 where
  Lower : Place
  Upper : Place
  Zero : Place
  Absent : Place
  Basic : Place

-- A place is a bound.
abbrev pub IsBound : Place → Type 0
IsBound Lower = Unit {0}
IsBound Upper = Unit {0}
IsBound Zero = ⊥
IsBound Absent = ⊥
IsBound Basic = ⊥

-- One place is a bound, and the other place the other bound.
abbrev pub IsOtherBound : Place → Place → Type 0
IsOtherBound Lower to = to ≡ Upper
IsOtherBound Upper to = to ≡ Lower
IsOtherBound Zero to = ⊥
IsOtherBound Absent to = ⊥
IsOtherBound Basic to = ⊥

-- A column moves down from its upper bound, and else up.
abbrev pub goes_down : Place → Bool
goes_down Lower = false
goes_down Upper = true
goes_down Zero = false
goes_down Absent = false
goes_down Basic = false

-- What a place adds to the number of basic columns.
abbrev pub one_if_basic : Place → ℕ
one_if_basic Lower = 0
one_if_basic Upper = 0
one_if_basic Zero = 0
one_if_basic Absent = 0
one_if_basic Basic = 1

-- How many of the first n columns are basic.
abbrev pub count_basic : ℕ → (ℕ → Place) → ℕ
count_basic zero s = 0
count_basic (suc n) s = count_basic n s + one_if_basic (s n)
