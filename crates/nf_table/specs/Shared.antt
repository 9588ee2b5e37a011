-- This file serves a proof alone: the places of names among many, and which places several names have.
-- Only the proof that a repeated column is found in little memory rests on it; which one that is stands in Reading.antt.
use Rattle.std.specs.Prelude.{◌≡◌, ◌+◌, ◌*◌, ◌%◌, ◌^◌, ◌<◌, ℕ, true, List, fold, nat_eq}
use Rattle.std.specs.List.{count_by}
use Rattle.std.specs.Str.{str_to_ascii_lowercase}
use Rattle.nf_bits.specs.Bits.{has_number}
use Rattle.nf_table.specs.Grid.{Cells}

-- A hash with one more byte.
abbrev pub with_byte : ℕ → ℕ → ℕ
with_byte hash byte = (hash * 31 % 2 ^ 64 + byte) % 2 ^ 64

-- The place of a name among so many, by its small letters: names that are the same have the same.
abbrev pub place_of : ℕ → List ℕ → ℕ
place_of places name = fold with_byte 0 (str_to_ascii_lowercase name) % places

-- How many of some names have a place.
abbrev pub times_at : ℕ → ℕ → Cells → ℕ
times_at places p names = count_by (λ name. nat_eq p (place_of places name)) names

-- A set has each place that one of the names has.
abbrev pub AreMet : List ℕ → ℕ → Cells → Type 0
AreMet words places names = (p : ℕ) → 0 < times_at places p names → has_number words p ≡ true

-- A set has each place that several of the names have.
abbrev pub AreShared : List ℕ → ℕ → Cells → Type 0
AreShared words places names = (p : ℕ) → 1 < times_at places p names → has_number words p ≡ true
