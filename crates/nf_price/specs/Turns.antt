-- The order in which columns are looked at: from the one after the cursor to the last, and then those before.
-- What a scan has found is said by it.
use Rattle.std.specs.Prelude.{◌≡◌, ◌⊎◌, ℕ, suc, ◌+◌, ◌-◌, ◌<◌, ◌≤◌, cond, ltb}

-- The first column looked at, of so many: the one after the cursor, and none if the cursor is past all.
abbrev pub IsStart : ℕ → ℕ → ℕ → Type 0
IsStart cursor count from = (from ≤ count) × ((from ≡ cursor) ⊎ ((from ≡ count) × (from ≤ cursor)))

-- The column that is looked at after t others.
abbrev pub in_turn : ℕ → ℕ → ℕ → ℕ
in_turn from count t = cond (ltb t (count - from)) (from + t) (t - (count - from))

-- n is the number, from 1, of a column looked at before place t.
abbrev pub IsSeen : ℕ → ℕ → ℕ → ℕ → Type 0
IsSeen from count t n = (u : ℕ) × (u < t) × (n ≡ suc (in_turn from count u))
