-- The first that is there of a row of answers.
-- "The first fault is reported" rests on it.
use Rattle.std.specs.Prelude.{ℕ, zero, suc, Option, Some, None}

-- An answer, or if there is none the next one.
abbrev pub or_else : {A : Type 0} → Option A → Option A → Option A
or_else None next = next
or_else (Some x) next = Some x

-- The first that is there of f 0, f 1 and so on, below n.
unfoldable pub first_below : {A : Type 0} → ℕ → (ℕ → Option A) → Option A
first_below zero f = None
first_below (suc n) f = or_else (first_below n f) (f n)
