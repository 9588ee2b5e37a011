-- What a read of a whole source took and what a write of a whole piece put, and how far their loops have come. That
-- an error loses no more than it says rests on it.
use Rattle.std.specs.Prelude.{Bool, true, ◌≡◌, ◌≤◌, ◌+◌, ℕ, List, Option, length, take}
use Rattle.std.specs.Option.{is_some}
use Rattle.std.specs.Io.KnownBytes.{Appends, Consumes}

-- At most so many bytes were taken from a source.
abbrev pub TookAtMost : ℕ → Option (List ℕ) → Option (List ℕ) → Type 0
TookAtMost most old new = (bytes : List ℕ) × (length bytes ≤ most) × Consumes old new bytes

-- One byte more than so many were taken from a source.
abbrev pub TookOneMore : ℕ → Option (List ℕ) → Option (List ℕ) → Type 0
TookOneMore most old new = (bytes : List ℕ) × (length bytes ≡ most + 1) × Consumes old new bytes

-- The first bytes of a piece were written, none to all of them.
abbrev pub PutPrefix : Option (List ℕ) → Option (List ℕ) → List ℕ → Type 0
PutPrefix old new piece = (n : ℕ) × (n ≤ length piece) × Appends old new (take n piece)

-- The first bytes of a piece are written, up to a place.
pub record WritesOn (calm still : Bool) (before now : ℕ) (old new : Option (List ℕ)) (at : ℕ) (piece : List ℕ) : Type 0 where
  pub later : before ≤ now
  pub quiet : still ≡ calm
  pub same : calm ≡ true → now ≡ before
  pub within : at ≤ length piece
  pub bytes : Appends old new (take at piece)
  pub told : is_some new ≡ is_some old

-- These bytes are taken from a source, at most so many.
pub record ReadsOn (calm still : Bool) (before now : ℕ) (old new : Option (List ℕ)) (bytes : List ℕ) (most : ℕ) : Type 0 where
  pub later : before ≤ now
  pub quiet : still ≡ calm
  pub same : calm ≡ true → now ≡ before
  pub within : length bytes ≤ most
  pub taken : Consumes old new bytes
  pub told : is_some new ≡ is_some old
