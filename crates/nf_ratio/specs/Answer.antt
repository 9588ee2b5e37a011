-- What the answers of the ratio test say of a state and a column that enters.
-- `limit` promises it.
use Rattle.std.specs.Prelude.{ℕ, ◌<◌, List, Bool}
use Rattle.nf_model.specs.Program.{LinearProgram}
use Rattle.nf_simplex.specs.Place as model
use Rattle.nf_simplex.specs.Changes.{exchanged, flipped}
use Rattle.nf_simplex.specs.Moves.{CanEnterIn, HasNoNext, IsNextOf}
use Rattle.nf_simplex.specs.Standing.{Standing, rows_of}
use Rattle.nf_basis.specs.declared.col.Col.{Col}
use Rattle.nf_basis.specs.Names.{col_of, place_of}
use Rattle.nf_basis.specs.Kept.{CanFlip, IsBoundOf, IsNonbasic}
use Rattle.nf_basis.specs.Numbers.{HasEntryAt, in_slot}
use Rattle.nf_ratio.specs.declared.answer.Limit.{Limit}
use Rattle.nf_ratio.specs.declared.answer.Limit.TheVariants.{Leave, Flip, Ray}

-- A nonbasic column can enter in this direction.
pub record CanMove (p : LinearProgram) (s : Standing) (c : Col) (down : Bool) : Type 0 where
  pub nonbasic : IsNonbasic p s c
  pub enters : CanEnterIn p s (col_of c) down

-- The column in a slot leaves, to a bound that it has: c can become basic there, and that gives the next state.
pub record LeavesAt (p : LinearProgram) (s : Standing) (slots : List Col) (c : Col) (down : Bool) (slot : ℕ) (to : model.Place) : Type 0 where
  pub within : slot < rows_of p s
  pub entry : HasEntryAt p s slots c slot
  pub bound : IsBoundOf p (in_slot slots slot) to
  pub next : IsNextOf p s (col_of c) down (exchanged p s (col_of c) (col_of (in_slot slots slot)) to)

-- Column c can go to its other bound, and that gives the next state.
pub record Flips (p : LinearProgram) (s : Standing) (c : Col) (down : Bool) : Type 0 where
  pub can : CanFlip p s c
  pub next : IsNextOf p s (col_of c) down (flipped p s (col_of c))

-- What an answer says of the move of c in this direction: who leaves and where it goes, that c flips, or that there is
-- no next state.
abbrev pub IsLimitOf : LinearProgram → Standing → List Col → Col → Bool → Limit → Type 0
IsLimitOf p s slots c down (Leave slot to) = LeavesAt p s slots c down slot (place_of to)
IsLimitOf p s slots c down Flip = Flips p s c down
IsLimitOf p s slots c down Ray = HasNoNext p s (col_of c) down
