-- The places of the state in which nothing is basic.
-- `State::new` makes them.
use Rattle.std.specs.Prelude.{◌≡◌, ℕ, ◌<◌, Bool, List, length, slice_index_or}
use Rattle.nf_model.specs.Program.{LinearProgram}
use Rattle.nf_simplex.specs.Layout.{layout_of}
use Rattle.nf_simplex.specs.Columns.{all_columns, col_at, col_lower, col_upper}
use Rattle.nf_simplex.specs.StageOf.{IsPresent}
use Rattle.nf_simplex.specs.Starts.{nonarc_place}
use Rattle.nf_basis.specs.declared.col.Place.{Place}
use Rattle.nf_basis.specs.declared.col.Place.TheVariants.{Absent}
use Rattle.nf_basis.specs.Names.{place_of, stage_by}

-- The place of the column with number j: where it is present, its lower bound, else its upper bound, else zero. Only
-- nonarc variables may lack a lower bound.
pub record IsRestingAt (p : LinearProgram) (two : Bool) (place : Place) (j : ℕ) : Type 0 where
  pub present : IsPresent (layout_of p) (stage_by two) (col_at (layout_of p) j) → place_of place ≡ nonarc_place (col_lower (layout_of p) (col_at (layout_of p) j)) (col_upper (layout_of p) (col_at (layout_of p) j))
  pub absent : (IsPresent (layout_of p) (stage_by two) (col_at (layout_of p) j) → ⊥) → place ≡ Absent

-- So are the places of all columns.
pub record AreResting (p : LinearProgram) (two : Bool) (places : List Place) : Type 0 where
  pub one_each : length places ≡ all_columns (layout_of p)
  pub each : (j : ℕ) → j < all_columns (layout_of p) → IsRestingAt p two (slice_index_or places j Absent) j
