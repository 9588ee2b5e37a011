-- Working definitions, on which the promise of `read_saved` does not rest: the state of places and signs that were read, and
-- how much of it has been made.
use Rattle.std.specs.Prelude.{◌≡◌, ◌≢◌, ℕ, ◌<◌, Bool, List, [], length, map, slice_index_or, false}
use Rattle.nf_model.specs.Program.{LinearProgram}
use Rattle.nf_simplex.specs.Place as model
use Rattle.nf_simplex.specs.Place.{count_basic}
use Rattle.nf_simplex.specs.Standing.{Standing, is_negative, place_at}
use Rattle.nf_basis.specs.Kept.{IsStateOf, Kept}
use Rattle.nf_basis.specs.Names.{place_of, stage_by}
use Rattle.nf_basis.specs.declared.col.Place.{Place}
use Rattle.nf_saved.specs.declared.fault.SavedArtificial.{SavedArtificial}

-- The state of a stage with these places and these artificials.
abbrev pub standing_of : Bool → List Place → List SavedArtificial → Standing
standing_of two places artificials = record { stage = stage_by two; places = map place_of places; negative = map (λ a. a.negative) artificials }

-- How many of the places are those of basic columns.
abbrev pub count_of : List Place → ℕ
count_of places = count_basic (length places) (place_at (standing_of false places []))

-- One state has the stage and the signs of another, and at one column another place.
pub record HasPlace (p : LinearProgram) (old new : Kept) (j : ℕ) (here : model.Place) : Type 0 where
  pub state : IsStateOf p new
  pub stage : new.standing.stage ≡ old.standing.stage
  pub signs : new.standing.negative ≡ old.standing.negative
  pub placed : place_at new.standing j ≡ here
  pub others : (k : ℕ) → k ≢ j → place_at new.standing k ≡ place_at old.standing k

-- The first so many columns have their places.
pub record HasPlaces (p : LinearProgram) (old new : Kept) (i : ℕ) (places : List Place) : Type 0 where
  pub state : IsStateOf p new
  pub stage : new.standing.stage ≡ old.standing.stage
  pub signs : new.standing.negative ≡ old.standing.negative
  pub placed : (j : ℕ) → j < i → place_at new.standing j ≡ slice_index_or (map place_of places) j model.Absent

-- The first so many artificials have their signs.
pub record HasSigns (p : LinearProgram) (old new : Kept) (i : ℕ) (artificials : List SavedArtificial) : Type 0 where
  pub state : IsStateOf p new
  pub stage : new.standing.stage ≡ old.standing.stage
  pub places : new.standing.places ≡ old.standing.places
  pub many : length new.standing.negative ≡ length old.standing.negative
  pub signed : (r : ℕ) → r < i → is_negative new.standing r ≡ slice_index_or (map (λ a. a.negative) artificials) r false
