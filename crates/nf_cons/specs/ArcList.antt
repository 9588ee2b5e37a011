-- Working definitions, on which no promise of `dense` or `sparse` rests: the arcs by their names, as they are looked up.
-- The contracts of `ArcNames` rest on these words.
use Rattle.std.specs.Prelude.{◌≡◌, ◌+◌, ◌++◌, ℕ, true, false, List, [], ◌∷◌, Option, if◌then◌else◌, length, map, get_or, slice_set, option_map}
use Rattle.std.specs.Bool.{nat_lt}
use Rattle.nf_cells.specs.Names.{Name, first_seen, is_once, number_of, place_of, with_name}
use Rattle.nf_cons.specs.declared.found.NamedArc.{NamedArc}
use Rattle.nf_cons.specs.Variables.{is_shared}

-- Names, each once, with the arcs of each, and how many arcs there are.
pub record ArcList : Type 0 where
  pub names : List Name
  pub found : List NamedArc
  pub count : ℕ

abbrev pub no_arcs : ArcList
no_arcs = record { names = []; found = []; count = 0 }

abbrev pub no_arc : NamedArc
no_arc = record { number = 0; is_shared = false }

-- The arcs with one more: its name is shared, where it was there.
abbrev pub with_found : ArcList → Name → List NamedArc
with_found a n =
    if nat_lt (place_of n a.names) (length a.found)
    then slice_set a.found (place_of n a.names) (record { number = (get_or a.found (place_of n a.names) no_arc).number; is_shared = true })
    else a.found ++ record { number = a.count; is_shared = false } ∷ []

abbrev pub with_arc : ArcList → Name → ArcList
with_arc a n = record { names = with_name a.names n; found = with_found a n; count = a.count + 1 }

-- The arcs of a name, where there is one.
abbrev pub arc_named : ArcList → Name → Option NamedArc
arc_named a n = option_map (λ i. get_or a.found i no_arc) (number_of n a.names)

-- The first arc of a name, from 0, and whether there are more.
abbrev pub arc_in : List Name → Name → NamedArc
arc_in arcs n = record { number = place_of n arcs; is_shared = is_shared arcs n }

-- There is one arc for each name.
pub record IsEven (a : ArcList) : Type 0 where
  pub same_length : length a.found ≡ length a.names

-- These are the arcs of these names.
pub record AreArcs (arcs : List Name) (a : ArcList) : Type 0 where
  pub names : a.names ≡ first_seen arcs
  pub found : a.found ≡ map (arc_in arcs) a.names
  pub count : a.count ≡ length arcs
  pub once : is_once a.names ≡ true
