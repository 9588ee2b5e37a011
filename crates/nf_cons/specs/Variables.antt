-- The variables of CONDATA: arcs, and the names of none, which are nonarc variables.
-- Which names are variables, how they are numbered, and the faults of their names rest on these words.
use Rattle.std.specs.Prelude.{◌++◌, ◌||◌, ℕ, Bool, not, List, [], ◌∷◌, Option, Some, None, length, map, filter, take}
use Rattle.std.specs.Bool.{nat_lt}
use Rattle.std.specs.List.{find}
use Rattle.std.specs.Str.{bytes_eq}
use Rattle.nf_cells.specs.Cells.{is_name}
use Rattle.nf_cells.specs.Names.{Name, has_name, place_of, first_seen}
use Rattle.nf_labels.specs.Labels.{LabelList}
use Rattle.nf_roles.specs.declared.fault.DataKind.TheVariants as kind
use Rattle.nf_network.specs.Faults.{excess}
use Rattle.nf_cons.specs.declared.places.Home.{Home}
use Rattle.nf_cons.specs.declared.places.DataColumn.TheVariants.{Column}
use Rattle.nf_cons.specs.declared.places.PlacedFault.{PlacedFault}
use Rattle.nf_cons.specs.Places.{fault_if}

-- The names of the arcs of ARCDATA. Excess arcs cannot be named in CONDATA.
abbrev pub arcs_of : LabelList → List Name
arcs_of l = take l.own_arcs l.columns

-- A name is that of an arc; it is that of two or more.
abbrev pub is_arc : List Name → Name → Bool
is_arc arcs n = has_name n arcs

abbrev pub is_shared : List Name → Name → Bool
is_shared arcs n = nat_lt 1 (length (filter (bytes_eq n) arcs))

-- A mention names a variable at a place.
pub record Mention : Type 0 where
  pub variable : Name
  pub home : Home

-- The nonarc variables: the names of no arc, in the order in which they first stand.
abbrev pub names_in : List Mention → List Name
names_in ms = map (λ m. m.variable) ms

abbrev pub nonarcs : List Name → List Mention → List Name
nonarcs arcs ms = first_seen (filter (λ n. not (is_arc arcs n)) (names_in ms))

-- The variables are numbered from 0: the arcs, and after them the nonarc variables.
abbrev pub number_in : List Name → List Mention → Name → ℕ
number_in arcs ms n = place_of n (arcs ++ nonarcs arcs ms)

-- Where a variable stands for the first time.
abbrev pub home_or : Option Mention → Home
home_or None = record { row = 0; place = Column 0 }
home_or (Some m) = m.home

abbrev pub home_in : List Mention → Name → Home
home_in ms n = home_or (find (λ m. bytes_eq n m.variable) ms)

abbrev pub homes : List Name → List Mention → List Home
homes arcs ms = map (home_in ms) (nonarcs arcs ms)

-- The most nonarc variables.
abbrev pub most_nonarcs : ℕ
most_nonarcs = 5_000

-- The faults of a mention below others; its name may be taken by another column.
abbrev pub variable_faults : List Name → List Mention → Bool → Mention → List (Option PlacedFault)
variable_faults arcs above taken m =
    fault_if (not (is_name m.variable || is_arc arcs m.variable)) m.home.place kind.BadName
    ∷ fault_if (bytes_eq m.variable excess) m.home.place kind.ReservedName
    ∷ fault_if (taken || is_shared arcs m.variable) m.home.place kind.AmbiguousName
    ∷ fault_if (nat_lt most_nonarcs (length (nonarcs arcs (above ++ m ∷ [])))) m.home.place kind.LimitPassed
    ∷ []
