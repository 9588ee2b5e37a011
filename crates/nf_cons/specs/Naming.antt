-- Working definitions, on which no promise of `dense` or `sparse` rests: what naming a variable finds and leaves, by the arcs
-- and nonarc variables so far.
-- The contracts of `Variables`, and of the passes over CONDATA, rest on it.
use Rattle.std.specs.Prelude.{◌≡◌, ◌≤◌, ◌<◌, ◌^◌, ◌+◌, ◌++◌, ◌||◌, ℕ, Bool, false, not, List, [], ◌∷◌, Option, Some, None, if◌then◌else◌, length}
use Rattle.std.specs.Option.{is_some}
use Rattle.std.specs.Bool.{nat_lt}
use Rattle.std.specs.Str.{bytes_eq}
use Rattle.nf_cells.specs.Cells.{is_name}
use Rattle.nf_cells.specs.Names.{Name, has_name, place_of, with_name}
use Rattle.nf_roles.specs.declared.fault.DataKind.TheVariants as kind
use Rattle.nf_network.specs.Faults.{excess}
use Rattle.nf_cons.specs.declared.found.NamedArc.{NamedArc}
use Rattle.nf_cons.specs.declared.places.Home.{Home}
use Rattle.nf_cons.specs.declared.places.PlacedFault.{PlacedFault}
use Rattle.nf_cons.specs.ArcList.{ArcList, IsEven, arc_named}
use Rattle.nf_cons.specs.Places.{fault_if, first_of}
use Rattle.nf_cons.specs.Variables.{Mention, most_nonarcs}

-- The arcs, the nonarc variables, and where each of these stands first.
pub record VariableList : Type 0 where
  pub arcs : ArcList
  pub nonarcs : List Name
  pub homes : List Home

-- There is one home for each nonarc variable, and one arc for each name, and all can be counted.
pub record IsSound (v : VariableList) : Type 0 where
  pub homes : length v.homes ≡ length v.nonarcs
  pub few_nonarcs : length v.nonarcs ≤ most_nonarcs
  pub arcs : IsEven v.arcs
  pub few_arcs : v.arcs.count < 2 ^ 32

-- A found arc is shared.
abbrev pub is_shared_now : Option NamedArc → Bool
is_shared_now None = false
is_shared_now (Some f) = f.is_shared

-- The nonarc variables with a name, which may be an arc's.
abbrev pub nonarcs_with : Option NamedArc → List Name → Name → List Name
nonarcs_with None names n = with_name names n
nonarcs_with (Some f) names n = names

abbrev pub homes_with : Option NamedArc → VariableList → Mention → List Home
homes_with None v m = if has_name m.variable v.nonarcs then v.homes else v.homes ++ m.home ∷ []
homes_with (Some f) v m = v.homes

-- The variables with one more mention.
abbrev pub with_mention : VariableList → Mention → VariableList
with_mention v m = record {
  arcs = v.arcs;
  nonarcs = nonarcs_with (arc_named v.arcs m.variable) v.nonarcs m.variable;
  homes = homes_with (arc_named v.arcs m.variable) v m;
}

-- The variables with a nonarc variable, which may be new.
abbrev pub with_nonarc : VariableList → Mention → VariableList
with_nonarc v m = record { arcs = v.arcs; nonarcs = with_name v.nonarcs m.variable; homes = if has_name m.variable v.nonarcs then v.homes else v.homes ++ m.home ∷ [] }

-- The fault of one nonarc variable too many.
abbrev pub limit_faults : VariableList → Name → Home → List (Option PlacedFault)
limit_faults v n home = fault_if (nat_lt most_nonarcs (length (with_name v.nonarcs n))) home.place kind.LimitPassed ∷ []

-- The number of a variable: that of its arc, or behind the arcs.
abbrev pub number_of_found : Option NamedArc → VariableList → Name → ℕ
number_of_found None v n = v.arcs.count + place_of n v.nonarcs
number_of_found (Some f) v n = f.number

abbrev pub number_now : VariableList → Name → ℕ
number_now v n = number_of_found (arc_named v.arcs n) v n

-- The faults of a mention, by the variables so far.
abbrev pub faults_now : VariableList → Bool → Mention → List (Option PlacedFault)
faults_now v taken m =
    fault_if (not (is_name m.variable || is_some (arc_named v.arcs m.variable))) m.home.place kind.BadName
    ∷ fault_if (bytes_eq m.variable excess) m.home.place kind.ReservedName
    ∷ fault_if (taken || is_shared_now (arc_named v.arcs m.variable)) m.home.place kind.AmbiguousName
    ∷ fault_if (nat_lt most_nonarcs (length (with_mention v m).nonarcs)) m.home.place kind.LimitPassed
    ∷ []

-- A mention was taken: it has no fault, its variable has this number, and it is there.
pub record IsNumbered (old : VariableList) (taken : Bool) (m : Mention) (new : VariableList) (number : ℕ) : Type 0 where
  pub clear : first_of (faults_now old taken m) ≡ None
  pub is : number ≡ number_now old m.variable
  pub variables : new ≡ with_mention old m
