-- For a proof alone: what `ArcKeys` and `KeySet` keep in their fields.
-- The contracts of their methods rest on it.
use Rattle.std.specs.Prelude.{◌≡◌, ◌≤◌, ◌^◌, ℕ, List, [], ◌∷◌, length, map}
use Rattle.nf_cells.specs.Names.{Name}
use Rattle.nf_labels.specs.Labels.{no_labels}
use Rattle.nf_network.specs.Keys.{Key}
use Rattle.nf_network.specs.declared.keys.ArcKeys.TheInside.{Inside}
use Rattle.nf_network.specs.declared.key_set.KeySet.TheInside.{Inside as SetInside}

-- Arcs by their ends, the tail first, and their names beside them.
abbrev pub keys_of : List (ℕ × ℕ) → List Name → List Key
keys_of [] names = []
keys_of (e ∷ ends) [] = []
keys_of (e ∷ ends) (n ∷ names) = record { tail = e.0; head = e.1; name = n } ∷ keys_of ends names

abbrev pub keys_inside : Inside → List Key
keys_inside k = keys_of k.ends.items k.labels.columns

-- The labels are those of the arcs alone: one name for each.
pub record HasOneNameEach (k : Inside) : Type 0 where
  pub one_each : length k.ends.items ≡ length k.labels.columns
  pub alone : k.labels ≡ record no_labels { columns = k.labels.columns; own_arcs = length k.labels.columns }
  pub few : length k.labels.columns ≤ 2 ^ 30

abbrev pub set_inside : SetInside → List Key
set_inside k = map (λ a. record { tail = a.0; head = a.1; name = a.2 }) k.set.keys
