-- For a proof alone: arcs by the numbers of their ends, from 0, and their names.
-- That no arc repeats another is seen by these keys.
use Rattle.std.specs.Prelude.{◌&&◌, ℕ, Bool, List, [], nat_eq}
use Rattle.std.specs.List.{list_any}
use Rattle.std.specs.Str.{bytes_eq}
use Rattle.nf_cells.specs.Names.{Name, place_of}
use Rattle.nf_network.specs.Rows.{ArcRow}
use Rattle.nf_network.specs.Arcs.{tail_of, head_of, arc_name}

-- An arc has a tail, a head and a name.
pub record Key : Type 0 where
  pub tail : ℕ
  pub head : ℕ
  pub name : Name

abbrev pub no_key : Key
no_key = record { tail = 0; head = 0; name = [] }

-- Two keys are the same.
abbrev pub same_key : Key → Key → Bool
same_key k l = nat_eq k.tail l.tail && nat_eq k.head l.head && bytes_eq k.name l.name

-- A key is among some.
abbrev pub has_key : Key → List Key → Bool
has_key k keys = list_any (same_key k) keys

-- The arc of a row, where these are the nodes.
abbrev pub key_in : List Name → ArcRow → Key
key_in nodes r = record { tail = place_of (tail_of r) nodes; head = place_of (head_of r) nodes; name = arc_name r }
