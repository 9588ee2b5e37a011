-- What rows of ARCDATA stand for: arcs with their names and figures, nodes in their order, and what the nodes are given.
-- The network and the faults of its rows rest on these words.
use Rattle.std.specs.Prelude.{◌&&◌, ◌++◌, Bool, true, false, List, [], ◌∷◌, Option, Some, None, if◌then◌else◌}
use Rattle.std.specs.List.{flat_map}
use Rattle.std.specs.Ordering.{int_eq}
use Rattle.std.specs.Str.{bytes_eq}
use Rattle.nf_cells.specs.Names.{Name, first_seen}
use Rattle.nf_cells.specs.declared.values.Cell.{Cell}
use Rattle.nf_cells.specs.declared.values.Cell.TheVariants.{Missing, Bad, Is}
use Rattle.nf_cells.specs.declared.values.Supply.{Supply}
use Rattle.nf_cells.specs.declared.values.Supply.TheVariants.{Amount, OpenSupply, OpenDemand}
use Rattle.nf_network.specs.declared.rows.Defaults.{Defaults}
use Rattle.nf_network.specs.declared.rows.Figures.{Figures}
use Rattle.nf_network.specs.Rows.{ArcRow}

-- What a cell says, or else another value.
abbrev pub said : {A : Type 0} → A → Cell A → A
said default Missing = default
said default Bad = default
said default (Is x) = x

-- The tail and the head of a row's arc.
abbrev pub tail_of : ArcRow → Name
tail_of r = said [] r.tail

abbrev pub head_of : ArcRow → Name
head_of r = said [] r.head

-- An arc's name is its NAME cell; without one it is tail, underscore, head. The underscore is byte 95.
abbrev pub arc_name : ArcRow → Name
arc_name r = said (tail_of r ++ 95 ∷ head_of r) r.name

-- Two rows name the same arc where they have the same tail, head and name.
abbrev pub same_arc : ArcRow → ArcRow → Bool
same_arc r q = bytes_eq (tail_of r) (tail_of q) && bytes_eq (head_of r) (head_of q) && bytes_eq (arc_name r) (arc_name q)

-- The figures of an arc, where a missing cell has the default.
abbrev pub figures_of : Defaults → ArcRow → Figures
figures_of d r = record { cost = said d.cost r.cost; lower = said d.lower r.lower; upper = said d.upper r.capacity }

-- ---- nodes
-- The ends of arcs, row by row, the tail before the head.
abbrev pub ends_of : ArcRow → List Name
ends_of r = tail_of r ∷ head_of r ∷ []

abbrev pub ends : List ArcRow → List Name
ends arcs = flat_map ends_of arcs

-- The nodes of arcs, in the order in which they first stand.
abbrev pub nodes_in : List ArcRow → List Name
nodes_in arcs = first_seen (ends arcs)

-- ---- gifts
-- A gift gives a node a supply-demand value.
pub record Gift : Type 0 where
  pub node : Name
  pub value : Supply

-- The gift of a cell to a node, where it says one.
abbrev pub gift : Name → Cell Supply → List Gift
gift node Missing = []
gift node Bad = []
gift node (Is v) = record { node = node; value = v } ∷ []

-- A row gives its SUPPLY to the tail and then its DEMAND, as a supply of the opposite sign, to the head.
abbrev pub gifts_of : ArcRow → List Gift
gifts_of r = gift (tail_of r) r.supply ++ gift (head_of r) r.demand

abbrev pub gifts : List ArcRow → List Gift
gifts arcs = flat_map gifts_of arcs

-- The value that a node is given first, if it is given any.
abbrev pub given : List Gift → Name → Option Supply
given [] node = None
given (g ∷ gs) node = if bytes_eq node g.node then Some g.value else given gs node

-- Two values are the same: 5 and 5.0 are.
abbrev pub same_supply : Supply → Supply → Bool
same_supply (Amount v) (Amount w) = int_eq v.thousandths w.thousandths
same_supply OpenSupply OpenSupply = true
same_supply OpenDemand OpenDemand = true
same_supply v w = false
