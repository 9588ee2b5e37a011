-- For a proof alone: how a pass over the rows of ARCDATA stands after some of them.
-- The promise of `read_arcs` rests on it.
use Rattle.std.specs.Prelude.{◌≡◌, ◌++◌, ℕ, true, false, List, [], ◌∷◌, Option, None, map, get_or}
use Rattle.nf_cells.specs.Names.{Name, has_name, place_of, with_name, first_seen, is_once}
use Rattle.nf_roles.specs.declared.fault.CellFault.{CellFault}
use Rattle.nf_program.specs.declared.program.Role.TheVariants as role
use Rattle.nf_network.specs.declared.rows.Defaults.{Defaults}
use Rattle.nf_network.specs.declared.rows.Figures.{Figures}
use Rattle.nf_network.specs.Rows.{ArcRow}
use Rattle.nf_roles.specs.First.{first_of}
use Rattle.nf_network.specs.Arcs.{Gift, given, tail_of, head_of, ends, gifts}
use Rattle.nf_network.specs.Faults.{node_faults, gift_faults}
use Rattle.nf_network.specs.Nodes.{NodeList, with_node}
use Rattle.nf_network.specs.Given.{given_after}
use Rattle.nf_network.specs.Keys.{Key, key_in}
use Rattle.nf_network.specs.Arcs.{figures_of}

-- The nodes are those of these names, each with its first gift of these.
pub record Stands (ns : NodeList) (named : List Name) (gs : List Gift) : Type 0 where
  pub names : ns.names ≡ first_seen named
  pub given_each : ns.given ≡ map (given gs) ns.names
  pub once : is_once ns.names ≡ true
  pub unseen : (x : Name) → has_name x ns.names ≡ false → given gs x ≡ None

-- All ends of the rows are among the nodes.
abbrev pub AreNamed : List Name → List ArcRow → Type 0
AreNamed ks [] = Unit {0}
AreNamed ks (q ∷ qs) = (has_name (tail_of q) ks ≡ true) × ((has_name (head_of q) ks ≡ true) × AreNamed ks qs)

-- Nodes, arcs and figures are those of these rows.
pub record IsAfter (d : Defaults) (above : List ArcRow) (ns : NodeList) (ks : List Key) (fs : List Figures) : Type 0 where
  pub nodes : Stands ns (ends above) (gifts above)
  pub keys : ks ≡ map (key_in ns.names) above
  pub figures : fs ≡ map (figures_of d) above
  pub named : AreNamed ns.names above

-- ---- a row, in the words of the pass
-- The faults of a row's ends, and the nodes with them.
abbrev pub ends_faults : List Name → ArcRow → List (Option CellFault)
ends_faults names r = node_faults role.TailNode names r.tail ++ node_faults role.HeadNode (with_name names (tail_of r)) r.head

abbrev pub with_ends : NodeList → ArcRow → NodeList
with_ends ns r = with_node (with_node ns (tail_of r)) (head_of r)

-- Both ends of a row have their numbers, and nothing is wrong with them.
pub record EndsNamed (old : NodeList) (r : ArcRow) (new : NodeList) (tail head : ℕ) : Type 0 where
  pub clear : first_of (ends_faults old.names r) ≡ None
  pub nodes : new ≡ with_ends old r
  pub tail_is : tail ≡ place_of (tail_of r) old.names
  pub head_is : head ≡ place_of (head_of r) (with_node old (tail_of r)).names

-- The faults of what the ends are given, by their numbers, and the nodes after it.
abbrev pub give_faults : NodeList → ℕ → ℕ → ArcRow → List (Option CellFault)
give_faults ns tail head r =
    gift_faults role.Supply (get_or ns.given tail None) r.supply
    ++ gift_faults role.Demand (get_or (given_after ns tail r.supply).given head None) r.demand

abbrev pub ends_given : NodeList → ℕ → ℕ → ArcRow → NodeList
ends_given ns tail head r = given_after (given_after ns tail r.supply) head r.demand
