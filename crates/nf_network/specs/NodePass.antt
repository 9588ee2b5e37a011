-- For a proof alone: how a pass over NODEDATA stands after some rows, and what one row more finds.
-- The promise of `read_nodes` rests on it.
use Rattle.std.specs.Prelude.{◌≡◌, ◌++◌, not, List, [], ◌∷◌, Option, None, length, map, get_or}
use Rattle.std.specs.Bool.{nat_lt}
use Rattle.std.specs.Str.{bytes_eq}
use Rattle.nf_cells.specs.Names.{Name, has_name, place_of, with_name}
use Rattle.nf_cells.specs.declared.values.Cell.{Cell}
use Rattle.nf_program.specs.declared.program.Role.TheVariants as role
use Rattle.nf_roles.specs.declared.fault.CellFault.{CellFault}
use Rattle.nf_roles.specs.declared.fault.DataKind.TheVariants as kind
use Rattle.nf_roles.specs.First.{fault_if, first_of}
use Rattle.nf_network.specs.declared.rows.Defaults.{Defaults}
use Rattle.nf_network.specs.declared.rows.Figures.{Figures}
use Rattle.nf_network.specs.Rows.{ArcRow, NodeRow}
use Rattle.nf_network.specs.Arcs.{said, ends, figures_of}
use Rattle.nf_network.specs.Faults.{is_said, excess, most_nodes, gift_faults}
use Rattle.nf_network.specs.NodeData.{all_gifts, node_name}
use Rattle.nf_network.specs.Nodes.{NodeList, with_node}
use Rattle.nf_network.specs.Given.{given_after}
use Rattle.nf_network.specs.Keys.{Key, key_in}
use Rattle.nf_network.specs.Pass.{AreNamed, Stands}

-- The faults of a node's name, where these are the nodes so far and those of earlier rows.
abbrev pub name_faults_now : List Name → List Name → Cell Name → List (Option CellFault)
name_faults_now nodes seen cell =
    fault_if (not (is_said cell)) role.Node kind.BadName
    ∷ fault_if (bytes_eq (said [] cell) excess) role.Node kind.ReservedName
    ∷ fault_if (has_name (said [] cell) seen) role.Node kind.RepeatedNode
    ∷ fault_if (nat_lt most_nodes (length (with_name nodes (said [] cell)))) role.Node kind.LimitPassed
    ∷ []

-- The nodes with the node of a row, and its number there.
abbrev pub with_row : NodeList → NodeRow → NodeList
with_row ns r = with_node ns (node_name r)

-- The faults of a row, by the nodes so far.
abbrev pub row_faults_now : NodeList → List Name → NodeRow → List (Option CellFault)
row_faults_now ns seen r =
    name_faults_now ns.names seen r.node
    ++ gift_faults role.Supdem (get_or (with_row ns r).given (place_of (node_name r) ns.names) None) r.supdem

-- A row was taken: it has no fault, and its node is there with what it gives it.
pub record IsTaken (old : NodeList) (seen : List Name) (r : NodeRow) (new : NodeList) (now : List Name) : Type 0 where
  pub clear : first_of (row_faults_now old seen r) ≡ None
  pub nodes : new ≡ given_after (with_row old r) (place_of (node_name r) old.names) r.supdem
  pub seen_is : now ≡ seen ++ node_name r ∷ []

-- Nodes, arcs and figures are those of the rows of ARCDATA and of some rows of NODEDATA.
pub record IsRead (d : Defaults) (arcs : List ArcRow) (above : List NodeRow) (ns : NodeList) (ks : List Key) (fs : List Figures) : Type 0 where
  pub nodes : Stands ns (ends arcs ++ map node_name above) (all_gifts arcs above)
  pub keys : ks ≡ map (key_in ns.names) arcs
  pub figures : fs ≡ map (figures_of d) arcs
  pub named : AreNamed ns.names arcs
