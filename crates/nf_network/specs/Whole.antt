-- For a proof alone: what reading ARCDATA, NODEDATA and the options leaves: the nodes with their values, and the arcs with their figures.
-- The promise of `network` rests on it.
use Rattle.std.specs.Prelude.{◌≡◌, List, Option, map}
use Rattle.nf_table.specs.Grid.{Grid}
use Rattle.nf_program.specs.declared.program.ProcOptions.{ProcOptions}
use Rattle.nf_program.specs.declared.program.SetName.TheVariants as set
use Rattle.nf_roles.specs.declared.fault.DataFault.{DataFault}
use Rattle.nf_roles.specs.First.{or_else}
use Rattle.nf_roles.specs.Roles.{RoleColumns}
use Rattle.nf_network.specs.declared.rows.Defaults.{Defaults}
use Rattle.nf_network.specs.declared.rows.Figures.{Figures}
use Rattle.nf_network.specs.Rows.{ArcRow, NodeRow, arc_rows, node_rows}
use Rattle.nf_network.specs.Arcs.{figures_of}
use Rattle.nf_network.specs.Faults.{first_arc_fault}
use Rattle.nf_network.specs.NodeData.{all_nodes, first_node_fault}
use Rattle.nf_network.specs.Nodes.{NodeList}
use Rattle.nf_network.specs.Keys.{Key, key_in}
use Rattle.nf_network.specs.Pass.{AreNamed}
use Rattle.nf_network.specs.Network.{defaults_of, in_set, values}

-- The first fault of both tables.
abbrev pub rows_fault : Defaults → RoleColumns → Grid → RoleColumns → Grid → Option DataFault
rows_fault d arc_roles arcs node_roles nodes =
    or_else (in_set set.Arcdata arc_roles arcs.header (first_arc_fault d (arc_rows arc_roles arcs.rows)))
    (in_set set.Nodedata node_roles nodes.header (first_node_fault (arc_rows arc_roles arcs.rows) (node_rows node_roles nodes.rows)))

-- The nodes are all nodes, each with what it is given first, and the arcs are those of the rows.
pub record IsWhole (o : ProcOptions) (arcs : List ArcRow) (nodes : List NodeRow) (ns : NodeList) (ks : List Key) (fs : List Figures) : Type 0 where
  pub names : ns.names ≡ all_nodes arcs nodes
  pub given_each : ns.given ≡ values o arcs nodes
  pub keys : ks ≡ map (key_in ns.names) arcs
  pub figures : fs ≡ map (figures_of (defaults_of o)) arcs
  pub named : AreNamed ns.names arcs
