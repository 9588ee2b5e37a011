-- The columns and the values of nodes that the tables of a DIMACS text give a network.
-- The law of `tables_give` rests on it.
use Rattle.std.specs.Prelude.{◌≡◌, ◌<◌, ◌≤◌, ℕ, false, true, List, Option, Some, None, ℤ, pos, decimal, map}
use Rattle.std.specs.Fmt.{signed_decimal}
use Rattle.nf_num.specs.Rational.{of_ℤ}
use Rattle.nf_model.specs.Program.{Column}
use Rattle.nf_prob.specs.Building.{new_column}
use Rattle.nf_cells.specs.Names.{Name, has_name, place_of}
use Rattle.nf_cells.specs.declared.values.Supply.TheVariants as supply
use Rattle.nf_program.specs.declared.program.ProcOptions.{ProcOptions}
use Rattle.nf_network.specs.Arcs.{given}
use Rattle.nf_network.specs.Network.{arc_column}
use Rattle.nf_network.specs.NodeData.{all_nodes, gifts_to}
use Rattle.nf_network.specs.Rows.{arc_rows, node_rows}
use Rattle.nf_dimacs.specs.declared.line.Arc.{Arc}
use Rattle.nf_dimacs.specs.declared.tables.DimacsTables.{DimacsTables}
use Rattle.nf_dimacs.specs.Says.{said_by, size_of, supplies_of, arcs_of, flow_of}
use Rattle.nf_dimacs.specs.Tables.{nodes_in, or_zero}
use Rattle.nf_dimacs.specs.Text.{AreTables}
use Rattle.nf_dimacs_network.specs.Rows.{arc_roles, node_roles, whole}

-- The column of an arc, where the nodes have these names in order: its ends are the places of the names that its nodes have
-- by number, and its cost and bounds are those of its line.
abbrev pub column_by : List Name → Arc → Column
column_by names arc =
    new_column (Some (record { tail = place_of (signed_decimal arc.tail) names; head = place_of (signed_decimal arc.head) names }))
    (of_ℤ arc.cost) (Some (of_ℤ arc.lower)) (Some (of_ℤ arc.capacity))

-- In a program that minimises, the columns of the arcs are those of the `a` lines.
abbrev pub GiveColumns : Type 0
GiveColumns =
    (text : List ℕ) (t : DimacsTables) (o : ProcOptions) (names : List Name) → AreTables text t → o.maximize ≡ false
    → map (arc_column o names) (arc_rows arc_roles t.arcs.rows) ≡ map (column_by names) (arcs_of (said_by text))

-- The options name no node.
pub record NameNoNode (o : ProcOptions) : Type 0 where
  pub source : o.source ≡ None
  pub sink : o.sink ≡ None

-- Each node of a text is one of the network, by its number as its name, and its value is what its `n` line says, or 0.
pub record GivesNode (text : List ℕ) (t : DimacsTables) (o : ProcOptions) (node : ℕ) : Type 0 where
  pub named : has_name (decimal node) (all_nodes (arc_rows arc_roles t.arcs.rows) (node_rows node_roles t.nodes.rows)) ≡ true
  pub value : given (gifts_to o (arc_rows arc_roles t.arcs.rows) (node_rows node_roles t.nodes.rows)) (decimal node)
      ≡ Some (supply.Amount (whole (or_zero (flow_of (supplies_of (said_by text)) (pos node)))))

abbrev pub GiveNodes : Type 0
GiveNodes =
    (text : List ℕ) (t : DimacsTables) (o : ProcOptions) (node : ℕ) → AreTables text t → NameNoNode o
    → 0 < node → node ≤ nodes_in (size_of (said_by text)) → GivesNode text t o node
