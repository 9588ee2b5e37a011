-- The problem of a DIMACS text, whose rows are numbered by the names of its nodes.
-- The law of `tables_are_the_problem` rests on it.
use Rattle.std.specs.Prelude.{◌≡◌, ◌<◌, ◌≤◌, ℕ, true, false, List, [], Option, Some, None, Ok, ℤ, pos, length, map, decimal}
use Rattle.nf_num.specs.Rational.{of_ℤ}
use Rattle.nf_model.specs.declared.RowKind.TheVariants.{Eq}
use Rattle.nf_model.specs.Program.{Row, LinearProgram, row}
use Rattle.nf_cells.specs.Names.{Name, is_once, place_of}
use Rattle.nf_program.specs.declared.program.ProcOptions.{ProcOptions}
use Rattle.nf_network.specs.Network.{Network, network_due}
use Rattle.nf_network.specs.NodeData.{all_nodes}
use Rattle.nf_network.specs.Rows.{arc_rows, node_rows}
use Rattle.nf_dimacs.specs.declared.line.Line.{Line}
use Rattle.nf_dimacs.specs.declared.tables.DimacsTables.{DimacsTables}
use Rattle.nf_dimacs.specs.Says.{said_by, size_of, supplies_of, arcs_of, flow_of}
use Rattle.nf_dimacs.specs.Tables.{nodes_in, or_zero}
use Rattle.nf_dimacs.specs.Text.{AreTables}
use Rattle.nf_dimacs_network.specs.Rows.{arc_roles, node_roles}
use Rattle.nf_dimacs_network.specs.Figures.{column_by, NameNoNode}

-- The row of a node: what leaves it less what enters it is its supply, or 0 if it is given none.
abbrev pub row_of : Option ℤ → Row
row_of given = record { kind = Eq; right = of_ℤ (or_zero given) }

-- A program is the problem of what these lines say, where the nodes have these names in order: the columns are the arcs in
-- the order of the text, each node has its row at the place of its number as a name, and there are no other rows.
pub record IsProblemOf (names : List Name) (lines : List Line) (p : LinearProgram) : Type 0 where
  pub columns : p.columns ≡ map (column_by names) (arcs_of lines)
  pub count : length p.rows ≡ nodes_in (size_of lines)
  pub places : (node : ℕ) → 0 < node → node ≤ nodes_in (size_of lines) → place_of (decimal node) names < length p.rows
  pub rows : (node : ℕ) → 0 < node → node ≤ nodes_in (size_of lines) → row p (place_of (decimal node) names) ≡ row_of (flow_of (supplies_of lines) (pos node))
  pub once : is_once names ≡ true
  pub nodes : p.nodes ≡ length p.rows
  pub arcs : p.arcs ≡ length p.columns
  pub minimises : p.maximizes ≡ false

-- The options of a program that minimises and says nothing of nodes.
pub record AreSimple (o : ProcOptions) : Type 0 where
  pub minimises : o.maximize ≡ false
  pub no_node : NameNoNode o

-- The tables have no fault of data, and the program of their network is the problem of the text, with its rows numbered by
-- the names of the nodes.
pub record AreTheProblem (text : List ℕ) (t : DimacsTables) (o : ProcOptions) : Type 0 where
  pub network : Network
  pub due : network_due o arc_roles t.arcs node_roles t.nodes ≡ Ok network
  pub problem : IsProblemOf (all_nodes (arc_rows arc_roles t.arcs.rows) (node_rows node_roles t.nodes.rows)) (said_by text) network.program

-- So it is with the tables of every text.
abbrev pub TablesAreTheProblem : Type 0
TablesAreTheProblem = (text : List ℕ) (t : DimacsTables) (o : ProcOptions) → AreTables text t → AreSimple o → AreTheProblem text t o
