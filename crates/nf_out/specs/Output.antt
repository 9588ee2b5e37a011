-- The four output tables of a state.
-- The calls that make them promise these tables, byte by byte.
use Rattle.std.specs.Prelude.{Bool, length}
use Rattle.nf_model.specs.Program.{LinearProgram}
use Rattle.nf_labels.specs.Labels.{LabelList}
use Rattle.nf_table.specs.Grid.{Grid}
use Rattle.nf_simplex.specs.Standing.{Standing}
use Rattle.nf_out.specs.Tables.{grid_of}
use Rattle.nf_out.specs.Arcs.{ArcLists, arc_cell, arc_fields, arc_name}
use Rattle.nf_out.specs.Rows.{RowLists, TreeLists, dual_fields, node_fields, row_cell, row_name}

-- ARCOUT has a row for each arc, by number.
abbrev pub arcout_grid : LinearProgram → LabelList → Standing → ArcLists → Bool → Grid
arcout_grid p l s n future = grid_of (arc_name l) (arc_cell p l s n) (arc_fields l future) 0 p.arcs

-- CONOUT has a row for each column: the arcs, and then the nonarc variables.
abbrev pub conout_grid : LinearProgram → LabelList → Standing → ArcLists → Bool → Grid
conout_grid p l s n future = grid_of (arc_name l) (arc_cell p l s n) (arc_fields l future) 0 (length p.columns)

-- NODEOUT has a row for each node, by number.
abbrev pub nodeout_grid : LinearProgram → LabelList → Standing → RowLists → TreeLists → Bool → Grid
nodeout_grid p l s n tree future = grid_of row_name (row_cell p l s n tree) (node_fields future) 0 p.nodes

-- DUALOUT has a row for each row: the nodes, and then the constraints.
abbrev pub dualout_grid : LinearProgram → LabelList → Standing → RowLists → TreeLists → Bool → Grid
dualout_grid p l s n tree future = grid_of row_name (row_cell p l s n tree) (dual_fields future) 0 (length p.rows)
