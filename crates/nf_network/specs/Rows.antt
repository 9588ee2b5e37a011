-- What the rows of ARCDATA and NODEDATA say, each cell read by its role.
-- Every fault of a row, and the network, rest on these rows.
use Rattle.std.specs.Prelude.{List, map}
use Rattle.nf_cells.specs.Names.{Name}
use Rattle.nf_table.specs.Grid.{Cells}
use Rattle.nf_frac.specs.declared.amount.Amount.{Amount}
use Rattle.nf_cells.specs.Values.{name_in, amount_in, bound_in, supply_in, cell_now}
use Rattle.nf_cells.specs.declared.values.Cell.{Cell}
use Rattle.nf_cells.specs.declared.values.Bound.{Bound}
use Rattle.nf_cells.specs.declared.values.Supply.{Supply}
use Rattle.nf_cells.specs.declared.values.Gives.TheVariants as gives
use Rattle.nf_program.specs.declared.program.Role.TheVariants as role
use Rattle.nf_roles.specs.Roles.{RoleColumns, cell_for}
use Rattle.nf_network.specs.declared.rows.ArcRow.{ArcRow as LentArcRow}
use Rattle.nf_network.specs.declared.rows.NodeRow.{NodeRow as LentNodeRow}

-- A row of ARCDATA: an arc, its figures, and what it gives its ends.
pub record ArcRow : Type 0 where
  pub tail : Cell Name
  pub head : Cell Name
  pub name : Cell Name
  pub cost : Cell Amount
  pub lower : Cell Amount
  pub capacity : Cell Bound
  pub supply : Cell Supply
  pub demand : Cell Supply

-- A row of NODEDATA: a node, and what it gives it.
pub record NodeRow : Type 0 where
  pub node : Cell Name
  pub supdem : Cell Supply

-- A row of ARCDATA, read by roles.
abbrev pub arc_row : RoleColumns → Cells → ArcRow
arc_row roles cells = record {
  tail = name_in (cell_for roles role.TailNode cells);
  head = name_in (cell_for roles role.HeadNode cells);
  name = name_in (cell_for roles role.ArcName cells);
  cost = amount_in (cell_for roles role.Cost cells);
  lower = amount_in (cell_for roles role.Lo cells);
  capacity = bound_in (cell_for roles role.Capacity cells);
  supply = supply_in gives.Supply (cell_for roles role.Supply cells);
  demand = supply_in gives.Demand (cell_for roles role.Demand cells);
}

-- A row of NODEDATA, read by roles.
abbrev pub node_row : RoleColumns → Cells → NodeRow
node_row roles cells = record {
  node = name_in (cell_for roles role.Node cells);
  supdem = supply_in gives.Either (cell_for roles role.Supdem cells);
}

-- The rows of a table, read by roles.
abbrev pub arc_rows : RoleColumns → List Cells → List ArcRow
arc_rows roles rows = map (arc_row roles) rows

abbrev pub node_rows : RoleColumns → List Cells → List NodeRow
node_rows roles rows = map (node_row roles) rows

-- The rows that lend their names.
abbrev pub arc_row_now : LentArcRow → ArcRow
arc_row_now r = record {
  tail = cell_now r.tail;
  head = cell_now r.head;
  name = cell_now r.name;
  cost = r.cost;
  lower = r.lower;
  capacity = r.capacity;
  supply = r.supply;
  demand = r.demand;
}

abbrev pub node_row_now : LentNodeRow → NodeRow
node_row_now r = record { node = cell_now r.node; supdem = r.supdem }
