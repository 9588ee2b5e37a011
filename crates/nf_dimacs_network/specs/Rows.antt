-- What the tables of a DIMACS text say as ARCDATA and NODEDATA, by the reserved names of their columns.
-- The laws of this crate rest on it.
use Rattle.std.specs.Prelude.{◌≡◌, ℕ, ◌++◌, List, [], ◌∷◌, Option, Some, None, Ok, ℤ, pos, ◌*ℤ◌, codes, decimal}
use Rattle.std.specs.Fmt.{signed_decimal}
use Rattle.nf_frac.specs.declared.amount.Amount.{Amount}
use Rattle.nf_cells.specs.declared.values.Cell.TheVariants.{Missing, Is}
use Rattle.nf_cells.specs.declared.values.Bound.TheVariants.{Finite}
use Rattle.nf_cells.specs.declared.values.Supply.TheVariants as supply
use Rattle.nf_roles.specs.declared.columns.SetKind.TheVariants.{Arcs, Nodes}
use Rattle.nf_roles.specs.Assigned.{roles_due}
use Rattle.nf_roles.specs.Roles.{RoleColumns}
use Rattle.nf_network.specs.Rows.{ArcRow, NodeRow, arc_rows, node_rows}
use Rattle.nf_dimacs.specs.declared.line.Arc.{Arc}
use Rattle.nf_dimacs.specs.declared.tables.DimacsTables.{DimacsTables}
use Rattle.nf_dimacs.specs.Says.{said_by, size_of, supplies_of, arcs_of}
use Rattle.nf_dimacs.specs.Tables.{arcs_header, nodes_header, by_node, nodes_in, numbered, or_zero}
use Rattle.nf_dimacs.specs.Text.{AreTables}

-- ---- roles
-- The columns of ARCDATA by role: tail, head, cost, capacity, lower bound and name.
abbrev pub arc_roles : RoleColumns
arc_roles = record {
  columns = Some 0 ∷ Some 1 ∷ Some 3 ∷ Some 4 ∷ Some 5 ∷ Some 2 ∷ None ∷ None ∷ None ∷ None ∷ None ∷ None ∷ None ∷ None ∷ None ∷ None ∷ None ∷ [];
  variables = [];
  ids = [];
}

-- The columns of NODEDATA by role: node and supply.
abbrev pub node_roles : RoleColumns
node_roles = record {
  columns = None ∷ None ∷ None ∷ None ∷ None ∷ None ∷ None ∷ None ∷ Some 0 ∷ Some 1 ∷ None ∷ None ∷ None ∷ None ∷ None ∷ None ∷ None ∷ [];
  variables = [];
  ids = [];
}

-- Without role statements the columns of both tables have these roles.
pub record RolesAreReserved : Type 0 where
  pub arcs : roles_due Arcs arcs_header [] [] ≡ Ok arc_roles
  pub nodes : roles_due Nodes nodes_header [] [] ≡ Ok node_roles

-- ---- rows
-- A whole number as an amount.
abbrev pub whole : ℤ → Amount
whole z = record { thousandths = z *ℤ pos 1000 }

-- What arc k says: its ends by number, the name x and its number, its cost and its bounds. It gives its ends no supply.
abbrev pub arc_said : ℕ → Arc → ArcRow
arc_said k arc = record {
  tail = Is (signed_decimal arc.tail);
  head = Is (signed_decimal arc.head);
  name = Is (codes "x" ++ decimal k);
  cost = Is (whole arc.cost);
  lower = Is (whole arc.lower);
  capacity = Is (Finite (whole arc.capacity));
  supply = Missing;
  demand = Missing;
}

-- What a node says: its number as its name, and its supply, which is 0 if none is given.
abbrev pub node_said : ℕ → Option ℤ → NodeRow
node_said node given = record {
  node = Is (decimal node);
  supdem = Is (supply.Amount (whole (or_zero given)));
}

-- The table of arcs says the arcs of the `a` lines, in the order of the text.
abbrev pub ArcsSay : Type 0
ArcsSay = (text : List ℕ) (t : DimacsTables) → AreTables text t → arc_rows arc_roles t.arcs.rows ≡ numbered arc_said 1 (arcs_of (said_by text))

-- The table of nodes says what the `n` lines give each node, by number.
abbrev pub NodesSay : Type 0
NodesSay =
    (text : List ℕ) (t : DimacsTables) → AreTables text t
    → node_rows node_roles t.nodes.rows ≡ numbered node_said 1 (by_node (supplies_of (said_by text)) (nodes_in (size_of (said_by text))))
