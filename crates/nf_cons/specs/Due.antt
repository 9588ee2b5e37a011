-- The network with the constraints of dense CONDATA, or its first fault: what `dense` promises.
-- What a program and its data sets stand for rests on it.
use Rattle.std.specs.Prelude.{◌≡◌, List, Option, Some, None, Result, Ok, Err, length, map}
use Rattle.nf_table.specs.Grid.{Cells, Grid}
use Rattle.nf_cells.specs.Names.{Name}
use Rattle.nf_program.specs.declared.program.ProcOptions.{ProcOptions}
use Rattle.nf_roles.specs.declared.fault.DataFault.{DataFault}
use Rattle.nf_roles.specs.First.{or_else}
use Rattle.nf_roles.specs.Roles.{RoleColumns}
use Rattle.nf_network.specs.Network.{Network, network_due}
use Rattle.nf_cons.specs.declared.places.RowFault.{RowFault}
use Rattle.nf_cons.specs.Types.{default_type}
use Rattle.nf_cons.specs.Places.{told}
use Rattle.nf_cons.specs.Variables.{Mention, arcs_of, homes, nonarcs, number_in}
use Rattle.nf_cons.specs.Terms.{TermLists, lists_of}
use Rattle.nf_cons.specs.Bounds.{nonarc_defaults, first_bound_fault}
use Rattle.nf_cons.specs.Constrained.{Constraints, constrained}
use Rattle.nf_cons.specs.Dense.{Dense, dense_row, first_header_fault, first_row_fault, givens, mentions, names, sides}

-- The fault of the bounds of nonarc variables, which stand first at these places.
abbrev pub bounds_fault : ProcOptions → List Name → List Mention → TermLists → Option RowFault
bounds_fault o arcs ms ls = first_bound_fault (length arcs) (nonarc_defaults o) (homes arcs ms) ls

-- The network with constraints, unless there is a fault.
abbrev pub unless_fault : RoleColumns → Cells → Option RowFault → Network → Result Network DataFault
unless_fault roles header None n = Ok n
unless_fault roles header (Some f) n = Err (told roles header f)

-- Dense CONDATA: its rows, by the variables of its header.
abbrev pub dense_of : ProcOptions → List Name → RoleColumns → Grid → Dense
dense_of o arcs roles table = record {
  columns = roles.variables;
  variables = map (λ m. number_in arcs (mentions roles table.header) m.variable) (mentions roles table.header);
  arcs = length arcs;
  default = default_type o.defcontype;
  rows = map (dense_row roles) table.rows;
}

abbrev pub dense_constraints : ProcOptions → List Name → RoleColumns → Grid → Constraints
dense_constraints o arcs roles table =
    let d = dense_of o arcs roles table in
    record {
      nonarcs = nonarcs arcs (mentions roles table.header);
      names = names d (length d.rows);
      sides = sides d (length d.rows);
      lists = lists_of (givens d (length d.rows));
    }

-- Its first fault: of the header, then of the rows, then of the bounds of nonarc variables.
abbrev pub dense_fault : ProcOptions → List Name → RoleColumns → Grid → Option RowFault
dense_fault o arcs roles table =
    or_else (first_header_fault arcs (mentions roles table.header))
    (or_else (first_row_fault (dense_of o arcs roles table)) (bounds_fault o arcs (mentions roles table.header) (dense_constraints o arcs roles table).lists))

-- The network with the constraints of dense CONDATA whose columns have these roles, or the first fault.
unfoldable pub dense_due : ProcOptions → Network → RoleColumns → Grid → Result Network DataFault
dense_due o n roles table =
    unless_fault roles table.header (dense_fault o (arcs_of n.labels) roles table) (constrained o n (dense_constraints o (arcs_of n.labels) roles table))

-- A network is that of two tables, which one call of `network` with these options makes.
pub record IsNetworkOf (o : ProcOptions) (n : Network) : Type 0 where
  pub arc_roles : RoleColumns
  pub arcs : Grid
  pub node_roles : RoleColumns
  pub nodes : Grid
  pub answered : network_due o arc_roles arcs node_roles nodes ≡ Ok n
