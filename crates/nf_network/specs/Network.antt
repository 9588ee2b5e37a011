-- The network of ARCDATA and NODEDATA, with its labels, or the first fault of the data: what `network` promises.
-- It is a function of whole lists of rows. CONDATA adds columns, rows and entries to this program.
use Rattle.std.specs.Prelude.{◌++◌, ℕ, neg_ℤ, pos, Bool, List, [], ◌∷◌, Option, Some, None, Result, Ok, Err, if◌then◌else◌, length, map, get_or, unwrap_or, codes}
use Rattle.std.specs.Borrow.{Bor}
use Rattle.std.specs.List.{flat_map}
use Rattle.nf_num.specs.Rational.{ℚ, frac, neg_ℚ, zero_ℚ}
use Rattle.nf_frac.specs.declared.amount.Amount.{Amount}
use Rattle.nf_frac.specs.Amounts.{amount_value}
use Rattle.nf_frac.specs.Texts.{frac_text}
use Rattle.nf_model.specs.declared.RowKind.TheVariants.{Eq}
use Rattle.nf_model.specs.Program.{Column, Row, LinearProgram}
use Rattle.nf_prob.specs.Building.{new_column}
use Rattle.nf_labels.specs.Labels.{LabelList, NodeText}
use Rattle.nf_table.specs.Grid.{Cells, Grid}
use Rattle.nf_cells.specs.Names.{Name, place_of}
use Rattle.nf_cells.specs.declared.values.Bound.{Bound}
use Rattle.nf_cells.specs.declared.values.Bound.TheVariants.{Finite, Infinite}
use Rattle.nf_cells.specs.declared.values.Supply.{Supply}
use Rattle.nf_cells.specs.declared.values.Supply.TheVariants as supply
use Rattle.nf_program.specs.declared.program.ProcOptions.{ProcOptions}
use Rattle.nf_program.specs.declared.program.Bound.{Bound as OptionBound}
use Rattle.nf_program.specs.declared.program.Bound.TheVariants as option
use Rattle.nf_program.specs.declared.program.SetName.{SetName}
use Rattle.nf_program.specs.declared.program.SetName.TheVariants as set
use Rattle.nf_roles.specs.declared.fault.CellFault.{CellFault}
use Rattle.nf_roles.specs.declared.fault.DataFault.{DataFault}
use Rattle.nf_roles.specs.First.{or_else}
use Rattle.nf_roles.specs.Roles.{RoleColumns, column_text}
use Rattle.nf_network.specs.declared.rows.Defaults.{Defaults}
use Rattle.nf_network.specs.declared.excess.Balance.{Balance}
use Rattle.nf_network.specs.Rows.{ArcRow, NodeRow, arc_rows, node_rows}
use Rattle.nf_network.specs.Arcs.{tail_of, head_of, arc_name, figures_of, given}
use Rattle.nf_network.specs.Faults.{excess, first_arc_fault}
use Rattle.nf_network.specs.NodeData.{all_nodes, first_node_fault, first_option_fault, gifts_to}
use Rattle.nf_network.specs.Excess.{joined_below, thousandths_of, balance_of, has_excess, for_each}

-- ---- columns
-- The bound of an option as a bound of data.
abbrev pub bound_in_data : OptionBound → Bound
bound_in_data (option.Finite a) = Finite a
bound_in_data option.Infinite = Infinite

abbrev pub bound_or_infinite : Option OptionBound → Bound
bound_or_infinite None = Infinite
bound_or_infinite (Some b) = bound_in_data b

-- What an arc has where its row does not say it: DEFCOST or 0, DEFMINFLOW or 0, DEFCAPACITY or no bound.
abbrev pub defaults_of : ProcOptions → Defaults
defaults_of o = record {
  cost = unwrap_or o.defcost (record { thousandths = pos 0 });
  lower = unwrap_or o.defminflow (record { thousandths = pos 0 });
  upper = bound_or_infinite o.defcapacity;
}

-- A cost of the program in the minimised problem.
abbrev pub in_sense : Bool → Amount → ℚ
in_sense maximize a = if maximize then neg_ℚ (amount_value a) else amount_value a

-- The upper bound that a bound is.
abbrev pub upper_of : Bound → Option ℚ
upper_of (Finite a) = Some (amount_value a)
upper_of Infinite = None

-- The column of an arc, where these are the nodes.
abbrev pub arc_column : ProcOptions → List Name → ArcRow → Column
arc_column o nodes r =
    new_column (Some (record { tail = place_of (tail_of r) nodes; head = place_of (head_of r) nodes }))
    (in_sense o.maximize (figures_of (defaults_of o) r).cost) (Some (amount_value (figures_of (defaults_of o) r).lower)) (upper_of (figures_of (defaults_of o) r).upper)

-- An excess arc costs 0, has the lower bound 0 and no capacity.
abbrev pub excess_column : ℕ → ℕ → Column
excess_column tail head = new_column (Some (record { tail = tail; head = head })) zero_ℚ (Some zero_ℚ) None

-- The excess arcs, by node number; `_EXCESS_` comes behind the nodes.
abbrev pub excess_columns_at : Balance → List (Option Supply) → ℕ → List Column
excess_columns_at b vs k = for_each b (get_or vs k None) (excess_column k (length vs)) (excess_column (length vs) k)

abbrev pub excess_columns : Balance → List (Option Supply) → List Column
excess_columns b vs = joined_below (length vs) (excess_columns_at b vs)

-- ---- rows
-- A node's row: what leaves it less what enters it is its value.
abbrev pub node_row : Option Supply → Row
node_row v = record { kind = Eq; right = frac (thousandths_of v) 1000 }

-- The value of `_EXCESS_`.
abbrev pub excess_value : Balance → ℚ
excess_value b = frac (neg_ℤ b.total) 1000

-- What there is for `_EXCESS_`, where it is there.
abbrev pub if_excess : {A : Type 0} → Balance → List (Option Supply) → A → List A
if_excess b vs x = if has_excess b vs then x ∷ [] else []

-- The program: a column for each row of ARCDATA in order and then the excess arcs, and a row for each node.
abbrev pub program_of : ProcOptions → List Column → List (Option Supply) → LinearProgram
program_of o arcs vs =
    let b = balance_of o.thrunet vs in
    let columns = arcs ++ excess_columns b vs in
    let rows = map node_row vs ++ if_excess b vs (record { kind = Eq; right = excess_value b }) in
    record { columns = columns; rows = rows; nodes = length rows; arcs = length columns; maximizes = o.maximize }

-- ---- labels
-- The text of a node's value: an amount in lowest terms, `.S`, `.D`, or 0 where none is given.
abbrev pub supdem_text : Option Supply → List ℕ
supdem_text None = frac_text zero_ℚ
supdem_text (Some (supply.Amount a)) = frac_text (amount_value a)
supdem_text (Some supply.OpenSupply) = codes ".S"
supdem_text (Some supply.OpenDemand) = codes ".D"

-- The labels of nodes, by their names and values.
abbrev pub node_text_at : List Name → List (Option Supply) → ℕ → List NodeText
node_text_at names vs k = record { name = get_or names k []; supdem = supdem_text (get_or vs k None) } ∷ []

abbrev pub node_texts : List Name → List (Option Supply) → List NodeText
node_texts names vs = joined_below (length names) (node_text_at names vs)

-- The names of the excess arcs of a node: tail, underscore, head.
abbrev pub excess_names_at : Balance → List Name → List (Option Supply) → ℕ → List Name
excess_names_at b names vs k = for_each b (get_or vs k None) (get_or names k [] ++ 95 ∷ excess) (excess ++ 95 ∷ get_or names k [])

abbrev pub excess_names : Balance → List Name → List (Option Supply) → List Name
excess_names b names vs = joined_below (length vs) (excess_names_at b names vs)

-- The cells of ID columns, as they stand in the rows.
abbrev pub cells_at : List ℕ → Cells → List (List ℕ)
cells_at columns cells = map (λ c. get_or cells c []) columns

-- The labels: the nodes and then `_EXCESS_`, the arcs and then the excess arcs, and the ID columns of ARCDATA.
abbrev pub labels_of : Bool → List Name → List (Option Supply) → List Name → List ℕ → Grid → LabelList
labels_of thrunet names vs arcs ids table =
    let b = balance_of thrunet vs in
    record {
      nodes = node_texts names vs ++ if_excess b vs (record { name = excess; supdem = frac_text (excess_value b) });
      columns = arcs ++ excess_names b names vs;
      own_arcs = length arcs;
      constraints = [];
      id_headers = cells_at ids table.header;
      ids = flat_map (cells_at ids) table.rows;
    }

-- ---- the network, or the first fault
-- A program with its labels.
pub record Network : Type 0 where
  pub program : LinearProgram
  pub labels : LabelList

-- A fault of a cell, told by its data set, row and column.
abbrev pub in_set : SetName → RoleColumns → Cells → Option (ℕ × CellFault) → Option DataFault
in_set s roles header None = None
in_set s roles header (Some f) = Some (record { set = s; row = f.0; column = column_text roles header f.1.role; kind = f.1.kind })

-- The first fault: of ARCDATA, then of NODEDATA, then of the options.
abbrev pub first_fault : ProcOptions → RoleColumns → Grid → RoleColumns → Grid → Option DataFault
first_fault o arc_roles arcs node_roles nodes =
    or_else (in_set set.Arcdata arc_roles arcs.header (first_arc_fault (defaults_of o) (arc_rows arc_roles arcs.rows)))
    (or_else (in_set set.Nodedata node_roles nodes.header (first_node_fault (arc_rows arc_roles arcs.rows) (node_rows node_roles nodes.rows)))
    (first_option_fault o (arc_rows arc_roles arcs.rows) (node_rows node_roles nodes.rows)))

-- The values of the nodes: what each is given first.
abbrev pub values : ProcOptions → List ArcRow → List NodeRow → List (Option Supply)
values o arcs nodes = map (given (gifts_to o arcs nodes)) (all_nodes arcs nodes)

-- The network of rows without a fault; the ID cells are those of the table of arcs.
abbrev pub network_of : ProcOptions → List ArcRow → List NodeRow → List ℕ → Grid → Network
network_of o arcs nodes ids table = record {
  program = program_of o (map (arc_column o (all_nodes arcs nodes)) arcs) (values o arcs nodes);
  labels = labels_of o.thrunet (all_nodes arcs nodes) (values o arcs nodes) (map arc_name arcs) ids table;
}

abbrev pub unless_fault : Option DataFault → Network → Result Network DataFault
unless_fault None n = Ok n
unless_fault (Some f) n = Err f

-- The network of two tables whose columns have these roles, or the first fault of their data.
unfoldable pub network_due : ProcOptions → RoleColumns → Grid → RoleColumns → Grid → Result Network DataFault
network_due o arc_roles arcs node_roles nodes =
    unless_fault (first_fault o arc_roles arcs node_roles nodes)
    (network_of o (arc_rows arc_roles arcs.rows) (node_rows node_roles nodes.rows) arc_roles.ids arcs)

-- ---- NODEDATA that is not there has no rows
abbrev pub no_roles : RoleColumns
no_roles = record { columns = []; variables = []; ids = [] }

abbrev pub no_table : Grid
no_table = record { header = []; rows = []; hand = [] }

abbrev pub roles_or_none : Option (Bor RoleColumns) → RoleColumns
roles_or_none None = no_roles
roles_or_none (Some r) = r.now

abbrev pub table_or_none : Option (Bor Grid) → Grid
table_or_none None = no_table
table_or_none (Some t) = t.now
