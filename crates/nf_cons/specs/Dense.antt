-- Dense CONDATA: the variables of its header, what its rows say, and its faults in the order in which they are looked for.
-- The promise of `dense` rests on it.
use Rattle.std.specs.Prelude.{◌++◌, ◌&&◌, ◌+◌, ℕ, pos, true, List, [], ◌∷◌, Option, Some, None, length, map, take, get_or, codes, decimal}
use Rattle.std.specs.Bool.{nat_le, nat_lt}
use Rattle.nf_frac.specs.declared.amount.Amount.{Amount}
use Rattle.nf_table.specs.Grid.{Cells}
use Rattle.nf_cells.specs.Cells.{is_blank, value_of}
use Rattle.nf_cells.specs.Names.{Name, has_name}
use Rattle.nf_cells.specs.Values.{name_in, amount_in}
use Rattle.nf_cells.specs.declared.values.Cell.{Cell}
use Rattle.nf_cells.specs.declared.values.Cell.TheVariants.{Missing, Bad, Is}
use Rattle.nf_model.specs.declared.RowKind.{RowKind}
use Rattle.nf_program.specs.declared.program.Role.TheVariants as role
use Rattle.nf_roles.specs.declared.fault.DataKind.TheVariants as kind
use Rattle.nf_roles.specs.First.{or_else, first_below}
use Rattle.nf_roles.specs.Roles.{RoleColumns, cell_for}
use Rattle.nf_network.specs.Arcs.{said}
use Rattle.nf_network.specs.Excess.{joined_below}
use Rattle.nf_network.specs.Faults.{is_bad}
use Rattle.nf_cons.specs.declared.places.DataColumn.TheVariants.{OfRole, Column}
use Rattle.nf_cons.specs.declared.places.PlacedFault.{PlacedFault}
use Rattle.nf_cons.specs.declared.places.RowFault.{RowFault}
use Rattle.nf_cons.specs.declared.taken.SideRow.{SideRow}
use Rattle.nf_cons.specs.declared.taken.Term.{Term}
use Rattle.nf_cons.specs.declared.row_type.RowType.{RowType}
use Rattle.nf_cons.specs.declared.value.Value.{Value}
use Rattle.nf_cons.specs.Types.{is_side, side_kind, type_in}
use Rattle.nf_cons.specs.Values.{value_in}
use Rattle.nf_cons.specs.Places.{fault_if, first_of, in_row}
use Rattle.nf_cons.specs.Variables.{Mention, names_in, variable_faults}
use Rattle.nf_cons.specs.Terms.{Given, TermLists, lists_of, term_faults}

-- ---- the header
-- A column of the header names a variable: its cell without the spaces at both ends.
abbrev pub mention_at : Cells → ℕ → Mention
mention_at header c = record { variable = value_of (get_or header c []); home = record { row = 0; place = Column c } }

abbrev pub mentions : RoleColumns → Cells → List Mention
mentions roles header = map (mention_at header) roles.variables

-- The faults of a variable's column, where the columns before it name other variables.
abbrev pub column_faults : List Name → List Mention → Mention → List (Option PlacedFault)
column_faults arcs above m =
    fault_if (is_blank m.variable) m.home.place kind.BadName
    ∷ variable_faults arcs above (has_name m.variable (names_in above)) m

abbrev pub no_mention : Mention
no_mention = record { variable = []; home = record { row = 0; place = Column 0 } }

-- The fault of the k-th of these columns, from 0, and the first fault of the header.
unfoldable pub column_fault_at : List Name → List Mention → ℕ → Option PlacedFault
column_fault_at arcs ms k = first_of (column_faults arcs (take k ms) (get_or ms k no_mention))

abbrev pub first_header_fault : List Name → List Mention → Option RowFault
first_header_fault arcs ms = first_below (length ms) (λ k. in_row 0 (column_fault_at arcs ms k))

-- ---- the rows
-- A row: its name, type and right side, and a cell for each variable from the left.
pub record DenseRow : Type 0 where
  pub name : Cell Name
  pub row_type : Cell RowType
  pub right : Cell Amount
  pub cells : List (Cell Value)

-- A row, read by roles.
abbrev pub dense_row : RoleColumns → Cells → DenseRow
dense_row roles cells = record {
  name = name_in (cell_for roles role.Row cells);
  row_type = type_in (cell_for roles role.ConKind cells);
  right = amount_in (cell_for roles role.Rhs cells);
  cells = map (λ c. value_in (get_or cells c [])) roles.variables;
}

abbrev pub no_row : DenseRow
no_row = record { name = Missing; row_type = Missing; right = Missing; cells = [] }

-- What the rows are read by: the column of each variable with the variable's number, how many arcs there are, and the type
-- of a row that gives none.
pub record Dense : Type 0 where
  pub columns : List ℕ
  pub variables : List ℕ
  pub arcs : ℕ
  pub default : RowType
  pub rows : List DenseRow

abbrev pub row_at : Dense → ℕ → DenseRow
row_at d k = get_or d.rows k no_row

-- A row's name; without one it is `_OBSn_`, where n is its number from 1.
abbrev pub row_name : ℕ → Cell Name → Name
row_name n cell = said (codes "_OBS" ++ (decimal n ++ codes "_")) cell

abbrev pub names_at : Dense → ℕ → List Name
names_at d k = row_name (k + 1) (row_at d k).name ∷ []

abbrev pub names : Dense → ℕ → List Name
names d k = joined_below k (names_at d)

-- A row's type, and its right side.
abbrev pub type_at : Dense → ℕ → RowType
type_at d k = said d.default (row_at d k).row_type

abbrev pub right_at : Dense → ℕ → Amount
right_at d k = said (record { thousandths = pos 0 }) (row_at d k).right

-- The constraint that row k is, if it is one.
abbrev pub side_if : ℕ → Amount → Option RowKind → List SideRow
side_if k right None = []
side_if k right (Some kind) = record { name = k; kind = kind; right = right } ∷ []

abbrev pub side_at : Dense → ℕ → List SideRow
side_at d k = side_if k (right_at d k) (side_kind (type_at d k))

-- The constraints of the first k rows.
abbrev pub sides : Dense → ℕ → List SideRow
sides d k = joined_below k (side_at d)

-- ---- the cells of variables
-- A value in the column c of a variable v, where so many variables are arcs.
abbrev pub cell_term : ℕ → ℕ → ℕ → Value → Term
cell_term arcs c v x = record { variable = v; is_arc = nat_lt v arcs; value = x; named_at = Column c; given_at = Column c }

-- What a cell gives, if it says a value: a missing cell is no coefficient.
abbrev pub given_by : RowType → ℕ → ℕ → ℕ → ℕ → ℕ → Cell Value → List Given
given_by t arcs c v constraint n Missing = []
given_by t arcs c v constraint n Bad = []
given_by t arcs c v constraint n (Is x) = record { row_type = t; term = cell_term arcs c v x; constraint = constraint; row = n } ∷ []

abbrev pub cell_at : Dense → ℕ → ℕ → Cell Value
cell_at d k i = get_or (row_at d k).cells i Missing

-- What cell i of row k gives; its constraint has as number that of the constraints above.
unfoldable pub given_at : Dense → ℕ → ℕ → List Given
given_at d k i = given_by (type_at d k) d.arcs (get_or d.columns i 0) (get_or d.variables i 0) (length (sides d k)) (k + 1) (cell_at d k i)

-- What the first k rows give, and what is given before cell i of row k.
abbrev pub given_in : Dense → ℕ → List Given
given_in d k = joined_below (length d.variables) (given_at d k)

abbrev pub givens : Dense → ℕ → List Given
givens d k = joined_below k (given_in d)

abbrev pub given_before : Dense → ℕ → ℕ → List Given
given_before d k i = givens d k ++ joined_below i (given_at d k)

-- ---- the faults
abbrev pub most_constraints : ℕ
most_constraints = 500

abbrev pub most_coefficients : ℕ
most_coefficients = 400_000

-- The faults of the name of row n below rows of these names.
abbrev pub name_faults : List Name → ℕ → Cell Name → List (Option PlacedFault)
name_faults above n cell =
    fault_if (is_bad cell) (OfRole role.Row) kind.BadName
    ∷ fault_if (has_name (row_name n cell) above) (OfRole role.Row) kind.RepeatedRow
    ∷ []

-- The faults of a type below so many constraints.
abbrev pub type_faults : RowType → ℕ → Cell RowType → List (Option PlacedFault)
type_faults default above cell =
    fault_if (is_bad cell) (OfRole role.ConKind) kind.UnknownKind
    ∷ fault_if (is_side (said default cell) && nat_le most_constraints above) (OfRole role.Row) kind.LimitPassed
    ∷ []

-- The fault of a right side; that of a row of data is not used.
abbrev pub right_faults : Cell Amount → List (Option PlacedFault)
right_faults cell = fault_if (is_bad cell) (OfRole role.Rhs) kind.Amount ∷ []

-- The faults of a cell in the column c of a variable v, where so much was given before.
abbrev pub cell_faults : RowType → ℕ → ℕ → ℕ → TermLists → ℕ → Cell Value → List (Option PlacedFault)
cell_faults t arcs c v before count Missing = []
cell_faults t arcs c v before count Bad = fault_if true (Column c) kind.Amount ∷ []
cell_faults t arcs c v before count (Is x) =
    term_faults t (cell_term arcs c v x) before
    ++ fault_if (nat_le most_coefficients count) (Column c) kind.LimitPassed ∷ []

unfoldable pub cell_fault_at : Dense → ℕ → ℕ → Option PlacedFault
cell_fault_at d k i =
    first_of (cell_faults (type_at d k) d.arcs (get_or d.columns i 0) (get_or d.variables i 0) (lists_of (given_before d k i)) (length (given_before d k i)) (cell_at d k i))

-- The fault of row k, from 0: of its name, type and right side, and then of its cells from the left.
abbrev pub head_faults : Dense → ℕ → List (Option PlacedFault)
head_faults d k =
    name_faults (names d k) (k + 1) (row_at d k).name
    ++ type_faults d.default (length (sides d k)) (row_at d k).row_type
    ++ right_faults (row_at d k).right

unfoldable pub row_fault_at : Dense → ℕ → Option PlacedFault
row_fault_at d k = or_else (first_of (head_faults d k)) (first_below (length d.variables) (cell_fault_at d k))

-- The first fault of the rows.
abbrev pub first_row_fault : Dense → Option RowFault
first_row_fault d = first_below (length d.rows) (λ k. in_row (k + 1) (row_fault_at d k))
