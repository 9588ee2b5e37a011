-- Sparse CONDATA: what its lines say, and its faults in two rounds, in the order in which they are looked for.
-- The promise of `sparse` rests on it.
use Rattle.std.specs.Prelude.{◌++◌, ◌&&◌, ◌+◌, ℕ, pos, Bool, false, not, List, [], ◌∷◌, Option, Some, None, if◌then◌else◌, length, get_or, codes, unwrap_or, nat_eq}
use Rattle.std.specs.Bool.{nat_le, nat_lt}
use Rattle.std.specs.List.{list_any}
use Rattle.std.specs.Ordering.{int_eq}
use Rattle.std.specs.Str.{bytes_eq}
use Rattle.nf_frac.specs.declared.amount.Amount.{Amount}
use Rattle.nf_table.specs.Grid.{Cells}
use Rattle.nf_cells.specs.Names.{Name, first_seen, has_name, place_of}
use Rattle.nf_cells.specs.Values.{cell_by, cell_now, name_in, amount_in}
use Rattle.nf_cells.specs.declared.values.Cell.{Cell}
use Rattle.nf_cells.specs.declared.values.Cell.TheVariants.{Missing, Bad, Is}
use Rattle.nf_program.specs.declared.program.Role.{Role}
use Rattle.nf_program.specs.declared.program.Role.TheVariants as role
use Rattle.nf_roles.specs.declared.fault.DataKind.TheVariants as kind
use Rattle.nf_roles.specs.First.{or_else, first_below}
use Rattle.nf_roles.specs.Roles.{RoleColumns, cell_for}
use Rattle.nf_network.specs.Arcs.{said}
use Rattle.nf_network.specs.Excess.{joined_below}
use Rattle.nf_network.specs.Faults.{is_bad, is_said}
use Rattle.nf_cons_sparse.specs.declared.sparse_line.Line.{Line as LentLine}
use Rattle.nf_cons.specs.declared.places.DataColumn.TheVariants.{OfRole}
use Rattle.nf_cons.specs.declared.places.PlacedFault.{PlacedFault}
use Rattle.nf_cons.specs.declared.places.RowFault.{RowFault}
use Rattle.nf_cons.specs.declared.taken.SideRow.{SideRow}
use Rattle.nf_cons.specs.declared.taken.Term.{Term}
use Rattle.nf_cons.specs.declared.row_type.RowType.{RowType}
use Rattle.nf_cons.specs.declared.value.Value.{Value}
use Rattle.nf_cons.specs.declared.value.Value.TheVariants.{Finite, NoUpper, NoLower}
use Rattle.nf_cons.specs.Types.{is_side, same_type, side_kind, type_in}
use Rattle.nf_cons.specs.Values.{may_be, value_in}
use Rattle.nf_cons.specs.Places.{fault_if, first_of, in_row}
use Rattle.nf_cons.specs.Variables.{Mention, number_in, variable_faults}
use Rattle.nf_cons.specs.Terms.{Given, lists_of, term_faults}
use Rattle.nf_cons.specs.Dense.{most_coefficients, most_constraints, side_if}

-- ---- lines
-- A line: its constraint, the constraint's type, a variable, its coefficient, and the constraint's right side.
pub record SparseLine : Type 0 where
  pub row : Cell Name
  pub row_type : Cell RowType
  pub column : Cell Name
  pub coef : Cell Value
  pub right : Cell Amount

-- The value of a cell, whatever its bytes.
abbrev pub text_in : List ℕ → Cell Name
text_in = cell_by (λ v. Some v)

-- A line, read by roles.
abbrev pub sparse_line : RoleColumns → Cells → SparseLine
sparse_line roles cells = record {
  row = name_in (cell_for roles role.Row cells);
  row_type = type_in (cell_for roles role.ConKind cells);
  column = text_in (cell_for roles role.Column cells);
  coef = value_in (cell_for roles role.Coef cells);
  right = amount_in (cell_for roles role.Rhs cells);
}

abbrev pub no_line : SparseLine
no_line = record { row = Missing; row_type = Missing; column = Missing; coef = Missing; right = Missing }

-- The line that lends its names.
abbrev pub line_now : LentLine → SparseLine
line_now l = record { row = cell_now l.row; row_type = l.row_type; column = cell_now l.column; coef = l.coef; right = l.right }

-- The constraint of a line, and the variable in it.
abbrev pub row_of : SparseLine → Name
row_of l = said [] l.row

abbrev pub variable_of : SparseLine → Name
variable_of l = said [] l.column

-- `_RHS_` in the place of a variable: the coefficient is a right side.
abbrev pub is_right : SparseLine → Bool
is_right l = bytes_eq (variable_of l) (codes "_RHS_")

-- A line names a variable where COLUMN is neither missing nor `_RHS_`; a coefficient is none of `_RHS_`.
abbrev pub has_variable : SparseLine → Bool
has_variable l = is_said l.column && not (is_right l)

abbrev pub coef_of : SparseLine → Cell Value
coef_of l = if is_right l then Missing else l.coef

abbrev pub has_coefficient : SparseLine → Bool
has_coefficient l = has_variable l && is_said l.coef

-- A coefficient as a right side: INF and -INF are none.
abbrev pub as_right : Cell Value → Cell Amount
as_right Missing = Missing
as_right Bad = Bad
as_right (Is (Finite a)) = Is a
as_right (Is NoUpper) = Bad
as_right (Is NoLower) = Bad

abbrev pub coef_right : SparseLine → Cell Amount
coef_right l = if is_right l then as_right l.coef else Missing

-- What a cell says, if it says a value.
abbrev pub value_if : {A : Type 0} → Cell A → Option A
value_if Missing = None
value_if Bad = None
value_if (Is x) = Some x

-- ---- the table
-- The arcs' names, the type of a constraint that is given none, and the lines.
pub record Sparse : Type 0 where
  pub arcs : List Name
  pub default : RowType
  pub lines : List SparseLine

abbrev pub line_at : Sparse → ℕ → SparseLine
line_at s k = get_or s.lines k no_line

-- The variables that the first k lines mention.
abbrev pub mention_of : ℕ → SparseLine → Mention
mention_of n l = record { variable = variable_of l; home = record { row = n; place = OfRole role.Column } }

abbrev pub mention_at : Sparse → ℕ → List Mention
mention_at s k = if has_variable (line_at s k) then mention_of (k + 1) (line_at s k) ∷ [] else []

abbrev pub mentions : Sparse → ℕ → List Mention
mentions s k = joined_below k (mention_at s)

-- The constraints of the first k lines, in the order in which they first stand.
abbrev pub row_name_at : Sparse → ℕ → List Name
row_name_at s k = row_of (line_at s k) ∷ []

abbrev pub row_names : Sparse → ℕ → List Name
row_names s k = first_seen (joined_below k (row_name_at s))

-- The type, and the right side, that the first k lines give a constraint: what the first of them says that says one.
abbrev pub type_said : Sparse → Name → ℕ → Option RowType
type_said s r k = if bytes_eq r (row_of (line_at s k)) then value_if (line_at s k).row_type else None

abbrev pub given_type : Sparse → ℕ → Name → Option RowType
given_type s k r = first_below k (type_said s r)

abbrev pub right_said : Sparse → Name → ℕ → Option Amount
right_said s r k =
    if bytes_eq r (row_of (line_at s k)) then or_else (value_if (coef_right (line_at s k))) (value_if (line_at s k).right) else None

abbrev pub given_right : Sparse → ℕ → Name → Option Amount
given_right s k r = first_below k (right_said s r)

-- ---- numbers
-- Constraints and variables are numbered from 0, in the order in which they first stand.
abbrev pub row_number : Sparse → ℕ → ℕ
row_number s k = place_of (row_of (line_at s k)) (row_names s (length s.lines))

abbrev pub variable_number : Sparse → ℕ → ℕ
variable_number s k = number_in s.arcs (mentions s (length s.lines)) (variable_of (line_at s k))

-- Which variables have coefficients in which constraints.
abbrev pub pair_at : Sparse → ℕ → List (ℕ × ℕ)
pair_at s k = if has_coefficient (line_at s k) then (row_number s k, variable_number s k) ∷ [] else []

abbrev pub pairs : Sparse → ℕ → List (ℕ × ℕ)
pairs s k = joined_below k (pair_at s)

abbrev pub same_pair : ℕ × ℕ → ℕ × ℕ → Bool
same_pair p q = nat_eq p.0 q.0 && nat_eq p.1 q.1

abbrev pub has_pair : ℕ × ℕ → List (ℕ × ℕ) → Bool
has_pair p ps = list_any (same_pair p) ps

-- ---- the first round
-- A cell says another value than the one that was given before.
abbrev pub type_differs : Option RowType → Cell RowType → Bool
type_differs (Some t) (Is u) = not (same_type t u)
type_differs (Some t) Missing = false
type_differs (Some t) Bad = false
type_differs None cell = false

abbrev pub right_differs : Option Amount → Cell Amount → Bool
right_differs (Some a) (Is b) = not (int_eq a.thousandths b.thousandths)
right_differs (Some a) Missing = false
right_differs (Some a) Bad = false
right_differs None cell = false

-- The faults of ROW, of TYPE, and of a right side in the cell of a role.
abbrev pub row_faults : Cell Name → List (Option PlacedFault)
row_faults cell = fault_if (not (is_said cell)) (OfRole role.Row) kind.BadName ∷ []

abbrev pub type_faults : Option RowType → Cell RowType → List (Option PlacedFault)
type_faults before cell =
    fault_if (is_bad cell) (OfRole role.ConKind) kind.UnknownKind
    ∷ fault_if (type_differs before cell) (OfRole role.ConKind) kind.TwoKinds
    ∷ []

abbrev pub right_faults : Role → Option Amount → Cell Amount → List (Option PlacedFault)
right_faults r before cell =
    fault_if (is_bad cell) (OfRole r) kind.Amount
    ∷ fault_if (right_differs before cell) (OfRole r) kind.TwoRightSides
    ∷ []

-- The faults of COLUMN, where the line names a variable.
abbrev pub name_faults : List Name → List Mention → ℕ → SparseLine → List (Option PlacedFault)
name_faults arcs above n l = if has_variable l then variable_faults arcs above false (mention_of n l) else []

-- The faults of COEF, where it is no right side: the variable may have a coefficient in this constraint already.
abbrev pub coef_faults : List (ℕ × ℕ) → ℕ × ℕ → SparseLine → List (Option PlacedFault)
coef_faults above pair l =
    fault_if (is_bad (coef_of l)) (OfRole role.Coef) kind.Amount
    ∷ fault_if (has_coefficient l && has_pair pair above) (OfRole role.Column) kind.RepeatedCoefficient
    ∷ fault_if (has_coefficient l && nat_le most_coefficients (length above)) (OfRole role.Coef) kind.LimitPassed
    ∷ []

-- The fault of line k in the first round: of ROW, TYPE, COLUMN, COEF and RHS. A coefficient of `_RHS_` counts as a right
-- side of an earlier line.
abbrev pub line_faults : Sparse → ℕ → SparseLine → List (Option PlacedFault)
line_faults s k l =
    row_faults l.row
    ++ type_faults (given_type s k (row_of l)) l.row_type
    ++ name_faults s.arcs (mentions s k) (k + 1) l
    ++ right_faults role.Coef (given_right s k (row_of l)) (coef_right l)
    ++ coef_faults (pairs s k) (row_number s k, variable_number s k) l
    ++ right_faults role.Rhs (or_else (given_right s k (row_of l)) (value_if (coef_right l))) l.right

unfoldable pub line_fault_at : Sparse → ℕ → Option PlacedFault
line_fault_at s k = first_of (line_faults s k (line_at s k))

abbrev pub first_line_fault : Sparse → Option RowFault
first_line_fault s = first_below (length s.lines) (λ k. in_row (k + 1) (line_fault_at s k))

-- ---- the second round: the types of all constraints are known
abbrev pub row_type_of : Sparse → Name → RowType
row_type_of s r = unwrap_or (given_type s (length s.lines) r) s.default

abbrev pub type_at : Sparse → ℕ → RowType
type_at s k = row_type_of s (row_of (line_at s k))

-- Line k is the first of its constraint.
abbrev pub is_first : Sparse → ℕ → Bool
is_first s k = not (has_name (row_of (line_at s k)) (row_names s k))

-- The constraint that stands first in line k, if it is a row of the problem, and all of the first k lines.
abbrev pub side_of : Sparse → ℕ → Name → List SideRow
side_of s number r = side_if number (unwrap_or (given_right s (length s.lines) r) (record { thousandths = pos 0 })) (side_kind (row_type_of s r))

abbrev pub side_at : Sparse → ℕ → List SideRow
side_at s k = if is_first s k then side_of s (length (row_names s k)) (row_of (line_at s k)) else []

abbrev pub sides : Sparse → ℕ → List SideRow
sides s k = joined_below k (side_at s)

-- The number of each constraint of the first k lines among those that are rows of the problem: how many stand before it.
abbrev pub side_number_at : Sparse → ℕ → List ℕ
side_number_at s k = if is_first s k then length (sides s k) ∷ [] else []

abbrev pub side_numbers : Sparse → ℕ → List ℕ
side_numbers s k = joined_below k (side_number_at s)

abbrev pub constraint_at : Sparse → ℕ → ℕ
constraint_at s k = get_or (side_numbers s (k + 1)) (row_number s k) 0

-- What line k gives, if it has a coefficient, and what the first k lines give.
abbrev pub line_term : ℕ → ℕ → Value → Term
line_term arcs v x = record { variable = v; is_arc = nat_lt v arcs; value = x; named_at = OfRole role.Column; given_at = OfRole role.Coef }

abbrev pub term_at : Sparse → ℕ → Term
term_at s k = line_term (length s.arcs) (variable_number s k) (said NoUpper (line_at s k).coef)

unfoldable pub given_at : Sparse → ℕ → List Given
given_at s k =
    if has_coefficient (line_at s k)
    then record { row_type = type_at s k; term = term_at s k; constraint = constraint_at s k; row = k + 1 } ∷ []
    else []

abbrev pub givens : Sparse → ℕ → List Given
givens s k = joined_below k (given_at s)

-- A cell says a value that a row of this type may not give.
abbrev pub is_misplaced : RowType → Cell Value → Bool
is_misplaced t Missing = false
is_misplaced t Bad = false
is_misplaced t (Is x) = not (may_be t x)

-- The fault of line k in the second round: of the number of its constraint, and of its coefficient.
abbrev pub number_faults : Sparse → ℕ → List (Option PlacedFault)
number_faults s k =
    fault_if (is_first s k && is_side (type_at s k) && nat_le most_constraints (length (sides s k))) (OfRole role.Row) kind.LimitPassed ∷ []

abbrev pub value_faults : RowType → Cell Value → List (Option PlacedFault)
value_faults t cell = fault_if (is_misplaced t cell) (OfRole role.Coef) kind.Amount ∷ []

unfoldable pub typed_fault_at : Sparse → ℕ → Option PlacedFault
typed_fault_at s k =
    first_of (number_faults s k
    ++ (if has_coefficient (line_at s k) then term_faults (type_at s k) (term_at s k) (lists_of (givens s k)) else value_faults (type_at s k) (coef_of (line_at s k))))

abbrev pub first_typed_fault : Sparse → Option RowFault
first_typed_fault s = first_below (length s.lines) (λ k. in_row (k + 1) (typed_fault_at s k))
