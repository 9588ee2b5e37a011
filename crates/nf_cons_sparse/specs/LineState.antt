-- Working definitions, on which the promise of `sparse` does not rest: how the first pass over the lines of sparse CONDATA
-- stands, and what one line more finds and leaves.
use Rattle.std.specs.Prelude.{◌≡◌, ◌++◌, ◌&&◌, ℕ, Bool, true, false, List, [], ◌∷◌, Option, Some, None, if◌then◌else◌, is_some, unwrap_or, length, map, get_or, slice_set}
use Rattle.std.specs.Bool.{nat_le}
use Rattle.nf_frac.specs.declared.amount.Amount.{Amount}
use Rattle.nf_cells.specs.Names.{Name, has_name, is_once, place_of, with_name}
use Rattle.nf_cells.specs.declared.values.Cell.{Cell}
use Rattle.nf_program.specs.declared.program.Role.TheVariants as role
use Rattle.nf_roles.specs.declared.fault.DataKind.TheVariants as kind
use Rattle.nf_roles.specs.First.{or_else}
use Rattle.nf_network.specs.Arcs.{said}
use Rattle.nf_network.specs.Excess.{joined_below}
use Rattle.nf_network.specs.Faults.{is_said}
use Rattle.nf_cons.specs.declared.places.DataColumn.TheVariants.{OfRole}
use Rattle.nf_cons.specs.declared.places.PlacedFault.{PlacedFault}
use Rattle.nf_cons.specs.declared.row_type.RowType.{RowType}
use Rattle.nf_cons.specs.Dense.{most_coefficients}
use Rattle.nf_cons.specs.Naming.{IsSound, VariableList, faults_now, number_now, with_mention}
use Rattle.nf_cons.specs.Passing.{AreNamed}
use Rattle.nf_cons.specs.Places.{fault_if}
use Rattle.nf_cons.specs.Variables.{Mention}
use Rattle.nf_cons_sparse.specs.declared.given.GivenRow.{GivenRow}
use Rattle.nf_cons_sparse.specs.declared.given.TakenLine.{TakenLine}
use Rattle.nf_cons_sparse.specs.Sparse.{Sparse, SparseLine, coef_faults, coef_of, coef_right, given_right, has_pair, given_type, has_coefficient, has_variable, line_at, mention_of, mentions, pairs, right_faults, row_faults, row_names, row_number, row_of, type_faults, value_if, variable_number, variable_of}

-- What is kept of the lines so far.
pub record LineState : Type 0 where
  pub default : RowType
  pub names : List Name
  pub given : List GivenRow
  pub variables : VariableList
  pub pairs : List (ℕ × ℕ)
  pub taken : List TakenLine

abbrev pub no_given : GivenRow
no_given = record { row_type = None; right = None }

-- There is what is given for each constraint, and the variables can be counted.
pub record IsKept (s : LineState) : Type 0 where
  pub each : length s.given ≡ length s.names
  pub variables : IsSound s.variables

-- What a constraint is given.
abbrev pub given_now : LineState → Name → GivenRow
given_now s r = get_or s.given (place_of r s.names) no_given

-- The constraint of a line, and its variable, by their numbers.
abbrev pub pair_now : LineState → SparseLine → ℕ × ℕ
pair_now s l = (place_of (row_of l) s.names, number_now s.variables (variable_of l))

-- The faults of COLUMN.
abbrev pub name_faults_now : VariableList → ℕ → SparseLine → List (Option PlacedFault)
name_faults_now v n l = if has_variable l then faults_now v false (mention_of n l) else []

-- The same by the cell of COLUMN, and what it leaves: the variables, and the number of the variable.
abbrev pub cell_mention : ℕ → Cell Name → Mention
cell_mention n cell = record { variable = said [] cell; home = record { row = n; place = OfRole role.Column } }

abbrev pub cell_faults : VariableList → ℕ → Cell Name → List (Option PlacedFault)
cell_faults v n cell = if is_said cell then faults_now v false (cell_mention n cell) else []

abbrev pub cell_variables : VariableList → ℕ → Cell Name → VariableList
cell_variables v n cell = if is_said cell then with_mention v (cell_mention n cell) else v

abbrev pub cell_number : VariableList → Cell Name → Option ℕ
cell_number v cell = if is_said cell then Some (number_now v (said [] cell)) else None

-- The faults of COLUMN and COEF, for the constraint of a number, and what they leave.
abbrev pub column_faults : LineState → ℕ → ℕ → SparseLine → List (Option PlacedFault)
column_faults s i n l =
    name_faults_now s.variables n l
    ++ (right_faults role.Coef (get_or s.given i no_given).right (coef_right l) ++ coef_faults s.pairs (i, number_now s.variables (variable_of l)) l)

-- The faults of what a line says by numbers, and the pairs with it.
abbrev pub gives_pair : TakenLine → Bool
gives_pair t = is_some t.variable && is_some t.coef

abbrev pub pair_of : TakenLine → ℕ × ℕ
pair_of t = (t.row, unwrap_or t.variable 0)

abbrev pub pair_faults : List (ℕ × ℕ) → TakenLine → List (Option PlacedFault)
pair_faults above t =
    fault_if (gives_pair t && has_pair (pair_of t) above) (OfRole role.Column) kind.RepeatedCoefficient
    ∷ fault_if (gives_pair t && nat_le most_coefficients (length above)) (OfRole role.Coef) kind.LimitPassed
    ∷ []

-- The faults of line n, from 1, by what is kept.
abbrev pub line_faults_now : LineState → ℕ → SparseLine → List (Option PlacedFault)
line_faults_now s n l =
    row_faults l.row
    ++ type_faults (given_now s (row_of l)).row_type l.row_type
    ++ name_faults_now s.variables n l
    ++ right_faults role.Coef (given_now s (row_of l)).right (coef_right l)
    ++ coef_faults s.pairs (pair_now s l) l
    ++ right_faults role.Rhs (or_else (given_now s (row_of l)).right (value_if (coef_right l))) l.right

-- ---- what a line leaves
-- What the constraints are given, with one that may be new.
abbrev pub given_with : LineState → Name → List GivenRow
given_with s r = if has_name r s.names then s.given else s.given ++ no_given ∷ []

-- The same with a type, and with a right side, for the constraint of a number.
abbrev pub typed : List GivenRow → ℕ → Cell RowType → List GivenRow
typed gs i cell = slice_set gs i (record { row_type = or_else (get_or gs i no_given).row_type (value_if cell); right = (get_or gs i no_given).right })

abbrev pub righted : List GivenRow → ℕ → Cell Amount → List GivenRow
righted gs i cell = slice_set gs i (record { row_type = (get_or gs i no_given).row_type; right = or_else (get_or gs i no_given).right (value_if cell) })

abbrev pub variables_with : VariableList → ℕ → SparseLine → VariableList
variables_with v n l = if has_variable l then with_mention v (mention_of n l) else v

abbrev pub pairs_with : LineState → SparseLine → List (ℕ × ℕ)
pairs_with s l = if has_coefficient l then s.pairs ++ pair_now s l ∷ [] else s.pairs

abbrev pub variable_now : VariableList → SparseLine → Option ℕ
variable_now v l = if has_variable l then Some (number_now v (variable_of l)) else None

abbrev pub taken_now : LineState → SparseLine → TakenLine
taken_now s l = record { row = place_of (row_of l) s.names; variable = variable_now s.variables l; coef = value_if (coef_of l) }

-- The same for the constraint of a number, and what is kept with COLUMN and COEF.
abbrev pub line_taken : LineState → ℕ → SparseLine → TakenLine
line_taken s i l = record { row = i; variable = variable_now s.variables l; coef = value_if (coef_of l) }

abbrev pub with_column : LineState → ℕ → ℕ → SparseLine → LineState
with_column s i n l = record {
  default = s.default;
  names = s.names;
  given = righted s.given i (coef_right l);
  variables = variables_with s.variables n l;
  pairs = if has_coefficient l then s.pairs ++ (i, number_now s.variables (variable_of l)) ∷ [] else s.pairs;
  taken = s.taken;
}

-- What is kept with one line more.
abbrev pub with_line : LineState → ℕ → SparseLine → LineState
with_line s n l =
    let i = place_of (row_of l) s.names in
    record {
      default = s.default;
      names = with_name s.names (row_of l);
      given = righted (righted (typed (given_with s (row_of l)) i l.row_type) i (coef_right l)) i l.right;
      variables = variables_with s.variables n l;
      pairs = pairs_with s l;
      taken = s.taken ++ taken_now s l ∷ [];
    }

-- ---- after some lines
-- What the first k lines give a constraint.
abbrev pub given_to : Sparse → ℕ → Name → GivenRow
given_to s k r = record { row_type = given_type s k r; right = given_right s k r }

-- What line k says by numbers.
abbrev pub taken_at : Sparse → ℕ → List TakenLine
taken_at s k =
    record {
      row = row_number s k;
      variable = if has_variable (line_at s k) then Some (variable_number s k) else None;
      coef = value_if (coef_of (line_at s k));
    } ∷ []

-- What is kept is that of the first k lines.
pub record IsAfterLines (s : Sparse) (k : ℕ) (st : LineState) : Type 0 where
  pub default_is : st.default ≡ s.default
  pub names_are : st.names ≡ row_names s k
  pub once : is_once st.names ≡ true
  pub given_are : st.given ≡ map (given_to s k) st.names
  pub variables_are : AreNamed s.arcs (mentions s k) st.variables
  pub pairs_are : st.pairs ≡ pairs s k
  pub taken_are : st.taken ≡ joined_below k (taken_at s)
