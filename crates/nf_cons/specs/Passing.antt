-- Working definitions, on which no promise of `dense` or `sparse` rests: how the passes over CONDATA stand after some columns,
-- rows or lines. The contracts of `read_header`, `read_dense` and `read_sparse` rest on them.
use Rattle.std.specs.Prelude.{◌≡◌, ◌≤◌, ◌+◌, ℕ, List, ◌∷◌, Option, length, map}
use Rattle.std.specs.List.{fold}
use Rattle.nf_table.specs.Grid.{Grid}
use Rattle.nf_cells.specs.Cells.{is_blank}
use Rattle.nf_cells.specs.Names.{Name, has_name}
use Rattle.nf_roles.specs.declared.fault.DataKind.TheVariants as kind
use Rattle.nf_roles.specs.Roles.{RoleColumns}
use Rattle.nf_cons.specs.declared.places.PlacedFault.{PlacedFault}
use Rattle.nf_cons.specs.declared.taken.SideRow.{SideRow}
use Rattle.nf_cons.specs.declared.row_type.RowType.{RowType}
use Rattle.nf_cons.specs.ArcList.{AreArcs}
use Rattle.nf_cons.specs.Places.{fault_if}
use Rattle.nf_cons.specs.Variables.{Mention, homes, nonarcs, number_in}
use Rattle.nf_cons.specs.Naming.{IsSound, VariableList, faults_now}
use Rattle.nf_cons.specs.Terms.{Given, TermLists, lists_of, with_given}
use Rattle.nf_cons.specs.Dense.{Dense, dense_row, given_before, givens, most_coefficients, names, sides}

-- ---- the header
-- The faults of a column, by the variables so far and the names of the columns before it.
abbrev pub column_faults_now : VariableList → List Name → Mention → List (Option PlacedFault)
column_faults_now v seen m = fault_if (is_blank m.variable) m.home.place kind.BadName ∷ faults_now v (has_name m.variable seen) m

-- The variables are those of these mentions.
pub record AreNamed (arcs : List Name) (ms : List Mention) (v : VariableList) : Type 0 where
  pub sound : IsSound v
  pub arcs_are : AreArcs arcs v.arcs
  pub nonarcs_are : v.nonarcs ≡ nonarcs arcs ms
  pub homes_are : v.homes ≡ homes arcs ms

-- A header was read: the variables are those of its mentions, and each column has its variable's number.
pub record IsHeaderRead (arcs : List Name) (ms : List Mention) (v : VariableList) (numbers : List ℕ) : Type 0 where
  pub named : AreNamed arcs ms v
  pub numbers_are : numbers ≡ map (λ m. number_in arcs ms m.variable) ms

-- ---- the rows
-- What is kept of the rows so far.
pub record DenseState : Type 0 where
  pub numbers : List ℕ
  pub default : RowType
  pub variables : VariableList
  pub names : List Name
  pub sides : List SideRow
  pub lists : TermLists
  pub count : ℕ

-- The rows of a table, by what is kept.
abbrev pub dense_now : RoleColumns → Grid → DenseState → Dense
dense_now roles table s = record {
  columns = roles.variables;
  variables = s.numbers;
  arcs = s.variables.arcs.count;
  default = s.default;
  rows = map (dense_row roles) table.rows;
}

-- What is kept is that of the first k rows.
pub record IsAfterRows (d : Dense) (k : ℕ) (s : DenseState) : Type 0 where
  pub names_are : s.names ≡ names d k
  pub sides_are : s.sides ≡ sides d k
  pub lists_are : s.lists ≡ lists_of (givens d k)
  pub count_is : s.count ≡ length (givens d k)
  pub few : s.count ≤ most_coefficients

-- So much was given, and then some more.
abbrev pub lists_with : TermLists → List Given → TermLists
lists_with ls gs = fold with_given ls gs

abbrev pub state_with : DenseState → List Given → DenseState
state_with s gs = record s { lists = lists_with s.lists gs; count = s.count + length gs }

-- What is kept before cell i of row k, where this is what was kept before the row.
abbrev pub state_before : DenseState → Dense → ℕ → ℕ → DenseState
state_before s d k i = record s { lists = lists_of (given_before d k i); count = length (given_before d k i) }
