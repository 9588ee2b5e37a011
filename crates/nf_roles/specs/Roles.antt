-- What roles say: the column of each role, the variables and the ID columns; and the cells of a row by their roles.
-- Every reader of rows rests on these words.
use Rattle.std.specs.Prelude.{◌<◌, ◌^◌, ℕ, List, [], Option, Some, None, IfSome, get_or, length}
use Rattle.std.specs.List.{All, AllPairs}
use Rattle.nf_table.specs.Grid.{Cells}
use Rattle.nf_cells.specs.Names.{Name}
use Rattle.nf_program.specs.declared.program.Role.{Role}
use Rattle.nf_program.specs.Programs.{role_number}
use Rattle.nf_roles.specs.Sets.{first_reserved}

-- The columns by the number of their role, the columns of variables and the ID columns, all counted from 0.
pub record RoleColumns : Type 0 where
  pub columns : List (Option ℕ)
  pub variables : List ℕ
  pub ids : List ℕ

-- The column of a role, where it has one.
abbrev pub column_for : RoleColumns → Role → Option ℕ
column_for r role = get_or r.columns (role_number role) None

-- Each column is one of so many, and the ID columns can be counted.
pub record HasColumnsBelow (r : RoleColumns) (width : ℕ) : Type 0 where
  pub roles : (role : Role) → IfSome (column_for r role) (λ c. c < width)
  pub variables : All (λ c. c < width) r.variables
  pub ids : All (λ c. c < width) r.ids
  pub few_ids : length r.ids < 2 ^ 32

-- Columns stand from the left, each once.
abbrev pub AreFromLeft : List ℕ → Type 0
AreFromLeft columns = AllPairs (λ a b. a < b) columns

-- A role without a column says nothing: its cell is empty.
abbrev pub cell_of : Cells → Option ℕ → List ℕ
cell_of cells None = []
cell_of cells (Some c) = get_or cells c []

-- The cell of a role in a row.
abbrev pub cell_for : RoleColumns → Role → Cells → List ℕ
cell_for r role cells = cell_of cells (column_for r role)

-- The cell of a column in a header, or another name without one.
abbrev pub header_or : Name → Cells → Option ℕ → Name
header_or name header None = name
header_or name header (Some c) = get_or header c []

-- How a role's column is told: by its cell in the header, or else by the role's first reserved name.
abbrev pub column_text : RoleColumns → Cells → Role → Name
column_text r header role = header_or (first_reserved role) header (column_for r role)
