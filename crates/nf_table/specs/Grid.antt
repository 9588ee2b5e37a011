-- What a table is: a header and rows of cells, and the columns by name.
-- The promises of `read_table` and of every method of `Table` rest on it.
use Rattle.std.specs.Prelude.{◌≡◌, ◌≤◌, ◌<◌, length, ℕ, List, [], ◌∷◌, Bool, false, Option, get_or}
use Rattle.std.specs.List.{position}
use Rattle.std.specs.Str.{IsUtf8, str_eq_ignore_ascii_case}

-- A row of cells, each the bytes that stand in it.
abbrev pub Cells : Type 0
Cells = List (List ℕ)

-- What a clause sees of a table: its header, its rows, and the cells of the row that is not ended yet. A table that is
-- begun has no cell in its header.
pub record Grid : Type 0 where
  pub header : Cells
  pub rows : List Cells
  pub hand : Cells

-- A cell of a table, where row 0 is the header.
abbrev pub cell_at : Grid → ℕ → ℕ → List ℕ
cell_at g row column = get_or (get_or (g.header ∷ g.rows) row []) column []

-- Each row has as many cells as the header.
abbrev pub IsEven : Grid → Type 0
IsEven g = (row : ℕ) → row ≤ length g.rows → length (get_or (g.header ∷ g.rows) row []) ≡ length g.header

-- Each cell is UTF-8.
abbrev pub IsText : Grid → Type 0
IsText g = (row column : ℕ) → IsUtf8 (cell_at g row column)

-- Two names of columns are the same where they are equal without regard to ASCII case.
abbrev pub same_name : List ℕ → List ℕ → Bool
same_name name other = str_eq_ignore_ascii_case name other

-- The number of the first column with a name, from 0.
abbrev pub column_of : Cells → List ℕ → Option ℕ
column_of header name = position (same_name name) header

-- No two columns have the same name.
abbrev pub HasOwnNames : Cells → Type 0
HasOwnNames header = (earlier column : ℕ) → earlier < column → column < length header → same_name (get_or header column []) (get_or header earlier []) ≡ false
