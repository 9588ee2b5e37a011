-- Tables by their columns: a name, and a cell in each row.
-- Every output table, and every table that is printed, is such a list of columns, so header and rows come from one list.
use Rattle.std.specs.Prelude.{ℕ, List, [], ◌++◌, map}
use Rattle.std.specs.List.{range_with_len}
use Rattle.nf_table.specs.Grid.{Cells, Grid}

-- Row k: the cell of each column.
abbrev pub row_of : {A : Type 0} → (A → ℕ → List ℕ) → List A → ℕ → Cells
row_of cell fields k = map (λ f. cell f k) fields

-- The table of these columns, with n rows from number `first` on.
unfoldable pub grid_of : {A : Type 0} → (A → List ℕ) → (A → ℕ → List ℕ) → List A → ℕ → ℕ → Grid
grid_of name cell fields first n = record { header = map name fields; rows = map (row_of cell fields) (range_with_len first n); hand = [] }

-- The table with this header and these rows, and no row in hand.
abbrev pub with_rows : Cells → List Cells → Grid
with_rows header rows = record { header = header; rows = rows; hand = [] }

-- More cells in hand.
abbrev pub with_cells : Grid → Cells → Grid
with_cells g cells = record { header = g.header; rows = g.rows; hand = g.hand ++ cells }
