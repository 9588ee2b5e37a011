-- The cells of a table in one list, header first, cut into rows again; the last ones are those of a row in hand.
-- What `Table` keeps in its fields rests on it.
use Rattle.std.specs.Prelude.{◌+◌, ◌*◌, ℕ, zero, suc, List, [], ◌∷◌, take, drop}
use Rattle.nf_table.specs.Grid.{Cells, Grid}

-- So many rows of a width, cut from a list of cells.
unfoldable pub rows_cut : ℕ → ℕ → Cells → List Cells
rows_cut zero width cells = []
rows_cut (suc n) width cells = take width cells ∷ rows_cut n width (drop width cells)

-- The table of a width with so many rows, and what is left of the cells in hand.
abbrev pub grid_of : ℕ → ℕ → Cells → Grid
grid_of width rows cells = record { header = take width cells; rows = rows_cut rows width (drop width cells); hand = drop (width + rows * width) cells }
