-- How a table is made: cells go into the row in hand, and its end makes it the header or the next row.
-- The promises of `Table::push_cell` and `Table::end_row` rest on it.
use Rattle.std.specs.Prelude.{◌≡◌, ◌<◌, ◌-◌, ◌^◌, ℕ, List, [], ◌∷◌, ◌++◌, length, None}
use Rattle.nf_table.specs.Grid.{Cells, Grid}
use Rattle.nf_table.specs.Reading.{repeated_column}

-- A table without header and rows.
abbrev pub empty_table : Grid
empty_table = record { header = []; rows = []; hand = [] }

-- One more cell in hand.
abbrev pub with_cell : Grid → List ℕ → Grid
with_cell g cell = record g { hand = g.hand ++ cell ∷ [] }

-- The row in hand may end: as a header it has a cell, and no name twice; as a row it has as many cells as the header,
-- and there are fewer than 2^32 - 1 rows before it.
abbrev pub MayEnd : Cells → List Cells → Cells → Type 0
MayEnd [] rows hand = (rows ≡ []) × (0 < length hand) × (repeated_column hand ≡ None)
MayEnd (c ∷ cs) rows hand = (length hand ≡ length (c ∷ cs)) × (length rows < 2 ^ 32 - 1)

abbrev pub RowMayEnd : Grid → Type 0
RowMayEnd g = MayEnd g.header g.rows g.hand

-- The row in hand as the header where there is none, else as the next row.
abbrev pub ended : Cells → List Cells → Cells → Grid
ended [] rows hand = record { header = hand; rows = rows; hand = [] }
ended (c ∷ cs) rows hand = record { header = c ∷ cs; rows = rows ++ hand ∷ []; hand = [] }

abbrev pub with_row_ended : Grid → Grid
with_row_ended g = ended g.header g.rows g.hand
