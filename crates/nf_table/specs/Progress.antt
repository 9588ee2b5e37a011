-- For a proof alone: how far a loop over the rows of a text has come.
-- The promise of `read_rows`, and by it that of `read_table`, rests on it.
use Rattle.std.specs.Prelude.{◌≡◌, ◌+◌, ◌*◌, ◌<◌, ◌≤◌, ℕ, List, [], Ok, Some, None, false, true, length, take, drop}
use Rattle.std.specs.List.{list_all}
use Rattle.std.specs.Str.{is_utf8}
use Rattle.csv.specs.Machine.{ends_at_end}
use Rattle.csv.specs.Reading.{default_config, records_from}
use Rattle.csv.specs.Records.{Row, fields_of, partial_of}
use Rattle.nf_io.specs.Held.{most_bytes}
use Rattle.nf_table.specs.Cut.{rows_cut}
use Rattle.nf_table.specs.Grid.{Cells}
use Rattle.nf_table.specs.Cursor.{Cursor, ReadRow}
use Rattle.nf_table.specs.Reading.{repeated_column, rows_read}

-- The cells are those of the header and then of so many rows, and all are text.
pub record CellsHold (header : Cells) (rows : ℕ) (cells : Row) : Type 0 where
  pub partial : partial_of cells ≡ []
  pub size : length (fields_of cells) ≡ length header + rows * length header
  pub first : take (length header) (fields_of cells) ≡ header
  pub text : list_all is_utf8 (fields_of cells) ≡ true

-- The rows that are cut from the cells after those of the header.
abbrev pub rows_held : Cells → ℕ → Row → List Cells
rows_held header rows cells = rows_cut rows (length header) (drop (length header) (fields_of cells))

-- The records gave so many rows, whose cells follow those of the header.
pub record RowsRead (header : Cells) (records : List Cells) (rows : ℕ) (cells : Row) : Type 0 where
  pub hold : CellsHold header rows cells
  pub all : rows_read header [] records ≡ Ok (record { header = header; rows = rows_held header rows cells; hand = [] })

-- So many rows were read, and what the records give is what the rest of them gives after these rows.
pub record RowsOn (header : Cells) (records : List Cells) (rows : ℕ) (p : Cursor) (cells : Row) : Type 0 where
  pub going : p.ended ≡ false
  pub rests : ends_at_end p.state ≡ false
  pub expected : p.expected ≡ Some (length header)
  pub hold : CellsHold header rows cells
  pub few : rows + length p.left ≤ most_bytes
  pub fuel : ℕ
  pub enough : length p.left < fuel
  pub same : rows_read header [] records ≡ rows_read header (rows_held header rows cells) (records_from default_config fuel p.state p.left)

-- The first record was read, its cells are all the cells, and none of its faults is there.
pub record HeaderRead (old new : Cursor) (width : ℕ) (cells : Row) : Type 0 where
  pub read : ReadRow old new
  pub rests : ends_at_end new.state ≡ false
  pub few : length new.left ≤ most_bytes
  pub wide : width ≡ length (fields_of cells)
  pub cells_are : fields_of cells ≡ new.cells
  pub partial : partial_of cells ≡ []
  pub text : list_all is_utf8 (fields_of cells) ≡ true
  pub names : repeated_column (fields_of cells) ≡ None
