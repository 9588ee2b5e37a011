-- Working definitions, on which the promise of `read_saved` does not rest: the columns that are looked at are in their
-- tables, and the rows of these columns.
use Rattle.std.specs.Prelude.{◌<◌, ℕ, List, length, map}
use Rattle.nf_table.specs.Grid.{Grid}
use Rattle.nf_saved.specs.declared.fault.SavedColumns.{SavedColumns}
use Rattle.nf_saved.specs.Rows.{SavedRow, saved_row}
use Rattle.nf_saved.specs.Reading.{status_row, word_in}
use Rattle.nf_saved.specs.Statuses.{StatusRow}

-- The columns of SESSIONDATA are in it.
pub record HasRows (table : Grid) (at : SavedColumns) : Type 0 where
  pub key : at.key < length table.header
  pub number : at.number < length table.header
  pub value : at.value < length table.header

-- Its rows, by these columns.
abbrev pub rows_in : Grid → SavedColumns → List SavedRow
rows_in table at = map (saved_row at.key at.number at.value) table.rows

-- The rows of CONIN by its columns, and the words of DUALIN.
abbrev pub statuses_in : Grid → SavedColumns → List StatusRow
statuses_in table at = map (status_row at.status at.anumb) table.rows

abbrev pub words_in : Grid → SavedColumns → List (List ℕ)
words_in table at = map (word_in at.word) table.rows

-- All six columns are in their tables.
pub record AreInside (conin dualin session : Grid) (at : SavedColumns) : Type 0 where
  pub rows : HasRows session at
  pub status : at.status < length conin.header
  pub anumb : at.anumb < length conin.header
  pub word : at.word < length dualin.header
