-- Working definitions, on which the promise of `read_cert` does not rest: the columns of a certificate's table are in it.
-- No cell outside the table is read, since the functions that read cells ask for this.
use Rattle.std.specs.Prelude.{◌<◌, ℕ}
use Rattle.nf_cert.specs.declared.columns.Columns.{Columns}

-- The three columns are among so many.
pub record IsInside (at_columns : Columns) (width : ℕ) : Type 0 where
  pub item : at_columns.item < width
  pub number : at_columns.number < width
  pub value : at_columns.value < width
