-- The columns of a certificate's table, and what the whole table is read as.
-- The contract of `read_cert` is that it answers `cert_read`.
use Rattle.std.specs.Prelude.{ℕ, map, Option, Some, None, Result, Ok, Err, codes}
use Rattle.nf_prob.specs.declared.cert.Cert.{Cert}
use Rattle.nf_table.specs.Grid.{Cells, Grid, column_of}
use Rattle.nf_cert.specs.declared.columns.Columns.{Columns}
use Rattle.nf_cert.specs.declared.fault.CertFault.{CertFault}
use Rattle.nf_cert.specs.declared.fault.CertFault.TheVariants as fault
use Rattle.nf_cert.specs.Items.{cert_row}
use Rattle.nf_cert.specs.Rows.{rows_read}

-- The three columns, or the first that is not there.
abbrev pub columns_from : Option ℕ → Option ℕ → Option ℕ → Result Columns CertFault
columns_from None number value = Err (fault.NoColumn (codes "_ITEM_"))
columns_from (Some i) None value = Err (fault.NoColumn (codes "_NUMBER_"))
columns_from (Some i) (Some n) None = Err (fault.NoColumn (codes "_VALUE_"))
columns_from (Some i) (Some n) (Some v) = Ok (record { item = i; number = n; value = v })

-- The columns that a header has.
abbrev pub columns_read : Cells → Result Columns CertFault
columns_read header = columns_from (column_of header (codes "_ITEM_")) (column_of header (codes "_NUMBER_")) (column_of header (codes "_VALUE_"))

-- The rows by their columns, if these are there.
abbrev pub by_columns : Result Columns CertFault → (Columns → Result Cert CertFault) → Result Cert CertFault
by_columns (Err e) read = Err e
by_columns (Ok at_columns) read = read at_columns

-- What a table is read as, for a problem of so many columns and rows.
unfoldable pub cert_read : Grid → ℕ → ℕ → Result Cert CertFault
cert_read table columns rows = by_columns (columns_read table.header) (λ at_columns. rows_read columns rows (map (cert_row at_columns) table.rows))
