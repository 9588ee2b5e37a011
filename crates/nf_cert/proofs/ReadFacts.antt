-- What a table is read as, once its columns are known.
use Rattle.std.proofs.Common.{◌≡◌, ℕ, map, ap, Result, Ok, Err}
use Rattle.nf_table.specs.Grid.{Grid}
use Rattle.nf_prob.specs.declared.cert.Cert.{Cert}
use Rattle.nf_cert.specs.declared.columns.Columns.{Columns}
use Rattle.nf_cert.specs.declared.fault.CertFault.{CertFault}
use Rattle.nf_cert.specs.Items.{cert_row}
use Rattle.nf_cert.specs.Reading.{by_columns, cert_read, columns_read}
use Rattle.nf_cert.specs.Rows.{rows_read}

-- a column is not there
pub lacking : (t : Grid) (columns rows : ℕ) (e : CertFault) → ◌≡◌ {A = Result Columns CertFault} (Err e) (columns_read t.header)
    → ◌≡◌ {A = Result Cert CertFault} (Err e) (cert_read t columns rows)
unfolding cert_read
lacking t columns rows e h =
    ap (λ (k : Result Columns CertFault). by_columns k (λ at_columns. rows_read columns rows (map (cert_row at_columns) t.rows))) h

-- the columns are there
pub reading-with : (t : Grid) (columns rows : ℕ) (k : Columns) → ◌≡◌ {A = Result Columns CertFault} (Ok k) (columns_read t.header)
    → rows_read columns rows (map (cert_row k) t.rows) ≡ cert_read t columns rows
unfolding cert_read
reading-with t columns rows k h =
    ap (λ (r : Result Columns CertFault). by_columns r (λ at_columns. rows_read columns rows (map (cert_row at_columns) t.rows))) h
