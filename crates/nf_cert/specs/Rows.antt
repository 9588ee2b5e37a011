-- What the rows of a certificate's table are read as: a certificate, or the first fault of a row.
-- The contract of `read_cert` rests on these words.
use Rattle.std.specs.Prelude.{◌+◌, ℕ, List, map, max, length, take, drop, slice_get, if◌then◌else◌, Option, Some, None, Result, Ok, Err}
use Rattle.nf_num.specs.Rational.{ℚ, zero_ℚ}
use Rattle.nf_frac.specs.Texts.{frac_read}
use Rattle.nf_prob.specs.declared.cert.Cert.{Cert}
use Rattle.nf_prob.specs.declared.cert.Cert.TheVariants as cert
use Rattle.nf_cert.specs.declared.item.Kind.{Kind}
use Rattle.nf_cert.specs.declared.item.Kind.TheVariants as kind
use Rattle.nf_cert.specs.declared.item.Item.{Item}
use Rattle.nf_cert.specs.declared.fault.CertFault.{CertFault}
use Rattle.nf_cert.specs.declared.fault.CertFault.TheVariants as fault
use Rattle.nf_cert.specs.First.{first_below}
use Rattle.nf_cert.specs.Items.{CertRow, is_of, item, items_of}
use Rattle.nf_cert.specs.Verdicts.{verdict_read}
use Rattle.nf_cert.specs.declared.verdict.Verdict.{Verdict}
use Rattle.nf_cert.specs.declared.verdict.Verdict.TheVariants as verdict

-- The value of row n must be a fraction's text.
abbrev pub number_fault : {E : Type 0} → ℕ → Result ℚ E → Option CertFault
number_fault n (Ok x) = None
number_fault n (Err e) = Some (fault.Number n)

-- What the value of row n must be, by the kind of the row. The verdict is looked at before.
abbrev pub value_fault : ℕ → Kind → List ℕ → Option CertFault
value_fault n kind.Verdict value = None
value_fault n kind.Column value = number_fault n (frac_read value)
value_fault n kind.Row value = number_fault n (frac_read value)
value_fault n kind.Ray value = number_fault n (frac_read value)

-- The fault of row n: a row is missing, or too much, or another one than is due, or its value is faulty.
abbrev pub row_fault : ℕ → Option Item → Option CertRow → Option CertFault
row_fault n None None = None
row_fault n None (Some r) = Some (fault.UnknownRow n)
row_fault n (Some i) None = Some (fault.MissingRow n)
row_fault n (Some i) (Some r) = if is_of i r then value_fault n i.kind r.value else Some (fault.UnknownRow n)

-- The fault of the row of a number from 0, where these items are due. Rows count from 1.
unfoldable pub fault_at : List Item → List CertRow → ℕ → Option CertFault
fault_at due table k = row_fault (k + 1) (slice_get due k) (slice_get table k)

-- The first fault of a table, where these items are due.
unfoldable pub first_fault : List Item → List CertRow → Option CertFault
first_fault due table = first_below (max (length due) (length table)) (fault_at due table)

-- The fraction of a text, and 0 where it has none.
abbrev pub frac_or_zero : {E : Type 0} → Result ℚ E → ℚ
frac_or_zero (Ok x) = x
frac_or_zero (Err e) = zero_ℚ

-- The fraction of a row.
abbrev pub frac_at : CertRow → ℚ
frac_at r = frac_or_zero (frac_read r.value)

-- The fractions of so many rows below so many.
abbrev pub fracs_at : ℕ → ℕ → List CertRow → List ℚ
fracs_at above count table = map frac_at (take count (drop above table))

-- The certificate of a verdict and of rows without a fault: after the verdict the values of the columns, then the duals
-- of the rows or the ray.
abbrev pub cert_read_from : Verdict → ℕ → ℕ → List CertRow → Cert
cert_read_from verdict.Optimal columns rows table = cert.Best (fracs_at 1 columns table) (fracs_at (1 + columns) rows table)
cert_read_from verdict.Infeasible columns rows table = cert.Farkas (fracs_at 1 rows table)
cert_read_from verdict.Unbounded columns rows table = cert.Ray (fracs_at 1 columns table) (fracs_at (1 + columns) columns table)

-- A fault, or if there is none this.
abbrev pub unless : {A : Type 0} → Option CertFault → A → Result A CertFault
unless None x = Ok x
unless (Some e) x = Err e

-- The verdict that a word says: one that is none of the three makes the first row an unknown one.
abbrev pub known_verdict : Option Verdict → Result Verdict CertFault
known_verdict None = Err (fault.UnknownRow 1)
known_verdict (Some v) = Ok v

-- The verdict of a table: that of its first row, if this is the row of the verdict.
abbrev pub verdict_of : Option CertRow → Result Verdict CertFault
verdict_of None = Err (fault.MissingRow 1)
verdict_of (Some r) = if is_of (item kind.Verdict 1) r then known_verdict (verdict_read r.value) else Err (fault.UnknownRow 1)

-- What the rows are read as, once the verdict is known.
abbrev pub by_verdict : Result Verdict CertFault → (Verdict → Result Cert CertFault) → Result Cert CertFault
by_verdict (Err e) read = Err e
by_verdict (Ok v) read = read v

-- What the rows are read as: by the verdict, the first fault, or if there is none the certificate.
abbrev pub rows_read : ℕ → ℕ → List CertRow → Result Cert CertFault
rows_read columns rows table = by_verdict (verdict_of (slice_get table 0)) (λ v. unless (first_fault (items_of v columns rows) table) (cert_read_from v columns rows table))
