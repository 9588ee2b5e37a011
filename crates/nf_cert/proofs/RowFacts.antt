-- A row of a table as a row of a certificate, and when it is the one that is due.
use Rattle.std.proofs.Common.{◌≡◌, ◌<◌, ◌+◌, ℕ, suc, Bool, true, false, ◌&&◌, List, [], ◌∷◌, map, length, get_or, Some, refl, sym, ◌∙◌, arith}
use Rattle.std.specs.Prelude.{slice_get, decimal}
use Rattle.std.specs.Str.{bytes_eq}
use Rattle.std.proofs.lemmas.Option.{slice_get-map, slice_get-get_or}
use Rattle.nf_table.specs.Grid.{Cells}
use Rattle.nf_cert.specs.declared.columns.Columns.{Columns}
use Rattle.nf_cert.specs.declared.item.Item.{Item}
use Rattle.nf_cert.specs.declared.fault.CertFault.TheVariants as fault
use Rattle.nf_cert.specs.Items.{CertRow, cert_row, is_of, word}
use Rattle.nf_cert.specs.Steps.{HasValue, fault_below}

-- the row below so many, by its number from 1 behind the header
pub row-there : (k : Columns) (header : Cells) (rows : List Cells) (above : ℕ) → above < length rows
    → slice_get (map (cert_row k) rows) above ≡ Some (cert_row k (get_or (header ∷ rows) (above + 1) []))
row-there k header rows above h =
    let one : above + 1 ≡ suc above = omega arith in
    slice_get-map (cert_row k) rows above ∙ (rw (one, slice_get-get_or rows above [] h) refl)

-- another row than the one that is due
pub other-row : (table : List CertRow) (above : ℕ) (i : Item) (r : CertRow) → slice_get table above ≡ Some r → is_of i r ≡ false
    → fault_below table above i ≡ Some (fault.UnknownRow (above + 1))
other-row table above i r there e = rw (there, e) refl

-- the row that is due
pub due-row : (table : List CertRow) (above : ℕ) (i : Item) (r : CertRow) → slice_get table above ≡ Some r → is_of i r ≡ true
    → HasValue table above i r.value
due-row table above i r there e = record { row = r; there = there; due = e; value = refl; fault = rw (there, e) refl }

-- what the test of an item says of a row
pub told : (i : Item) (r : CertRow) (name number : List ℕ) (b : Bool) → name ≡ r.name → number ≡ r.number
    → b ≡ (bytes_eq name (word i.kind) && bytes_eq number (decimal i.number)) → is_of i r ≡ b
told i r name number b d e f = rw (← d, ← e) (sym f)
