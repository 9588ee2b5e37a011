-- The header of a text: its faults, and the table that follows it.
use Rattle.std.proofs.Common.{◌≡◌, ◌∙◌, ◌+◌, ◌≤◌, ◌∷◌, ℕ, List, [], Some, None, Ok, Err, true, false, length, refl, sym, ap, arith}
use Rattle.std.proofs.lemmas.List.{drop_all}
use Rattle.std.proofs.lemmas.Bool.{le-ltb}
use Rattle.std.specs.List.{list_all}
use Rattle.std.specs.Str.{is_utf8}
use Rattle.csv.specs.Machine.{ends_at_end}
use Rattle.csv.specs.Reading.{strip_bom}
use Rattle.csv.specs.declared.parser.State.TheVariants as st
use Rattle.csv.specs.Records.{Row, fields_of, partial_of}
use Rattle.nf_io.specs.Held.{most_bytes}
use Rattle.nf_table.specs.Cut.{grid_of}
use Rattle.nf_table.specs.Cursor.{Cursor, ReadRow, next_of, records_at}
use Rattle.nf_table.specs.Grid.{Cells}
use Rattle.nf_table.specs.Progress.{HeaderRead, RowsRead, rows_held}
use Rattle.nf_table.specs.Reading.{records_read, repeated_column, rows_read, table_read}
use Rattle.nf_table.specs.declared.table.TableFault.TheVariants as fault
use Rattle.nf_table.proofs.RecordFacts.{cells-few, next-shorter, records-fuel, records-none, records-some}

-- the records from a header on
header-next : (p q : Cursor) → ends_at_end p.state ≡ false → ReadRow p q → records_at p ≡ q.cells ∷ records_at q
header-next p q rests read =
    let (fuel, more, enough) = records-some (length p.left + 1) p.state p.left (q.cells, q.state, q.left) (omega arith) rests read.next in
    more ∙ ap (λ t. q.cells ∷ t) (records-fuel fuel (length q.left + 1) q.state q.left enough (omega arith) (next-shorter p.state p.left (q.cells, q.state, q.left) rests read.next).0)

pub header-none : (p : Cursor) → next_of p ≡ None → records_read (records_at p) ≡ Err fault.NoHeader
header-none p none = rw (records-none (length p.left + 1) p.state p.left none) refl

pub header-bad : (p q : Cursor) → ends_at_end p.state ≡ false → ReadRow p q → list_all is_utf8 q.cells ≡ false → records_read (records_at p) ≡ Err (fault.NotText 0)
header-bad p q rests read bad = rw (header-next p q rests read, bad) refl

pub header-repeats : (p q : Cursor) (name : List ℕ) → ends_at_end p.state ≡ false → ReadRow p q → list_all is_utf8 q.cells ≡ true → repeated_column q.cells ≡ Some name
    → records_read (records_at p) ≡ Err (fault.RepeatedColumn name)
header-repeats p q name rests read good again = rw (header-next p q rests read, good, again) refl

header-good : (p q : Cursor) → ends_at_end p.state ≡ false → ReadRow p q → list_all is_utf8 q.cells ≡ true → repeated_column q.cells ≡ None → records_read (records_at p) ≡ rows_read q.cells [] (records_at q)
header-good p q rests read good once = rw (header-next p q rests read, good, once) refl

-- the cells of the header can be counted
pub header-fits : (p q : Cursor) → length p.left ≤ most_bytes → ReadRow p q → length q.cells ≤ most_bytes + 1
header-fits p q few read = let cells = cells-few p.state p.left (q.cells, q.state, q.left) read.next in omega (arith, few, cells)

pub header-read : (p q : Cursor) (width : ℕ) (cells : Row) → ends_at_end p.state ≡ false → length p.left ≤ most_bytes → ReadRow p q → fields_of cells ≡ q.cells → partial_of cells ≡ []
    → width ≡ length q.cells → list_all is_utf8 q.cells ≡ true → repeated_column q.cells ≡ None → HeaderRead p q width cells
header-read p q width cells rests few read same partial wide text names =
    let shorter = next-shorter p.state p.left (q.cells, q.state, q.left) rests read.next in
    record {
      read = read;
      rests = shorter.0;
      few = omega (arith, few, shorter.1);
      wide = rw same wide;
      cells_are = same;
      partial = partial;
      text = rw same text;
      names = rw same names;
    }

-- a fault of a row is a fault of the text
pub header-on : (p q : Cursor) (width : ℕ) (cells : Row) → ends_at_end p.state ≡ false → HeaderRead p q width cells → records_read (records_at p) ≡ rows_read (fields_of cells) [] (records_at q)
header-on p q width cells rests h = rw h.cells_are (header-good p q rests h.read (rw h.cells_are at h.text) (rw h.cells_are at h.names))

-- the table of a header and rows that were read
pub table-good : (p q : Cursor) (first cells : Row) (width rows : ℕ) → ends_at_end p.state ≡ false → HeaderRead p q width first
    → RowsRead (fields_of first) (records_at q) rows cells → records_read (records_at p) ≡ Ok (grid_of width rows (fields_of cells))
table-good p q first cells width rows rests h all = header-on p q width first rests h ∙ rw (all.all, h.wide, all.hold.first) (ap (λ (t : Cells). Ok (record { header = fields_of first; rows = rows_held (fields_of first) rows cells; hand = t })) (sym (drop_all _ (fields_of cells) (omega (arith, all.hold.size)))))

-- the table of a text is that of the records from its start on
pub text-records : (bytes : List ℕ) (p : Cursor) → length bytes ≤ most_bytes → p.state ≡ st.StartRecord → p.left ≡ strip_bom bytes → table_read bytes ≡ records_read (records_at p)
text-records bytes p fits state left = rw (le-ltb most_bytes (length bytes) fits, state, left) refl
