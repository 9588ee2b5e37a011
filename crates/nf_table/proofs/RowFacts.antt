-- One more row of a table.
use Rattle.std.proofs.Common.{◌≡◌, ◌≢◌, ◌∙◌, ◌+◌, ◌*◌, ◌≤◌, ◌++◌, ◌∷◌, ℕ, List, [], Some, None, Err, true, false, length, drop, refl, sym, ap, add-one, arith, length-append}
use Rattle.std.proofs.lemmas.List.{drop-append-le, length-drop, take-append-le}
use Rattle.std.proofs.Math.Seq.{take-length}
use Rattle.std.proofs.lemmas.Bool.{eq-eqb, ne_eqb}
use native.Mathlib.Nat.{suc-mul}
use Rattle.std.proofs.lemmas.List.Folds.{list_all-append}
use Rattle.std.specs.List.{list_all}
use Rattle.std.specs.Str.{is_utf8}
use Rattle.csv.specs.Machine.{ends_at_end}
use Rattle.csv.specs.Records.{Row, fields_of, partial_of}
use Rattle.nf_io.specs.Held.{most_bytes}
use Rattle.nf_table.specs.Cut.{rows_cut}
use Rattle.nf_table.specs.Grid.{Cells}
use Rattle.nf_table.specs.Cursor.{Cursor, ReadOther, ReadRow, next_of, records_at}
use Rattle.nf_table.specs.Progress.{CellsHold, RowsOn, RowsRead, rows_held}
use Rattle.nf_table.specs.Reading.{rows_read}
use Rattle.nf_table.specs.declared.table.TableFault.TheVariants as fault
use Rattle.nf_table.proofs.CutFacts.{cut-more, length-cut}
use Rattle.nf_table.proofs.RecordFacts.{next-shorter, records-none, records-some}

-- the test of one row
pub row-read : (header : Cells) (done : List Cells) (r : Cells) (rs : List Cells) → length r ≡ length header → list_all is_utf8 r ≡ true
    → rows_read header done (r ∷ rs) ≡ rows_read header (done ++ r ∷ []) rs
unfolding rows_read
row-read header done r rs wide text = rw (wide, eq-eqb (length header) (length header) refl, text) refl

row-other : (header : Cells) (done : List Cells) (r : Cells) (rs : List Cells) → length r ≢ length header → rows_read header done (r ∷ rs) ≡ Err (fault.RowLength (length done + 1))
unfolding rows_read
row-other header done r rs wide = rw (ne_eqb (length r) (length header) wide) refl

row-bad : (header : Cells) (done : List Cells) (r : Cells) (rs : List Cells) → length r ≡ length header → list_all is_utf8 r ≡ false → rows_read header done (r ∷ rs) ≡ Err (fault.NotText (length done + 1))
unfolding rows_read
row-bad header done r rs wide bad = rw (wide, eq-eqb (length header) (length header) refl, bad) refl

-- a row is as long as the header
row-width : (header : Cells) (records : List Cells) (rows : ℕ) (p q : Cursor) (cells : Row) → RowsOn header records rows p cells → ReadRow p q → length q.cells ≡ length header
row-width header records rows p q cells on read = let same = rw on.expected at read.same in cc (same, read.expected)

-- the cells with one more row
hold-more : (header : Cells) (rows : ℕ) (cells next : Row) (r : Cells) → CellsHold header rows cells → length r ≡ length header → list_all is_utf8 r ≡ true
    → fields_of next ≡ fields_of cells ++ r → partial_of next ≡ [] → CellsHold header (rows + 1) next
hold-more header rows cells next r hold wide text fields partial =
    let room : length header ≤ length (fields_of cells) = rw hold.size (omega arith) in
    record {
      partial = partial;
      size = rw (fields, length-append, hold.size, wide) (omega (arith, suc-mul rows (length header), ap (λ t. t * length header) (add-one rows)));
      first = rw (fields, take-append-le (length header) (fields_of cells) r room) hold.first;
      text = rw (fields, list_all-append is_utf8 (fields_of cells) r, hold.text, text) refl;
    }

held-more : (header : Cells) (rows : ℕ) (cells next : Row) (r : Cells) → CellsHold header rows cells → length r ≡ length header → fields_of next ≡ fields_of cells ++ r
    → rows_held header (rows + 1) next ≡ rows_held header rows cells ++ r ∷ []
held-more header rows cells next r hold wide fields =
    let room : length header ≤ length (fields_of cells) = rw hold.size (omega arith) in
    let body : length (drop (length header) (fields_of cells)) ≡ rows * length header = rw (length-drop, hold.size) (omega arith) in
    rw (fields, drop-append-le (length header) (fields_of cells) r room, cut-more rows (length header) (drop (length header) (fields_of cells)) r body wide) refl

-- the records before the rows are what they are after one more
pub rows-more : (header : Cells) (records : List Cells) (rows : ℕ) (p q : Cursor) (cells next : Row) → RowsOn header records rows p cells → ReadRow p q
    → list_all is_utf8 q.cells ≡ true → fields_of next ≡ fields_of cells ++ q.cells → partial_of next ≡ [] → RowsOn header records (rows + 1) q next
rows-more header records rows p q cells next on read text fields partial =
    let wide : length q.cells ≡ length header = row-width header records rows p q cells on read in
    let (fuel, more, enough) = records-some on.fuel p.state p.left (q.cells, q.state, q.left) on.enough on.rests read.next in
    let shorter = next-shorter p.state p.left (q.cells, q.state, q.left) on.rests read.next in
    record {
      going = read.going;
      rests = shorter.0;
      expected = rw wide at read.expected;
      hold = hold-more header rows cells next q.cells on.hold wide text fields partial;
      few = omega (arith, on.few, shorter.1);
      fuel = fuel;
      enough = enough;
      same = rw (held-more header rows cells next q.cells on.hold wide fields)
          (on.same ∙ ap (λ t. rows_read header (rows_held header rows cells) t) more ∙ row-read header _ q.cells _ wide text);
    }

-- one more row can be counted
pub rows-fit : (header : Cells) (records : List Cells) (rows : ℕ) (p q : Cursor) (cells : Row) → RowsOn header records rows p cells → ReadRow p q → rows + 1 ≤ most_bytes
rows-fit header records rows p q cells on read = let shorter = next-shorter p.state p.left (q.cells, q.state, q.left) on.rests read.next in omega (arith, on.few, shorter.1)

pub other-fits : (header : Cells) (records : List Cells) (rows : ℕ) (p : Cursor) (cells : Row) → RowsOn header records rows p cells → ReadOther p → rows + 1 ≤ most_bytes
other-fits header records rows p cells on other = let shorter = next-shorter p.state p.left other.next on.rests other.is in omega (arith, on.few, shorter.1)

pub rows-end : (header : Cells) (records : List Cells) (rows : ℕ) (p : Cursor) (cells : Row) → RowsOn header records rows p cells → next_of p ≡ None → RowsRead header records rows cells
unfolding rows_read
rows-end header records rows p cells on none = record {
  hold = on.hold;
  all = rw (records-none on.fuel p.state p.left none) at on.same;
}

pub rows-other : (header : Cells) (records : List Cells) (rows : ℕ) (p : Cursor) (cells : Row) → RowsOn header records rows p cells → ReadOther p → rows_read header [] records ≡ Err (fault.RowLength (rows + 1))
unfolding rows_read
rows-other header records rows p cells on other =
    let (fuel, more, enough) = records-some on.fuel p.state p.left other.next on.enough on.rests other.is in
    let first : other.first ≡ length header = cc (other.expected, on.expected) in
    on.same ∙ ap (λ t. rows_read header (rows_held header rows cells) t) more
    ∙ row-other header _ other.next.0 _ (λ e. other.differs (first ∙ sym e)) ∙ ap (λ n. Err (fault.RowLength (n + 1))) (length-cut rows _ _)

pub rows-not-text : (header : Cells) (records : List Cells) (rows : ℕ) (p q : Cursor) (cells : Row) → RowsOn header records rows p cells → ReadRow p q → list_all is_utf8 q.cells ≡ false
    → rows_read header [] records ≡ Err (fault.NotText (rows + 1))
unfolding rows_read
rows-not-text header records rows p q cells on read bad =
    let (fuel, more, enough) = records-some on.fuel p.state p.left (q.cells, q.state, q.left) on.enough on.rests read.next in
    on.same ∙ ap (λ t. rows_read header (rows_held header rows cells) t) more
    ∙ row-bad header _ q.cells _ (row-width header records rows p q cells on read) bad ∙ ap (λ n. Err (fault.NotText (n + 1))) (length-cut rows _ _)

pub rows-none : (p : Cursor) (cells : Row) → p.ended ≡ false → ends_at_end p.state ≡ false → length p.left ≤ most_bytes → p.expected ≡ Some (length (fields_of cells)) → partial_of cells ≡ []
    → list_all is_utf8 (fields_of cells) ≡ true → RowsOn (fields_of cells) (records_at p) 0 p cells
unfolding rows_cut
rows-none p cells going rests few expected partial text = record {
  going = going;
  rests = rests;
  expected = expected;
  hold = record { partial = partial; size = omega arith; first = take-length (fields_of cells); text = text };
  few = omega (arith, few);
  fuel = length p.left + 1;
  enough = omega arith;
  same = refl;
}
