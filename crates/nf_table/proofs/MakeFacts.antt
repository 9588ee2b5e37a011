-- What a table keeps while it is made.
use Rattle.std.proofs.Common.{◌≡◌, ◌∙◌, ◌+◌, ◌*◌, ◌<◌, ◌-◌, ◌^◌, ◌++◌, ◌∷◌, ℕ, List, [], false, length, refl, ap, add-one, length-append, arith}
use Rattle.std.proofs.lemmas.List.{take_all}
use Rattle.std.proofs.lemmas.List.Folds.{list_all-append}
use Rattle.std.proofs.lemmas.Str.{is_utf8-from_IsUtf8}
use Rattle.std.specs.List.{list_all}
use Rattle.std.specs.Str.{IsUtf8, is_utf8}
use native.Mathlib.Nat.{suc-mul}
use Rattle.csv.specs.Records.{Row, fields_of, partial_of}
use Rattle.nf_table.specs.Cut.{rows_cut}
use Rattle.nf_table.specs.Inside.{IsTable, grid_inside}
use Rattle.nf_table.specs.Making.{RowMayEnd, empty_table, with_cell, with_row_ended}
use Rattle.nf_table.specs.Reading.{repeated_after, repeated_column}
use Rattle.nf_table.specs.declared.table.Table.TheInside.{Inside}
use Rattle.nf_table.proofs.CutFacts.{cell-added, header-ended, header-may-end, names-kept, row-ended, row-may-end}

pub none-kept : (r : Row) → fields_of r ≡ [] → partial_of r ≡ [] → IsTable (record { cells = r; width = 0; rows = 0; hand = 0; spent = false })
unfolding repeated_after
none-kept r fields partial = record { whole = ap length fields; partial = λ _. partial; text = ap (list_all is_utf8) fields; names = refl }

pub none-seen : (r : Row) → fields_of r ≡ [] → grid_inside (record { cells = r; width = 0; rows = 0; hand = 0; spent = false }) ≡ empty_table
unfolding rows_cut
none-seen r fields = rw fields refl

-- ---- one more cell
abbrev pub pushed : Inside → Row → Inside
pushed t next = record { cells = next; width = t.width; rows = t.rows; hand = t.hand + 1; spent = t.spent }

cells-pushed : (t : Inside) (next : Row) (cell : List ℕ) → IsTable t → t.spent ≡ false → fields_of next ≡ fields_of t.cells ++ (partial_of t.cells ++ cell) ∷ [] → fields_of next ≡ fields_of t.cells ++ cell ∷ []
cells-pushed t next cell k s e = e ∙ ap (λ (p : List ℕ). fields_of t.cells ++ (p ++ cell) ∷ []) (k.partial s)

pub cell-kept : (t : Inside) (next : Row) (cell : List ℕ) → IsTable t → t.spent ≡ false → IsUtf8 cell → fields_of next ≡ fields_of t.cells ++ (partial_of t.cells ++ cell) ∷ [] → partial_of next ≡ [] → IsTable (pushed t next)
cell-kept t next cell k s good e p =
    let more = cells-pushed t next cell k s e in
    record {
      whole = rw (more, length-append) (omega (arith, k.whole));
      partial = λ _. p;
      text = rw (more, list_all-append is_utf8 (fields_of t.cells) (cell ∷ []), k.text, is_utf8-from_IsUtf8 cell good) refl;
      names = rw more (names-kept t.width (fields_of t.cells) cell (omega (arith, k.whole)) k.names);
    }

pub cell-seen : (t : Inside) (next : Row) (cell : List ℕ) → IsTable t → t.spent ≡ false → fields_of next ≡ fields_of t.cells ++ (partial_of t.cells ++ cell) ∷ [] → grid_inside (pushed t next) ≡ with_cell (grid_inside t) cell
cell-seen t next cell k s e = rw (cells-pushed t next cell k s e) (cell-added t.width t.rows t.hand (fields_of t.cells) cell k.whole)

-- ---- the end of a row
abbrev pub as_header : Inside → Inside
as_header t = record { cells = t.cells; width = t.hand; rows = t.rows; hand = 0; spent = t.spent }

abbrev pub as_row : Inside → Inside
as_row t = record { cells = t.cells; width = t.width; rows = t.rows + 1; hand = 0; spent = t.spent }

module _ (t : Inside) (k : IsTable t) (m : RowMayEnd (grid_inside t)) where
  pub header-kept : t.width ≡ 0 → IsTable (as_header t)
  header-kept none =
      let h = header-may-end t.rows t.hand (fields_of t.cells) (rw none at k.whole) (rw none at m) in
      let size : length (fields_of t.cells) ≡ t.hand = (rw (none, h.0) at k.whole) ∙ (let z : 0 + 0 * 0 + t.hand ≡ t.hand = omega arith in z) in
      record {
        whole = rw h.0 (omega (arith, size));
        partial = k.partial;
        text = k.text;
        names = ap repeated_column (take_all t.hand (fields_of t.cells) (omega (arith, size))) ∙ h.2;
      }

  pub header-seen : t.width ≡ 0 → grid_inside (as_header t) ≡ with_row_ended (grid_inside t)
  header-seen none =
      let h = header-may-end t.rows t.hand (fields_of t.cells) (rw none at k.whole) (rw none at m) in
      let size : length (fields_of t.cells) ≡ t.hand = (rw (none, h.0) at k.whole) ∙ (let z : 0 + 0 * 0 + t.hand ≡ t.hand = omega arith in z) in
      rw (none, h.0) (header-ended t.hand (fields_of t.cells) size)

  pub row-kept : 0 < t.width → IsTable (as_row t)
  row-kept some =
      let r = row-may-end t.width t.rows t.hand (fields_of t.cells) some k.whole m in
      record { whole = rw (add-one t.rows, suc-mul t.rows t.width) (omega (arith, k.whole, r.0)); partial = k.partial; text = k.text; names = k.names }

  pub row-seen : 0 < t.width → grid_inside (as_row t) ≡ with_row_ended (grid_inside t)
  row-seen some =
      let r = row-may-end t.width t.rows t.hand (fields_of t.cells) some k.whole m in
      row-ended t.width t.rows t.hand (fields_of t.cells) some k.whole r.0

  pub row-counted : 0 < t.width → t.rows < 2 ^ 32 - 1
  row-counted some = (row-may-end t.width t.rows t.hand (fields_of t.cells) some k.whole m).1
