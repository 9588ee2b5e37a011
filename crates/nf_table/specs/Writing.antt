-- A table's text, and how far a writer of it has come.
-- The promise of `write_table` rests on it.
use Rattle.std.specs.Prelude.{◌≡◌, ℕ, Bool, false, List, [], ◌∷◌, get_or, Option, Some}
use Rattle.std.specs.declared.alloc.Global.{Global}
use Rattle.std.specs.declared.vec.Vec.{Vec}
use Rattle.csv.specs.Reading.{is_bom}
use Rattle.csv.specs.Writing.{default_writer, fields_written, has_written, text_written, writer_setup}
use Rattle.csv.specs.declared.writer.Writer.{Writer}
use Rattle.csv.proofs.RoundTrip.{rows_text}
use Rattle.nf_table.specs.Grid.{Cells, Grid}

-- The header and the rows, each as a record of CSV text that ends with a line feed.
abbrev pub table_text : Grid → List ℕ
table_text g = rows_text (g.header ∷ g.rows)

-- Whether a text begins with a byte order mark.
abbrev pub has_mark : List ℕ → Bool
has_mark [] = false
has_mark (a ∷ []) = false
has_mark (a ∷ b ∷ []) = false
has_mark (a ∷ b ∷ c ∷ rest) = is_bom a b c

-- Whether the first cell of the header does, so that a reader would skip it.
abbrev pub begins_with_mark : Grid → Bool
begins_with_mark g = has_mark (get_or g.header 0 [])

-- A row of a table, where row 0 is the header.
abbrev pub row_at : Grid → ℕ → Cells
row_at g row = get_or (g.header ∷ g.rows) row []

-- What a writer has written.
abbrev pub written : Writer (Vec ℕ Global) → Option (List ℕ)
written w = text_written (λ v. Some v.items) w

-- The writer has the csv crate's defaults, and stands at the start of a record.
pub record IsAtStart (w : Writer (Vec ℕ Global)) : Type 0 where
  pub setup : writer_setup w ≡ default_writer
  pub fields : fields_written w ≡ 0
  pub clean : has_written w ≡ false
