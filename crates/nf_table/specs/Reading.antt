-- What a text reads as: a table, or the first fault.
-- The promise of `read_table` rests on it.
use Rattle.std.specs.Prelude.{◌≡◌, ◌⊎◌, ◌+◌, ◌==◌, ℕ, List, [], ◌∷◌, ◌++◌, length, if◌then◌else◌, Option, Some, None, Result, Ok, Err}
use Rattle.std.specs.Bool.{nat_lt}
use Rattle.std.specs.List.{list_all, list_any}
use Rattle.std.specs.Str.{is_utf8}
use Rattle.csv.specs.Reading.{default_config, records, strip_bom}
use Rattle.nf_io.specs.Held.{most_bytes}
use Rattle.nf_table.specs.Grid.{Cells, Grid, same_name}
use Rattle.nf_table.specs.declared.table.TableFault.{TableFault}
use Rattle.nf_table.specs.declared.table.TableFault.TheVariants as fault

-- The first of these names that is the same as one before it, where some came before them all.
unfoldable pub repeated_after : Cells → Cells → Option (List ℕ)
repeated_after before [] = None
repeated_after before (name ∷ names) = if list_any (same_name name) before then Some name else repeated_after (before ++ name ∷ []) names

-- The first cell of a header that is the same name as an earlier cell.
abbrev pub repeated_column : Cells → Option (List ℕ)
repeated_column header = repeated_after [] header

-- The rows after the header, each as long as it and each of text.
unfoldable pub rows_read : Cells → List Cells → List Cells → Result Grid TableFault
rows_read header done [] = Ok (record { header = header; rows = done; hand = [] })
rows_read header done (r ∷ rs) =
    if length r == length header then (if list_all is_utf8 r then rows_read header (done ++ r ∷ []) rs else Err (fault.NotText (length done + 1)))
    else Err (fault.RowLength (length done + 1))

-- A repeated column is told before what the rows give.
abbrev pub unless_repeated : Option (List ℕ) → Result Grid TableFault → Result Grid TableFault
unless_repeated None rows = rows
unless_repeated (Some name) rows = Err (fault.RepeatedColumn name)

-- The table of the records, of which the first is the header.
abbrev pub records_read : List Cells → Result Grid TableFault
records_read [] = Err fault.NoHeader
records_read (header ∷ rows) =
    if list_all is_utf8 header then unless_repeated (repeated_column header) (rows_read header [] rows) else Err (fault.NotText 0)

-- The table of a text, of which a byte order mark at the start is no part.
abbrev pub table_read : List ℕ → Result Grid TableFault
table_read bytes = if nat_lt most_bytes (length bytes) then Err fault.TooLong else records_read (records default_config (strip_bom bytes))

-- The answer is the one that is due, or want of memory.
abbrev pub Answers : Result Grid TableFault → Result Grid TableFault → Type 0
Answers due result = (result ≡ Err fault.NoMemory) ⊎ (result ≡ due)
