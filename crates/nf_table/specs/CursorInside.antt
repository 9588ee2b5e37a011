-- For a proof alone: what `Records` keeps in its fields, and the cursor that a clause sees of them.
-- The promises of the methods of `Records` rest on it.
use Rattle.std.specs.Prelude.{◌≡◌, ℕ, List, [], Some, unwrap_or, false}
use Rattle.std.specs.Borrow.{Bor}
use Rattle.csv.specs.Reading.{Ready, default_config, expected_len, is_flexible, reader_config, reader_state, reader_trim, source_of}
use Rattle.csv.specs.Records.{fields_of}
use Rattle.csv.specs.declared.reader.Reader.{Reader}
use Rattle.csv.specs.declared.reader.Trim.TheVariants as trim
use Rattle.nf_table.specs.Cursor.{Cursor}
use Rattle.nf_table.specs.declared.records.Records.TheInside.{Inside}

-- The bytes that a reader has left.
abbrev pub left_of : Reader (Bor (List ℕ)) → List ℕ
left_of r = unwrap_or (source_of (λ s. Some s.now) r) []

-- It reads one record at a time, as bytes, with the csv crate's defaults, each with as many cells as the first.
pub record IsReading (r : Reader (Bor (List ℕ))) : Type 0 where
  pub trim : reader_trim r ≡ trim.None
  pub ready : Ready r
  pub config : reader_config r ≡ default_config
  pub strict : is_flexible r ≡ false
  pub known : source_of (λ s. Some s.now) r ≡ Some (left_of r)

-- Its cursor.
abbrev pub cursor_of : Inside → Cursor
cursor_of a = record { ended = a.ended; state = reader_state a.rdr; left = left_of a.rdr; expected = expected_len a.rdr; cells = fields_of a.row }

-- It reads on until a step ended it.
abbrev pub IsReadingOn : Inside → Type 0
IsReadingOn a = a.ended ≡ false → IsReading a.rdr
