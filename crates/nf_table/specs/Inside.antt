-- What a table keeps in its fields, and the header and rows that a clause sees of them.
-- The contracts of the methods of `Table` rest on it.
use Rattle.std.specs.Prelude.{◌≡◌, ◌+◌, ◌*◌, [], None, length, take, false, true}
use Rattle.std.specs.List.{list_all}
use Rattle.std.specs.Str.{is_utf8}
use Rattle.csv.specs.Records.{fields_of, partial_of}
use Rattle.nf_table.specs.Cut.{grid_of}
use Rattle.nf_table.specs.Grid.{Grid}
use Rattle.nf_table.specs.Reading.{repeated_column}
use Rattle.nf_table.specs.declared.table.Table.TheInside.{Inside}

-- The table that stands in the fields.
abbrev pub grid_inside : Inside → Grid
grid_inside t = grid_of t.width t.rows (fields_of t.cells)

-- The cells are those of the header, of whole rows and of the row in hand, all are text, no name of a column is there
-- twice, and no cell stands half, unless memory was refused in the middle of one.
pub record IsTable (t : Inside) : Type 0 where
  pub whole : length (fields_of t.cells) ≡ t.width + t.rows * t.width + t.hand
  pub partial : t.spent ≡ false → partial_of t.cells ≡ []
  pub text : list_all is_utf8 (fields_of t.cells) ≡ true
  pub names : repeated_column (take t.width (fields_of t.cells)) ≡ None
