-- The rows of a certificate's table, and which row must stand where.
-- What `read_cert` takes for a certificate rests on these words.
use Rattle.std.specs.Prelude.{◌++◌, ◌&&◌, ℕ, Bool, List, [], ◌∷◌, map, get_or, codes, decimal}
use Rattle.std.specs.List.{range_with_len}
use Rattle.std.specs.Str.{bytes_eq}
use Rattle.nf_cells.specs.Cells.{value_of}
use Rattle.nf_table.specs.Grid.{Cells}
use Rattle.nf_cert.specs.declared.item.Kind.{Kind}
use Rattle.nf_cert.specs.declared.item.Kind.TheVariants as kind
use Rattle.nf_cert.specs.declared.item.Item.{Item}
use Rattle.nf_cert.specs.declared.columns.Columns.{Columns}
use Rattle.nf_cert.specs.declared.verdict.Verdict.{Verdict}
use Rattle.nf_cert.specs.declared.verdict.Verdict.TheVariants as verdict

-- The three cells of a row, without the spaces at both ends.
pub record CertRow : Type 0 where
  pub name : List ℕ
  pub number : List ℕ
  pub value : List ℕ

-- A row of a table, by its cells in the three columns.
abbrev pub cert_row : Columns → Cells → CertRow
cert_row at_columns cells = record {
  name = value_of (get_or cells at_columns.item []);
  number = value_of (get_or cells at_columns.number []);
  value = value_of (get_or cells at_columns.value []);
}

-- The word of a row: VERDICT, COL for a column's value, ROW for a row's dual, RAY for a column's part of the ray.
abbrev pub word : Kind → List ℕ
word kind.Verdict = codes "VERDICT"
word kind.Column = codes "COL"
word kind.Row = codes "ROW"
word kind.Ray = codes "RAY"

-- A row of a kind whose value is a fraction: not the verdict.
abbrev pub HoldsFrac : Kind → Type 0
HoldsFrac kind.Verdict = ⊥
HoldsFrac kind.Column = Unit {0}
HoldsFrac kind.Row = Unit {0}
HoldsFrac kind.Ray = Unit {0}

-- The item of a kind and a number.
abbrev pub item : Kind → ℕ → Item
item k n = record { kind = k; number = n }

-- Items of one kind, numbered from 1.
unfoldable pub items : Kind → ℕ → List Item
items k count = map (item k) (range_with_len 1 count)

-- The verdict, so many values of columns, and so many rows of another kind.
unfoldable pub items_with : ℕ → Kind → ℕ → List Item
items_with values k others = item kind.Verdict 1 ∷ items kind.Column values ++ items k others

-- The rows that a certificate of a verdict has: if it is OPTIMAL the value of each column and the dual of each row,
-- if INFEASIBLE only the duals, if UNBOUNDED the values and the ray.
abbrev pub items_of : Verdict → ℕ → ℕ → List Item
items_of verdict.Optimal columns rows = items_with columns kind.Row rows
items_of verdict.Infeasible columns rows = items_with 0 kind.Row rows
items_of verdict.Unbounded columns rows = items_with columns kind.Ray columns

-- A row is the one of an item where it has the item's word, and its number in decimal digits.
abbrev pub is_of : Item → CertRow → Bool
is_of i r = bytes_eq r.name (word i.kind) && bytes_eq r.number (decimal i.number)
