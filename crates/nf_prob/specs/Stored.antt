-- The program that stored rows and columns stand for, and what they keep. Problem and its builder are seen so.
use Rattle.std.specs.Prelude.{◌≡◌, ◌⊎◌, ℕ, ◌<◌, ◌≤◌, ◌^◌, Bool, List, length, map, slice_index_or}
use Rattle.std.specs.List.{All}
use Rattle.nf_num.specs.Rational.{zero_ℚ}
use Rattle.nf_model.specs.Program.{Row, Column, LinearProgram}
use Rattle.nf_model.specs.Problem.{IsProblem}
use Rattle.nf_prob.specs.declared.stored.Entry.{Entry}
use Rattle.nf_prob.specs.declared.stored.RowEntry.{RowEntry}
use Rattle.nf_prob.specs.declared.stored.StoredRow.{StoredRow}
use Rattle.nf_prob.specs.declared.stored.StoredColumn.{StoredColumn}
use Rattle.nf_prob.specs.Numbers.{entry_of, ends_of}

-- The row that a stored row stands for.
abbrev pub row_of : StoredRow → Row
row_of r = record { kind = r.kind; right = r.right }

-- The column that a stored column stands for.
abbrev pub column_of : StoredColumn → Column
column_of c = record { cost = c.cost; lower = c.lower; upper = c.upper; ends = ends_of c.tail c.head; entries = map entry_of c.entries.items }

-- The program of stored columns and rows.
abbrev pub program_from : List StoredColumn → List StoredRow → ℕ → ℕ → Bool → LinearProgram
program_from columns rows nodes arcs maximizes = record { columns = map column_of columns; rows = map row_of rows; nodes = nodes; arcs = arcs; maximizes = maximizes }

-- Numbers in a stored column count from 1; tail and head are both 0 where it is no arc.
pub record HasNumbers (c : StoredColumn) : Type 0 where
  pub ends : ((0 < c.tail) × (0 < c.head)) ⊎ ((c.tail ≡ 0) × (c.head ≡ 0))
  pub rows : All (λ e. 0 < e.row) c.entries.items

-- Stored columns and rows are those of a network with side rows, and not too many for their numbers.
pub record IsStored (columns : List StoredColumn) (rows : List StoredRow) (nodes arcs : ℕ) (maximizes : Bool) : Type 0 where
  pub problem : IsProblem (program_from columns rows nodes arcs maximizes)
  pub numbered : All HasNumbers columns
  pub few_columns : length columns ≤ 2 ^ 30
  pub few_rows : length rows ≤ 2 ^ 30

-- The k-th entry of a stored list.
abbrev pub stored_entry : List Entry → ℕ → Entry
stored_entry es k = slice_index_or es k (record { row = 0; value = zero_ℚ })

abbrev pub row_entry : List RowEntry → ℕ → RowEntry
row_entry es k = slice_index_or es k (record { column = 0; value = zero_ℚ })
