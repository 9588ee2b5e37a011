-- Tables that are made row by row.
-- The definitions of the three tables of a sample rest on it.
use Rattle.std.specs.Prelude.{ℕ, zero, suc, List, [], ◌++◌, map}
use Rattle.nf_table.specs.Grid.{Cells, Grid}
use Rattle.std.specs.Borrow.{Bor}

-- The texts that are lent.
abbrev pub texts : List (Bor (List ℕ)) → Cells
texts lent = map (λ b. b.now) lent

-- A table with these cells in hand.
abbrev pub with_hand : Grid → Cells → Grid
with_hand g cells = record g { hand = cells }

-- A table with these names of columns and rows.
abbrev pub table_of : Cells → List Cells → Grid
table_of names rows = record { header = names; rows = rows; hand = [] }

-- A table with these names of columns, and no row.
abbrev pub headed : Cells → Grid
headed names = table_of names []

-- The rows that f gives for each number from 1 to n, in order.
unfoldable pub rows_to : (ℕ → List Cells) → ℕ → List Cells
rows_to f zero = []
rows_to f (suc n) = rows_to f n ++ f (suc n)
