-- How a program grows: by a node, a side row, a column, an entry. Each call of the builder says by these words
-- what program it leaves. Nodes, rows and columns count from 0, but for the numbers that `with_column` takes.
use Rattle.std.specs.Prelude.{◌≡◌, ◌≢◌, ◌⊎◌, ℕ, suc, ◌<◌, ◌^◌, Bool, List, [], ◌∷◌, ◌++◌, length, slice_set, Option, Some, None, nat_eq, nat_lt, if◌then◌else◌}
use Rattle.std.specs.List.{All}
use Rattle.nf_num.specs.Rational.{ℚ, one_ℚ, neg_ℚ}
use Rattle.nf_model.specs.declared.RowKind.{RowKind}
use Rattle.nf_model.specs.declared.RowKind.TheVariants.{Eq}
use Rattle.nf_model.specs.Program.{Entry, Ends, Column, LinearProgram, column}
use Rattle.nf_prob.specs.Numbers.{IsNumber, ends_of}

-- A program without rows and columns.
abbrev pub empty_program : Bool → LinearProgram
empty_program maximizes = record { columns = []; rows = []; nodes = 0; arcs = 0; maximizes = maximizes }

-- One more node, with this right side.
abbrev pub with_node : LinearProgram → ℚ → LinearProgram
with_node p right = record p { rows = p.rows ++ record { kind = Eq; right = right } ∷ []; nodes = suc p.nodes }

-- One more side row.
abbrev pub with_row : LinearProgram → RowKind → ℚ → LinearProgram
with_row p kind right = record p { rows = p.rows ++ record { kind = kind; right = right } ∷ [] }

-- The node entries of an arc: 1 at its tail and -1 at its head, by row number; none where they are one node.
abbrev pub arc_entries : ℕ → ℕ → List Entry
arc_entries tail head =
    if nat_eq tail head then [] else
    (if nat_lt tail head
    then record { row = tail; value = one_ℚ } ∷ record { row = head; value = neg_ℚ one_ℚ } ∷ []
    else record { row = head; value = neg_ℚ one_ℚ } ∷ record { row = tail; value = one_ℚ } ∷ [])

-- The node entries of a column: a nonarc variable has none.
abbrev pub end_entries : Option Ends → List Entry
end_entries None = []
end_entries (Some e) = arc_entries e.tail e.head

-- A new column, with the node entries of its ends.
abbrev pub new_column : Option Ends → ℚ → Option ℚ → Option ℚ → Column
new_column ends cost lower upper = record { cost = cost; lower = lower; upper = upper; ends = ends; entries = end_entries ends }

-- The number of arcs, with one more column.
abbrev pub arcs_with : Option Ends → ℕ → ℕ
arcs_with None n = n
arcs_with (Some e) n = suc n

-- One more column, by its ends.
abbrev pub with_ends : LinearProgram → Option Ends → ℚ → Option ℚ → Option ℚ → LinearProgram
with_ends p ends cost lower upper = record p { columns = p.columns ++ new_column ends cost lower upper ∷ []; arcs = arcs_with ends p.arcs }

-- One more column, by the numbers from 1 of its tail and head, which are both 0 for a nonarc variable.
abbrev pub with_column : LinearProgram → ℕ → ℕ → ℚ → Option ℚ → Option ℚ → LinearProgram
with_column p tail head cost lower upper = with_ends p (ends_of tail head) cost lower upper

-- Entries with one more, in its place by row number.
unfoldable pub inserted : List Entry → Entry → List Entry
inserted [] e = e ∷ []
inserted (d ∷ ds) e = if nat_lt e.row d.row then e ∷ d ∷ ds else d ∷ inserted ds e

-- One more entry, in column j at row i.
abbrev pub with_entry : LinearProgram → ℕ → ℕ → ℚ → LinearProgram
with_entry p j i value = record p { columns = slice_set p.columns j (record (column p j) { entries = inserted (column p j).entries (record { row = i; value = value }) }) }

-- ---- what the calls ask for
-- There are fewer than 2^30 rows and fewer than 2^30 columns.
abbrev pub HasRoom : LinearProgram → Type 0
HasRoom p = (length p.rows < 2 ^ 30) × (length p.columns < 2 ^ 30)

-- Two numbers are those of nodes, and all columns so far are arcs; or both are 0, for a nonarc variable.
abbrev pub AreEnds : LinearProgram → ℕ → ℕ → Type 0
AreEnds p tail head =
    (IsNumber tail p.nodes × IsNumber head p.nodes × (p.arcs ≡ length p.columns))
    ⊎ ((tail ≡ 0) × (head ≡ 0))

-- Column j has no entry at row i yet.
abbrev pub IsNew : LinearProgram → ℕ → ℕ → Type 0
IsNew p j i = All (λ e. e.row ≢ i) (column p j).entries
