-- Numbers from 1, which calls and entries speak of, against those from 0 of the definitions.
-- The contracts of Problem and its builder say by these words what a number stands for.
use Rattle.std.specs.Prelude.{◌≡◌, ℕ, zero, suc, ◌-◌, ◌<◌, ◌≤◌, List, [], ◌∷◌, ◌++◌, Option, Some, None, nat_eq, if◌then◌else◌}
use Rattle.nf_model.specs.Program.{Ends, Column, LinearProgram}
use Rattle.nf_model.specs.Program as model
use Rattle.nf_prob.specs.declared.stored.Entry.{Entry}
use Rattle.nf_prob.specs.declared.stored.RowEntry.{RowEntry}

-- j is a number from 1 to n.
abbrev pub IsNumber : ℕ → ℕ → Type 0
IsNumber j n = (0 < j) × (j ≤ n)

-- No two numbers below n have one place.
abbrev pub AreApart : ℕ → (ℕ → ℕ) → Type 0
AreApart n place = (j k : ℕ) → j < n → k < n → place j ≡ place k → j ≡ k

-- The entry that a stored one stands for.
abbrev pub entry_of : Entry → model.Entry
entry_of e = record { row = e.row - 1; value = e.value }

-- The ends that two numbers of nodes stand for; 0 stands for no arc.
abbrev pub ends_of : ℕ → ℕ → Option Ends
ends_of zero head = None
ends_of (suc tail) head = Some (record { tail = tail; head = head - 1 })

-- The number of the node that an arc leads from, and 0 where there is no arc.
abbrev pub tail_number : Option Ends → ℕ
tail_number None = 0
tail_number (Some e) = suc e.tail

-- The number of the node that an arc leads to, and 0 where there is no arc.
abbrev pub head_number : Option Ends → ℕ
head_number None = 0
head_number (Some e) = suc e.head

-- What the entries of column j have at row i.
unfoldable pub entries_in : ℕ → ℕ → List model.Entry → List RowEntry
entries_in j i [] = []
entries_in j i (e ∷ es) = if nat_eq e.row i then record { column = j; value = e.value } ∷ entries_in j i es else entries_in j i es

-- The same of columns that are numbered from j on, one column after another.
unfoldable pub gathered : ℕ → ℕ → List Column → List RowEntry
gathered j i [] = []
gathered j i (c ∷ cs) = entries_in j i c.entries ++ gathered (suc j) i cs

-- The entries at row i, by column number.
abbrev pub row_list : LinearProgram → ℕ → List RowEntry
row_list p i = gathered 1 i p.columns
