-- The two tables of a problem, as a planner would write them.
-- The tables that `read_dimacs` returns rest on it.
use Rattle.std.specs.Prelude.{ℕ, zero, suc, List, [], ◌∷◌, ◌++◌, codes, decimal, Option, Some, None, ℤ, pos, unsigned_abs}
use Rattle.std.specs.Fmt.{signed_decimal}
use Rattle.nf_table.specs.Grid.{Cells, Grid}
use Rattle.nf_dimacs.specs.declared.line.Arc.{Arc}
use Rattle.nf_dimacs.specs.declared.line.Size.{Size}
use Rattle.nf_dimacs.specs.declared.line.Supply.{Supply}
use Rattle.nf_dimacs.specs.Says.{flow_of}

-- A table with these names of columns and rows.
abbrev pub table_of : Cells → List Cells → Grid
table_of names rows = record { header = names; rows = rows; hand = [] }

-- What f makes of each of some items with its number, which are numbered from k on.
unfoldable pub numbered : {A B : Type 0} → (ℕ → A → B) → ℕ → List A → List B
numbered f k [] = []
numbered f k (x ∷ xs) = f k x ∷ numbered f (suc k) xs

-- ---- the arcs
abbrev pub arcs_header : Cells
arcs_header = codes "_FROM_" ∷ codes "_TO_" ∷ codes "_NAME_" ∷ codes "_COST_" ∷ codes "_CAPAC_" ∷ codes "_LO_" ∷ []

-- The row of arc k, which is named x and its number.
abbrev pub arc_row : ℕ → Arc → Cells
arc_row k arc = signed_decimal arc.tail ∷ signed_decimal arc.head ∷ (codes "x" ++ decimal k) ∷ signed_decimal arc.cost ∷ signed_decimal arc.capacity ∷ signed_decimal arc.lower ∷ []

abbrev pub arcs_table : List Arc → Grid
arcs_table arcs = table_of arcs_header (numbered arc_row 1 arcs)

-- ---- the nodes
abbrev pub nodes_header : Cells
nodes_header = codes "_NODE_" ∷ codes "_SUPDEM_" ∷ []

-- A supply, which is 0 if none is given.
abbrev pub or_zero : Option ℤ → ℤ
or_zero None = pos 0
or_zero (Some flow) = flow

-- The row of a node.
abbrev pub node_row : ℕ → Option ℤ → Cells
node_row node supply = decimal node ∷ signed_decimal (or_zero supply) ∷ []

-- What nodes 1 to n are given.
unfoldable pub by_node : List Supply → ℕ → List (Option ℤ)
by_node supplies zero = []
by_node supplies (suc n) = by_node supplies n ++ flow_of supplies (pos (suc n)) ∷ []

-- The number of nodes, of which there are none without a `p` line.
abbrev pub nodes_in : Option Size → ℕ
nodes_in None = 0
nodes_in (Some size) = unsigned_abs size.nodes

abbrev pub nodes_table : Option Size → List Supply → Grid
nodes_table size supplies = table_of nodes_header (numbered node_row 1 (by_node supplies (nodes_in size)))
