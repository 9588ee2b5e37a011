-- The tables of a sample: a network with constraints, as a function of a seed and three sizes.
-- The contract of `sample_tables` rests on it. Each table begins to draw at the state where the one before it ended.
use Rattle.std.specs.Prelude.{◌≡◌, ◌≤◌, ℕ, zero, suc, ◌+◌, ◌-◌, ◌*◌, ◌/◌, ◌%◌, List, [], ◌∷◌, ◌++◌, Some, None, length, get_or, nat_eq, nat_le, if◌then◌else◌, codes, decimal}
use Rattle.nf_table.specs.Grid.{Cells, Grid}
use Rattle.nf_sample.specs.declared.tables.SampleTables.{SampleTables}
use Rattle.nf_sample.specs.Draws.{draw, first_state, state_after}
use Rattle.nf_sample.specs.Rows.{rows_to, table_of}

-- The sizes that a sample may have.
pub record IsSize (nodes arcs constraints : ℕ) : Type 0 where
  pub least : 3 ≤ nodes
  pub nodes_few : nodes ≤ 2000
  pub a_ring : nodes ≤ arcs
  pub arcs_few : arcs ≤ 50000
  pub constraints_few : constraints ≤ 50

-- The name of a node, an arc, a constraint or a nonarc variable: a letter and its number.
abbrev pub named : List ℕ → ℕ → List ℕ
named letter i = letter ++ decimal i

abbrev pub node : ℕ → List ℕ
node i = named (codes "n") i

abbrev pub arc : ℕ → List ℕ
arc i = named (codes "x") i

-- ---- the nodes
-- The supplies that the first nodes draw, each from 1 to 10.
unfoldable pub supplies : ℕ → ℕ → List ℕ
supplies x zero = []
supplies x (suc n) = supplies x n ++ (draw x n 10 + 1) ∷ []

-- The supply of node i of n: its own if it drew one, minus that of node n + 1 - i if this drew one, else 0.
abbrev pub supply : List ℕ → ℕ → ℕ → List ℕ
supply drawn n i =
    if nat_le i (length drawn) then decimal (get_or drawn (i - 1) 0)
    else (if nat_le (n + 1 - i) (length drawn) then codes "-" ++ decimal (get_or drawn (n - i) 0) else codes "0")

abbrev pub node_row : List ℕ → ℕ → ℕ → List Cells
node_row drawn n i = (node i ∷ supply drawn n i ∷ []) ∷ []

abbrev pub nodes_header : Cells
nodes_header = codes "_NODE_" ∷ codes "_SUPDEM_" ∷ []

-- Half of the nodes draw a supply.
abbrev pub nodes_table : ℕ → ℕ → Grid
nodes_table x n = table_of nodes_header (rows_to (node_row (supplies x (n / 2)) n) n)

-- ---- the arcs
-- The node after node i in the ring of n nodes: node 1 after the last.
abbrev pub next_node : ℕ → ℕ → ℕ
next_node n i = if nat_eq i n then 1 else i + 1

-- Arc i of the ring, from node i to the next: the cost is 100, and there is no capacity.
abbrev pub ring_arc : ℕ → ℕ → List Cells
ring_arc n i = (node i ∷ node (next_node n i) ∷ arc i ∷ codes "100" ∷ [] ∷ []) ∷ []

-- An arc after the ring, number i: tail, head, cost and capacity are drawn, in this order.
abbrev pub drawn_arc : ℕ → ℕ → ℕ → List Cells
drawn_arc x n i = (node (draw x 0 n + 1) ∷ node (draw x 1 n + 1) ∷ arc i ∷ decimal (draw x 2 90 + 1) ∷ decimal (draw x 3 20 + 1) ∷ []) ∷ []

-- The arcs after the ring, counted from 1, with four draws each.
abbrev pub drawn_arcs : ℕ → ℕ → ℕ → List Cells
drawn_arcs x n k = drawn_arc (state_after x (4 * (k - 1))) n (n + k)

abbrev pub arcs_header : Cells
arcs_header = codes "_FROM_" ∷ codes "_TO_" ∷ codes "_NAME_" ∷ codes "_COST_" ∷ codes "_CAPAC_" ∷ []

abbrev pub arcs_table : ℕ → ℕ → ℕ → Grid
arcs_table x n a = table_of arcs_header (rows_to (ring_arc n) n ++ rows_to (drawn_arcs x n) (a - n))

-- ---- the constraints
-- Line t of constraint k gives one arc a coefficient from 1 to 3; type and right side are the cells after it.
abbrev pub arc_line : ℕ → ℕ → ℕ → ℕ → Cells → Cells
arc_line x a k t rest = named (codes "r") k ∷ arc (1 + (3 * k + t) % a) ∷ decimal (draw x t 3 + 1) ∷ rest

-- Constraint k of type LE: three arcs, and -1 on its own nonarc variable. Its right side, below 50, is drawn last.
abbrev pub constraint : ℕ → ℕ → ℕ → List Cells
constraint x a k =
    arc_line x a k 0 (codes "LE" ∷ decimal (draw x 3 50) ∷ [])
    ∷ arc_line x a k 1 ([] ∷ [] ∷ [])
    ∷ arc_line x a k 2 ([] ∷ [] ∷ [])
    ∷ (named (codes "r") k ∷ named (codes "z") k ∷ codes "-1" ∷ [] ∷ [] ∷ []) ∷ []

-- The constraints, counted from 1, with four draws each.
abbrev pub constraints : ℕ → ℕ → ℕ → List Cells
constraints x a k = constraint (state_after x (4 * (k - 1))) a k

-- Each nonarc variable costs 1000; the row of type COST has its type in its first line.
abbrev pub cost_line : ℕ → List Cells
cost_line k = (codes "cost" ∷ named (codes "z") k ∷ codes "1000" ∷ (if nat_eq k 1 then codes "COST" else []) ∷ [] ∷ []) ∷ []

abbrev pub constraints_header : Cells
constraints_header = codes "_ROW_" ∷ codes "_COLUMN_" ∷ codes "_COEF_" ∷ codes "_TYPE_" ∷ codes "_RHS_" ∷ []

abbrev pub constraints_table : ℕ → ℕ → ℕ → Grid
constraints_table x a c = table_of constraints_header (rows_to (constraints x a) c ++ rows_to cost_line c)

-- ---- all
-- The tables of a seed and three sizes. Without constraints there is no table of them.
pub record IsSample (seed nodes arcs constraints : ℕ) (t : SampleTables) : Type 0 where
  pub nodes_drawn : t.nodes ≡ nodes_table (first_state seed) nodes
  pub arcs_drawn : t.arcs ≡ arcs_table (state_after (first_state seed) (nodes / 2)) nodes arcs
  pub constraints_drawn : t.cons ≡ (if nat_eq constraints 0 then None else Some (constraints_table (state_after (state_after (first_state seed) (nodes / 2)) (4 * (arcs - nodes))) arcs constraints))
