-- What holds of the program of a network with side rows. Every problem and every builder of one keeps it.
use Rattle.std.specs.Prelude.{◌≡◌, ◌≢◌, ℕ, suc, ◌+◌, ◌<◌, ◌≤◌, List, [], ◌∷◌, length, count_by, nat_le, Option, Some, None}
use Rattle.std.specs.List.{All}
use Rattle.nf_num.specs.Rational.{ℚ, zero_ℚ, ◌-ℚ◌}
use Rattle.nf_num.specs.Sum.{delta}
use Rattle.nf_model.specs.declared.RowKind.TheVariants.{Eq}
use Rattle.nf_model.specs.Program.{Entry, Ends, Column, LinearProgram, column, row, lower_of, upper_of, entry_at, IsAtMost, HoldsBelow}

-- The bounds do not cross.
abbrev pub AreInOrder : Option ℚ → Option ℚ → Type 0
AreInOrder None upper = Unit {0}
AreInOrder (Some l) upper = IsAtMost upper l

-- The rows of the entries rise, from lo on, and are below n; so no row stands twice.
abbrev pub RiseBetween : ℕ → ℕ → List Entry → Type 0
RiseBetween lo n [] = Unit {0}
RiseBetween lo n (e ∷ es) = (lo ≤ e.row) × (e.row < n) × RiseBetween (suc e.row) n es

-- The nodes that an arc leads from and to are below n.
abbrev pub HaveEndsBelow : ℕ → Option Ends → Type 0
HaveEndsBelow n None = Unit {0}
HaveEndsBelow n (Some e) = (e.tail < n) × (e.head < n)

-- What an arc has at a node: 1 at its tail, -1 at its head, and 0 at a node that is both or neither. A nonarc
-- variable has 0 at every node.
abbrev pub node_entry : Option Ends → ℕ → ℚ
node_entry None i = zero_ℚ
node_entry (Some e) i = delta e.tail i -ℚ delta e.head i

-- How many of the entries are in side rows, which follow the nodes.
abbrev pub count_in_sides : ℕ → List Entry → ℕ
count_in_sides nodes es = count_by (λ e. nat_le nodes e.row) es

-- A column of a program with so many nodes and rows: its bounds do not cross, its entries stand by row number, and
-- those at nodes are those of its ends, two at most.
pub record IsColumn (nodes rows : ℕ) (c : Column) : Type 0 where
  pub ordered : AreInOrder (lower_of c) (upper_of c)
  pub by_row : RiseBetween 0 rows c.entries
  pub ends_within : HaveEndsBelow nodes c.ends
  pub at_nodes : HoldsBelow nodes (λ i. entry_at c.entries i ≡ node_entry c.ends i)
  pub few_at_nodes : length c.entries ≤ 2 + count_in_sides nodes c.entries

-- Node rows are equations and come first, arcs come first and have a lower bound, and every column is one of this
-- program.
pub record IsProblem (p : LinearProgram) : Type 0 where
  pub nodes_within : p.nodes ≤ length p.rows
  pub arcs_within : p.arcs ≤ length p.columns
  pub nodes_are_equal : HoldsBelow p.nodes (λ i. (row p i).kind ≡ Eq)
  pub arcs_first : HoldsBelow p.arcs (λ j. (column p j).ends ≢ None)
  pub arcs_have_lower : HoldsBelow p.arcs (λ j. lower_of (column p j) ≢ None)
  pub others_last : (j : ℕ) → p.arcs ≤ j → (column p j).ends ≡ None
  pub each : All (IsColumn p.nodes (length p.rows)) p.columns
