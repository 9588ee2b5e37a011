-- A linear program by numbers: what its columns and rows are, as functions of their numbers.
-- The stages are made from it, and all proofs on states are over it.
use Rattle.std.specs.Prelude.{◌≡◌, ℕ, ◌-◌, ◌<◌, ◌≤◌, Option, Some, length}
use Rattle.nf_num.specs.Rational.{ℚ, zero_ℚ}
use Rattle.nf_model.specs.declared.RowKind.{RowKind}
use Rattle.nf_model.specs.declared.RowKind.TheVariants.{Eq}
use Rattle.nf_model.specs.Program.{LinearProgram, column, row, lower_of, upper_of, entry_at}
use Rattle.nf_model.specs.Problem.{AreInOrder}

-- The node rows come first and then the side rows, and the arcs are the first columns; `entry j i` is the coefficient
-- of row i in column j.
pub record Layout : Type 0 where
  pub nodes : ℕ
  pub sides : ℕ
  pub arcs : ℕ
  pub columns : ℕ
  pub cost : ℕ → ℚ
  pub lower : ℕ → Option ℚ
  pub upper : ℕ → Option ℚ
  pub entry : ℕ → ℕ → ℚ
  pub kind : ℕ → RowKind
  pub right : ℕ → ℚ

-- Arcs have a lower bound, the other columns have no coefficient in a node row, node rows are equations, and bounds do
-- not cross.
pub record IsLayout (p : Layout) : Type 0 where
  pub arcs_within : p.arcs ≤ p.columns
  pub arcs_lower : (j : ℕ) → j < p.arcs → (l : ℚ) × (p.lower j ≡ Some l)
  pub nonarcs_off : (j i : ℕ) → p.arcs ≤ j → i < p.nodes → p.entry j i ≡ zero_ℚ
  pub node_kind : (i : ℕ) → i < p.nodes → p.kind i ≡ Eq
  pub ordered : (j : ℕ) → j < p.columns → AreInOrder (p.lower j) (p.upper j)

-- The layout of a linear program.
abbrev pub layout_of : LinearProgram → Layout
layout_of p = record {
  nodes = p.nodes;
  sides = length p.rows - p.nodes;
  arcs = p.arcs;
  columns = length p.columns;
  cost = λ j. (column p j).cost;
  lower = λ j. lower_of (column p j);
  upper = λ j. upper_of (column p j);
  entry = λ j i. entry_at (column p j).entries i;
  kind = λ i. (row p i).kind;
  right = λ i. (row p i).right;
}
