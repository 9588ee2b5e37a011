-- The two stages of a program: their rows, their columns and their linear programs.
-- Every state is of one of them.
use Rattle.std.specs.Prelude.{◌≢◌, ℕ, ◌+◌, ◌<◌, ◌≤◌, ◌⊎◌, Bool}
use Rattle.nf_model.specs.declared.RowKind.TheVariants.{Eq}
use Rattle.nf_simplex.specs.Stage.{Stage}
use Rattle.nf_simplex.specs.Layout.{Layout}
use Rattle.nf_simplex.specs.Columns.{Col, Given, Slack, Artificial, all_columns, col_at, entry_of, col_lower, col_upper}

-- Stage one has the network alone, and stage two the whole program.
pub data StageNumber : Type 0 where
  StageOne : StageNumber
  StageTwo : StageNumber

-- How many rows a stage has: in stage one the side rows are absent.
abbrev pub rows_in : Layout → StageNumber → ℕ
rows_in p StageOne = p.nodes
rows_in p StageTwo = p.nodes + p.sides

-- How many of them are side rows.
abbrev pub sides_in : Layout → StageNumber → ℕ
sides_in p StageOne = 0
sides_in p StageTwo = p.sides

-- The linear program of a stage. Both stages number the columns alike; those that a stage lacks are absent in its
-- states.
abbrev pub stage_in : Layout → StageNumber → (ℕ → Bool) → Stage
stage_in p n negative = record {
  rows = rows_in p n;
  sides = sides_in p n;
  columns = all_columns p;
  entering = p.columns + p.sides;
  entry = λ j i. entry_of p negative (col_at p j) i;
  right = p.right;
  lower = λ j. col_lower p (col_at p j);
  upper = λ j. col_upper p (col_at p j);
}

-- A column is of a stage: in stage one the arcs and the node rows' artificials; in stage two all given columns, the
-- slacks of side rows that are no equations, and all artificials.
abbrev pub IsPresent : Layout → StageNumber → Col → Type 0
IsPresent p StageOne (Given j) = j < p.arcs
IsPresent p StageOne (Slack r) = ⊥
IsPresent p StageOne (Artificial r) = r < p.nodes
IsPresent p StageTwo (Given j) = j < p.columns
IsPresent p StageTwo (Slack r) = (p.nodes ≤ r) × (r < p.nodes + p.sides) × (p.kind r ≢ Eq)
IsPresent p StageTwo (Artificial r) = r < p.nodes + p.sides

-- Stage two exists where the program has a side row or a nonarc variable.
abbrev pub HasStageTwo : Layout → Type 0
HasStageTwo p = (0 < p.sides) ⊎ (p.arcs < p.columns)

-- No stage two is to come.
abbrev pub IsLast : Layout → StageNumber → Type 0
IsLast p StageOne = HasStageTwo p → ⊥
IsLast p StageTwo = Unit {0}
