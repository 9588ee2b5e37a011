-- Names and numbers of columns.
use Rattle.std.proofs.Common.{◌≡◌, ℕ, ◌+◌, ◌-◌, ◌<◌, ◌≤◌, ◌⊎◌, inl, inr, ap, ◌∙◌, arith}
use Rattle.nf_simplex.specs.Layout.{Layout}
use Rattle.nf_simplex.specs.Columns.{Col, Given, Slack, Artificial, all_columns, number_of, col_at}
use Rattle.nf_simplex.specs.StageOf.{StageNumber, StageOne, StageTwo, IsPresent}
use Rattle.nf_simplex.proofs.StageOf.{column_given, column_slack, column_artificial}

-- The number of the column with a number.
pub number_col : (p : Layout) (j : ℕ) → j < all_columns p → number_of p (col_at p j) ≡ j
number_col p j h = of (less_or j p.columns) (less_or j (p.columns + p.sides))
  where
    less_or : (i n : ℕ) → (i < n) ⊎ (n ≤ i)
    less_or i n = grind arith

    of : (j < p.columns) ⊎ (p.columns ≤ j) → (j < p.columns + p.sides) ⊎ (p.columns + p.sides ≤ j) → number_of p (col_at p j) ≡ j
    of (inl l) x = ap (number_of p) (column_given p j l)
    of (inr l) (inl m) = ap (λ k. number_of p (col_at p k)) (let e : j ≡ p.columns + (j - p.columns) = omega arith in e) ∙ (ap (number_of p) (column_slack p (j - p.columns) (omega arith)) ∙ omega arith)
    of (inr l) (inr m) = ap (λ k. number_of p (col_at p k)) (let e : j ≡ p.columns + p.sides + (j - (p.columns + p.sides)) = omega arith in e) ∙ (ap (number_of p) (column_artificial p (j - (p.columns + p.sides))) ∙ omega arith)

-- A column of a stage has a number below all, and is the column with it.
pub number_within : (p : Layout) (n : StageNumber) (c : Col) → p.arcs ≤ p.columns → IsPresent p n c → number_of p c < all_columns p
number_within p StageOne (Given j) w h = omega arith
number_within p StageOne (Slack r) w h = absurd h
number_within p StageOne (Artificial r) w h = omega arith
number_within p StageTwo (Given j) w h = omega arith
number_within p StageTwo (Slack r) w h = let a = h.0 in let b = h.1 in omega arith
number_within p StageTwo (Artificial r) w h = omega arith

pub col_number : (p : Layout) (n : StageNumber) (c : Col) → p.arcs ≤ p.columns → IsPresent p n c → col_at p (number_of p c) ≡ c
col_number p StageOne (Given j) w h = column_given p j (omega arith)
col_number p StageOne (Slack r) w h = absurd h
col_number p StageOne (Artificial r) w h = column_artificial p r
col_number p StageTwo (Given j) w h = column_given p j h
col_number p StageTwo (Slack r) w h = let a = h.0 in let b = h.1 in column_slack p (r - p.nodes) (omega arith) ∙ ap Slack (omega arith)
col_number p StageTwo (Artificial r) w h = column_artificial p r
