-- Duals that are level: one number on all nodes, and 0 on side rows.
-- By such duals of phase one no given column and no slack has a reduced cost, so pricing leaves its scan out.
use Rattle.std.specs.Prelude.{◌≡◌, ℕ, ◌<◌, ◌≤◌, List}
use Rattle.nf_num.specs.Rational.{ℚ, zero_ℚ}
use Rattle.nf_model.specs.Program.{LinearProgram, at}

-- All node rows have the same dual, and side rows have 0.
pub record IsLevel (p : LinearProgram) (duals : List ℚ) : Type 0 where
  pub level : ℚ
  pub nodes : (i : ℕ) → i < p.nodes → at duals i ≡ level
  pub sides : (i : ℕ) → p.nodes ≤ i → at duals i ≡ zero_ℚ
