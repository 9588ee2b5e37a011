use Rattle.std.proofs.Common.{◌≡◌, ℕ, ◌+◌, ◌<◌, ◌≤◌, length}
use Rattle.nf_model.specs.Program.{at}
use Rattle.nf_simplex.specs.Standing.{rows_of}
use Rattle.nf_basis.specs.Arising.{rest_at}
use Rattle.nf_basis.specs.Dense.{bound_at}
use Rattle.nf_basis.specs.AtBounds.{rests_cost}
use Rattle.nf_basis.proofs.at_bounds.rests_at_bounds.Given as goal

abbrev pub invariant-loop-row : goal.invariant-loop-row
invariant-loop-row g l = record {
  long : length l.out.items ≡ rows_of l.p l.state.standing;
  rests : (i : ℕ) → i < l.row → at l.out.items i ≡ rest_at l.p (bound_at l.p l.state.standing) i;
  cost : l.steps ≤ l.fn.steps + rests_cost l.p l.row;
}
