use Rattle.std.proofs.Common.{◌≡◌, ◌≢◌, ℕ, ◌<◌, ◌≤◌, ◌+◌, ◌*◌, length}
use Rattle.nf_num.specs.Rational.{◌-ℚ◌, ◌*ℚ◌}
use Rattle.nf_inverse.specs.Weights.{IsSquare, at, rows_of, weight, weights_of}
use Rattle.nf_inverse.proofs.rows.update_rows.Given as goal

abbrev pub invariant-loop-s : goal.invariant-loop-s
invariant-loop-s g l = record {
  square : IsSquare (rows_of l.rows);
  rest : (k : ℕ) → l.s ≤ k → weights_of (rows_of l.rows) k ≡ weights_of (rows_of l.fn.rows) k;
  kept : weights_of (rows_of l.rows) l.leaving ≡ weights_of (rows_of l.fn.rows) l.leaving;
  done : (k i : ℕ) → k < l.s → i < length l.fn.rows → k ≢ l.leaving → weight (rows_of l.rows) k i ≡ weight (rows_of l.fn.rows) k i -ℚ at l.scaled i *ℚ at l.entries k;
  cost : l.steps ≤ l.fn.steps + l.s * (2 * length l.fn.rows);
}
