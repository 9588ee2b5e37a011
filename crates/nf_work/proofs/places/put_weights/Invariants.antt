use Rattle.std.proofs.Common.{◌≡◌, ◌≢◌, ℕ, ◌<◌, length}
use Rattle.nf_inverse.specs.Weights.{weight}
use Rattle.nf_work.specs.Causes.{numbers}
use Rattle.nf_work.proofs.places.put_weights.Given as goal

abbrev pub invariant-loop-row : goal.invariant-loop-row
invariant-loop-row l = record {
  size : length l.inverse ≡ length l.initial.inverse;
  put : (r : ℕ) → r < l.row → weight l.inverse l.place r ≡ numbers l.weights r;
  others : (a r : ℕ) → a ≢ l.place → weight l.inverse a r ≡ weight l.initial.inverse a r;
}
