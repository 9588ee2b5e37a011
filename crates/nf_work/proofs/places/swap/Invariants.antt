use Rattle.std.proofs.Common.{◌≡◌, ◌≢◌, ℕ, ◌<◌, ◌≤◌, length}
use Rattle.nf_inverse.specs.Weights.{weight}
use Rattle.nf_work.proofs.places.swap.Given as goal

abbrev pub invariant-loop-row : goal.invariant-loop-row
invariant-loop-row l = record {
  size : length l.inverse ≡ length l.initial.inverse;
  first : (r : ℕ) → r < l.row → weight l.inverse l.a r ≡ weight l.initial.inverse l.b r;
  second : (r : ℕ) → r < l.row → weight l.inverse l.b r ≡ weight l.initial.inverse l.a r;
  rows : (s r : ℕ) → l.row ≤ r → weight l.inverse s r ≡ weight l.initial.inverse s r;
  others : (s r : ℕ) → s ≢ l.a → s ≢ l.b → weight l.inverse s r ≡ weight l.initial.inverse s r;
}
