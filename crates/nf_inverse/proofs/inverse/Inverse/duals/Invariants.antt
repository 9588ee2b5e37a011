use Rattle.std.proofs.Common.{◌≡◌, ℕ, ◌<◌, ◌≤◌, ◌+◌, ◌*◌, length}
use Rattle.nf_num.specs.Rational.{ℚ, ◌*ℚ◌}
use Rattle.nf_num.specs.Sum.{sum_ℚ}
use Rattle.nf_sums.specs.Steps.{GivesNumber}
use Rattle.nf_inverse.specs.Weights.{at, weight}
use Rattle.nf_inverse.proofs.inverse.Inverse.duals.Given as goal

abbrev pub invariant-loop-s : goal.invariant-loop-s
invariant-loop-s g l = record {
  total : (c : ℕ → ℚ) → GivesNumber (λ k. g.F.Fn.post l.cost (k, tt)) (length l.self) c → (i : ℕ) → i < length l.self → at l.out i ≡ sum_ℚ l.s (λ k. weight l.self k i *ℚ c k);
  cost : l.steps ≤ l.fn.steps + l.s * (2 * length l.self);
}
