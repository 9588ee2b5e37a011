use Rattle.std.proofs.Common.{◌≡◌, ℕ, ◌<◌, ◌≤◌, ◌+◌, ◌*◌, length}
use Rattle.nf_num.specs.Rational.{ℚ, ◌*ℚ◌}
use Rattle.nf_num.specs.Sum.{sum_ℚ}
use Rattle.nf_inverse.specs.Weights.{GivesEntries, at, weight}
use Rattle.nf_inverse.proofs.inverse.Inverse.column.Given as goal

abbrev pub invariant-loop-k : goal.invariant-loop-k
invariant-loop-k g l = record {
  total : (a : ℕ → ℚ) (h : GivesEntries (λ k. g.F.Fn.post l.entry (k, tt)) l.count (length l.self) a) → (s : ℕ) → s < length l.self → at l.out s ≡ sum_ℚ l.k (λ k. weight l.self s (h.row k) *ℚ a (h.row k));
  cost : l.steps ≤ l.fn.steps + l.k * (2 * length l.self);
}
