use Rattle.std.proofs.Common.{◌≡◌, ℕ, ◌+◌, ◌*◌, ◌≤◌}
use Rattle.nf_num.specs.Rational.{ℚ, ◌*ℚ◌}
use Rattle.nf_num.specs.Sum.{sum_ℚ}
use Rattle.nf_sums.specs.Steps.{Gives}
use Rattle.nf_sums.proofs.sums.sum_products.Given as goal

abbrev pub invariant-loop-k : goal.invariant-loop-k
invariant-loop-k g l = record { total : (a b : ℕ → ℚ) → Gives (λ k. g.F.Fn.post l.factors (k, tt)) l.count a b → l.total ≡ sum_ℚ l.k (λ k. a k *ℚ b k); cost : l.steps ≤ l.fn.steps + 2 * l.k }
