use Rattle.std.proofs.Common.{◌≡◌, ℕ, ◌+◌, ◌≤◌}
use Rattle.nf_num.specs.Rational.{ℚ}
use Rattle.nf_num.specs.Sum.{sum_ℚ}
use Rattle.nf_sums.specs.Steps.{GivesNumber}
use Rattle.nf_sums.proofs.sums.sum_numbers.Given as goal

abbrev pub invariant-loop-k : goal.invariant-loop-k
invariant-loop-k g l = record { total : (a : ℕ → ℚ) → GivesNumber (λ k. g.F.Fn.post l.number (k, tt)) l.count a → l.total ≡ sum_ℚ l.k a; cost : l.steps ≤ l.fn.steps + l.k }
