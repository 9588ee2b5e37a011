use Rattle.std.proofs.Common.{◌≡◌, ℕ, ◌+◌, ◌≤◌, Some}
use Rattle.nf_model.specs.Program.{at}
use Rattle.nf_ratio.specs.Loops.{weight_ratio_at}
use Rattle.nf_ratio.specs.Ties.{AreLeast, tie}
use Rattle.nf_ratio.proofs.ratios.weight_ties.Given as goal

abbrev pub invariant-loop-k : goal.invariant-loop-k
invariant-loop-k g l = record {
  ties : AreLeast (tie l.fn.ties) (λ j. Some (weight_ratio_at l.down l.entries (at l.weights j) (tie l.fn.ties j))) l.k l.ties l.found;
  rest : (j : ℕ) → l.k ≤ j → tie l.ties j ≡ tie l.fn.ties j;
  cost : l.steps ≤ l.fn.steps + l.k;
}
