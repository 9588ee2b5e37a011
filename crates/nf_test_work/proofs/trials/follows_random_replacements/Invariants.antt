use Rattle.std.proofs.Common.{◌≤◌}
use Rattle.nf_test_work.proofs.trials.follows_random_replacements.Given as goal

abbrev pub invariant-loop-seed : goal.invariant-loop-seed
invariant-loop-seed g l = l.whole ≤ l.seed
