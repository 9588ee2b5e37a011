use Rattle.std.proofs.Common.{◌≡◌, length}
use Rattle.nf_test_work.proofs.trials.walk.Given as goal

abbrev pub invariant-loop-replaced : goal.invariant-loop-replaced
invariant-loop-replaced g l = length l.work ≡ 3
