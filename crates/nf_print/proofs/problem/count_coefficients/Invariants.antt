use Rattle.std.proofs.Common.{◌≡◌}
use Rattle.nf_print.specs.Sizes.{coefficients_in}
use Rattle.nf_print.proofs.problem.count_coefficients.Given as goal

abbrev pub invariant-loop-k : goal.invariant-loop-k
invariant-loop-k l = l.total ≡ coefficients_in l.p l.k
