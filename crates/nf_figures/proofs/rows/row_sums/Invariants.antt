use Rattle.std.proofs.Common.{◌≡◌}
use Rattle.nf_model.specs.Lists.{list_of}
use Rattle.nf_model.specs.Program.{row_sum}
use Rattle.nf_figures.proofs.rows.row_sums.Given as goal

abbrev pub invariant-loop-i : goal.invariant-loop-i
invariant-loop-i g l = l.sums ≡ list_of l.i (row_sum l.p l.flows)
