use Rattle.std.proofs.Common.{◌≡◌, take}
use Rattle.std.specs.Prelude.{count_by}
use Rattle.nf_print.specs.Sizes.{has_value}
use Rattle.nf_print.proofs.problem.count_row.Given as goal

abbrev pub invariant-loop-entry : goal.invariant-loop-entry
invariant-loop-entry l = l.count ≡ count_by has_value (take l.entry-index l.entries)
