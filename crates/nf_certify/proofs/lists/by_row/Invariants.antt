use Rattle.std.proofs.Common.{◌≡◌, length}
use Rattle.nf_model.specs.Lists.{list_of}
use Rattle.nf_model.specs.Program.{at}
use Rattle.nf_simplex.specs.Lists.{padded}
use Rattle.nf_certify.proofs.lists.by_row.Given as goal

abbrev pub invariant-loop-i : goal.invariant-loop-i
invariant-loop-i l = l.list ≡ list_of l.i (padded (length l.numbers) (at l.numbers))
