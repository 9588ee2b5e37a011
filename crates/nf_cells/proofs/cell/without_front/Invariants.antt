use Rattle.std.proofs.Common.{◌≡◌, length}
use Rattle.nf_cells.specs.Cells.{trim_start}
use Rattle.nf_cells.proofs.cell.without_front.Given as goal

abbrev pub invariant-loop-rest : goal.invariant-loop-rest
invariant-loop-rest l = trim_start l.rest ≡ trim_start l.cell

abbrev pub decreases-loop-rest : goal.decreases-loop-rest
decreases-loop-rest l = length l.rest
