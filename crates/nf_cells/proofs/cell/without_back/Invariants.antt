use Rattle.std.proofs.Common.{◌≡◌, ◌≤◌, length, take}
use Rattle.nf_cells.specs.Cells.{trim_end}
use Rattle.nf_cells.proofs.cell.without_back.Given as goal

abbrev pub invariant-loop-end : goal.invariant-loop-end
invariant-loop-end l = (l.end ≤ length l.cell) × (trim_end (take l.end l.cell) ≡ trim_end l.cell)

abbrev pub decreases-loop-end : goal.decreases-loop-end
decreases-loop-end l = l.end
