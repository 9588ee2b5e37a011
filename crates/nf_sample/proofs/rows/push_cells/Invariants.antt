use Rattle.std.proofs.Common.{◌≡◌, take}
use Rattle.nf_sample.specs.Rows.{texts, with_hand}
use Rattle.nf_sample.proofs.rows.push_cells.Given as goal

abbrev pub invariant-loop-cell : goal.invariant-loop-cell
invariant-loop-cell l = l.table ≡ with_hand l.initial.table (take l.cell-index (texts l.cells))
