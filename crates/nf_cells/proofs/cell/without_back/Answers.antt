use Rattle.std.proofs.Common.{◌∙◌, sym, arith}
use Rattle.nf_cells.proofs.CellFacts.{trim_end-back, trim_end-stands, trim_end-none}
use Rattle.nf_cells.proofs.cell.without_back.Goals.{then-loop-end-test+else-cell-end-eq32, else-loop-end-test}
use Rattle.nf_cells.proofs.cell.without_back.Goals as goal

pub loop-end-preserved : goal.loop-end-preserved
loop-end-preserved c =
    (omega arith, trim_end-back _ _ c.loop-end-test.true c.loop-end.invariant.0 c.if-cell-end-eq32.true ∙ c.loop-end.invariant.1)

pub returns : goal.returns
returns c = elim c.loop-end-test.branch [
  | then-loop-end-test+else-cell-end-eq32 w ↦ sym (trim_end-stands _ _ w.loop-end-test.true c.loop-end.invariant.0 w.if-cell-end-eq32.false) ∙ c.loop-end.invariant.1
  | else-loop-end-test w ↦ sym (trim_end-none _ _ w.loop-end-test.false) ∙ c.loop-end.invariant.1
]
