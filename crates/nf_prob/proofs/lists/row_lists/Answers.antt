use Rattle.std.proofs.Common.{◌∙◌, sym}
use Rattle.nf_prob.proofs.ByRow.{gathered-nil, column_gathered}
use Rattle.nf_prob.proofs.lists.row_lists.Goals as goal

pub loop-j-init : goal.loop-j-init
loop-j-init c = record { len = c.in_ok-by_row.ensures.len; lists = λ i. c.in_ok-by_row.ensures.empty i ∙ sym (gathered-nil 1 i) }

pub loop-j-preserved : goal.loop-j-preserved
loop-j-preserved c = record {
  len = c.push_column.ensures.len ∙ c.loop-j.invariant.len;
  lists = λ i. column_gathered i c.args.columns.now c.loop-j.j c.index-columns-j.result _ _ _ c.loop-j-test.true c.index-columns-j.is c.as_slice.ensures (c.loop-j.invariant.lists i) (c.in_ok-push_column.ensures.lists i);
}
