use Rattle.std.proofs.Common.{refl, ◌∙◌}
use Rattle.std.proofs.Common.{map}
use Rattle.nf_prob.specs.Numbers.{entry_of}
use Rattle.nf_prob.proofs.ByRow.{column_none, column_step, column_all}
use Rattle.nf_prob.proofs.lists.push_column.Goals as goal

pub loop-e-init : goal.loop-e-init
loop-e-init c = record { len = refl; lists = λ i. column_none _ i (map entry_of c.args.entries.now) _ }

pub loop-e-preserved : goal.loop-e-preserved
loop-e-preserved c = record {
  len = c.push_entry.ensures.len ∙ c.loop-e.invariant.len;
  lists = λ i. column_step _ i c.args.entries.now _ c.e-item.result _ _ _ c.loop-e-test.true c.e-item.is (c.loop-e.invariant.lists i) (c.in_ok-push_entry.ensures.lists i);
}

pub returns-clause-lists : goal.returns-clause-lists
returns-clause-lists c = λ i. column_all _ i c.args.entries.now _ _ _ c.loop-e.auto.e-index-end c.loop-e-test.false (c.loop-e.invariant.lists i)
