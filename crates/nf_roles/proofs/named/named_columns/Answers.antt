use Rattle.nf_roles.specs.Assigned.{named_by}
use Rattle.nf_roles.proofs.Lists.{flat-more}
use Rattle.nf_roles.proofs.named.named_columns.Goals as goal

pub loop-statement-preserved : goal.loop-statement-preserved
loop-statement-preserved c =
    flat-more (named_by c.args.set) c.items-statement-items.result.now c.loop-statement.statement-index c.statement-item.result _ _ c.loop-statement-test.true c.statement-item.is c.loop-statement.invariant (rw c.items.ensures at c.in_ok-add_statement.ensures)
