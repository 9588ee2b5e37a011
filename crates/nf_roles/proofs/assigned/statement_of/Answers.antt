use Rattle.std.proofs.Common.{sym}
use Rattle.nf_roles.specs.Sets.{same_role}
use Rattle.nf_roles.proofs.Lists.{find-here, find-next}
use Rattle.nf_roles.proofs.assigned.statement_of.Goals as goal

pub returns-then-is_same : goal.returns-then-is_same
returns-then-is_same c =
    sym (find-here (λ n. same_role c.args.role n.role) c.args.names.now c.loop-named.named-index c.named-item.result c.loop-named-test.true c.named-item.is c.loop-named.invariant (sym c.if-is_same.ensures))

pub loop-named-preserved : goal.loop-named-preserved
loop-named-preserved c =
    find-next (λ n. same_role c.args.role n.role) c.args.names.now c.loop-named.named-index c.named-item.result c.loop-named-test.true c.named-item.is c.loop-named.invariant (sym c.if-is_same.ensures)
