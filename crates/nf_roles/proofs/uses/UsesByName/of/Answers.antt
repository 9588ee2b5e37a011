use Rattle.std.proofs.Common.{take}
use Rattle.nf_roles.proofs.Lists.{more}
use Rattle.nf_roles.proofs.LookupFacts.{uses-next}
use Rattle.nf_roles.proofs.uses.UsesByName.of.Goals as goal

pub loop-named-preserved : goal.loop-named-preserved
loop-named-preserved c =
    rw (more c.args.names.now c.loop-named.named-index c.named-item.result c.loop-named-test.true c.named-item.is)
    (uses-next c.loop-named.uses _ (take c.loop-named.named-index c.args.names.now) c.named-item.result c.loop-named.invariant c.in_ok-add.ensures)
