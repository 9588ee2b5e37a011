use Rattle.std.proofs.Common.{◌∙◌, sym}
use Rattle.nf_roles.specs.Assigned.{is_lacked}
use Rattle.nf_roles.specs.Lookups.{cells_or_none}
use Rattle.nf_roles.proofs.Lists.{find-here, find-next}
use Rattle.nf_roles.proofs.assigned.first_lacked_of.Goals as goal

pub returns-then-branch : goal.returns-then-branch
returns-then-branch c =
    sym (find-here (is_lacked c.args.set c.args.table.now (cells_or_none c.args.cons)) c.args.names.now c.loop-named.named-index c.named-item.result c.loop-named-test.true c.named-item.is c.loop-named.invariant (sym c.in_ok-is_lacked.ensures ∙ c.if-branch.true))

pub loop-named-preserved : goal.loop-named-preserved
loop-named-preserved c =
    find-next (is_lacked c.args.set c.args.table.now (cells_or_none c.args.cons)) c.args.names.now c.loop-named.named-index c.named-item.result c.loop-named-test.true c.named-item.is c.loop-named.invariant (sym c.in_ok-is_lacked.ensures ∙ c.if-branch.false)
