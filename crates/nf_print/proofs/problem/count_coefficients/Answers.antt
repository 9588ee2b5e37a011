use Rattle.std.proofs.Common.{sym}
use Rattle.nf_print.proofs.Counted.{counted-more, none-counted}
use Rattle.nf_print.proofs.problem.count_coefficients.Goals as goal

pub loop-k-init : goal.loop-k-init
loop-k-init c = sym (none-counted c.args.p.now)

pub loop-k-preserved : goal.loop-k-preserved
loop-k-preserved c = counted-more c.args.p.now c.nodes-nodes.result c.loop-k.k c.loop-k.total c.count_row.result c.in-Some.sum c.nodes-nodes.ensures.number c.count_row.ensures c.loop-k.invariant c.in-Some.ensures.1
