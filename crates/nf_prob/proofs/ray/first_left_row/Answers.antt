use Rattle.std.proofs.Common.{arith, ◌<◌, length}
use Rattle.nf_prob.proofs.Answered.{first_here}
use Rattle.nf_prob.proofs.ray.first_left_row.Goals as goal

pub returns-then-not-keeps-clause-value : goal.returns-then-not-keeps-clause-value
returns-then-not-keeps-clause-value g c =
    let within : c.loop-i.i < length c.args.p.now.rows = omega arith in
    first_here _ _ c.loop-i.i _ within c.in_ok-keeps.ensures.value c.if-not-keeps.true c.loop-i.invariant
