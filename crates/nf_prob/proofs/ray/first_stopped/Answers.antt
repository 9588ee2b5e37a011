use Rattle.std.proofs.Common.{arith, ◌<◌, length}
use Rattle.nf_prob.proofs.Answered.{first_here}
use Rattle.nf_prob.proofs.ray.first_stopped.Goals as goal

pub returns-then-not-is_free : goal.returns-then-not-is_free
returns-then-not-is_free c =
    let within : c.loop-j.j < length c.args.p.now.columns = omega arith in
    first_here _ _ c.loop-j.j _ within c.is_free.ensures c.if-not-is_free.true c.loop-j.invariant
