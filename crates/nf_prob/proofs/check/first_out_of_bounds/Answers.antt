use Rattle.std.proofs.Common.{arith, ◌<◌, length}
use Rattle.nf_prob.proofs.Answered.{first_here}
use Rattle.nf_prob.proofs.check.first_out_of_bounds.Goals as goal

pub returns-then-not-is_in_bounds : goal.returns-then-not-is_in_bounds
returns-then-not-is_in_bounds c =
    let within : c.loop-j.j < length c.args.p.now.columns = omega arith in
    first_here _ _ c.loop-j.j _ within c.is_in_bounds.ensures c.if-not-is_in_bounds.true c.loop-j.invariant
