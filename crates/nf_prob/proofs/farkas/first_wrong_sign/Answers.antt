use Rattle.std.proofs.Common.{arith, ◌<◌, length}
use Rattle.nf_prob.proofs.Answered.{first_here}
use Rattle.nf_prob.proofs.farkas.first_wrong_sign.Goals as goal

pub returns-then-not-is_signed_at : goal.returns-then-not-is_signed_at
returns-then-not-is_signed_at c =
    let within : c.loop-i.i < length c.args.p.now.rows = omega arith in
    first_here _ _ c.loop-i.i _ within c.is_signed_at.ensures c.if-not-is_signed_at.true c.loop-i.invariant
