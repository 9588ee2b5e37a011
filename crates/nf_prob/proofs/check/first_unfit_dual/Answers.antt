use Rattle.std.proofs.Common.{arith, ◌<◌, length}
use Rattle.nf_prob.proofs.Answered.{first_here}
use Rattle.nf_prob.proofs.check.first_unfit_dual.Goals as goal

pub returns-then-not-fits-clause-value : goal.returns-then-not-fits-clause-value
returns-then-not-fits-clause-value g c =
    let within : c.loop-i.i < length c.args.p.now.rows = omega arith in
    first_here _ _ c.loop-i.i _ within c.in_ok-fits.ensures.value c.if-not-fits.true c.loop-i.invariant
