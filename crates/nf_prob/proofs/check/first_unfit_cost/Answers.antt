use Rattle.std.proofs.Common.{arith, ◌<◌, length}
use Rattle.nf_prob.proofs.Answered.{first_here}
use Rattle.nf_prob.proofs.check.first_unfit_cost.Goals as goal

pub returns-then-not-fits-clause-value : goal.returns-then-not-fits-clause-value
returns-then-not-fits-clause-value g c =
    let within : c.loop-j.j < length c.args.p.now.columns = omega arith in
    first_here _ _ c.loop-j.j _ within c.in_ok-fits.ensures.value c.if-not-fits.true c.loop-j.invariant
