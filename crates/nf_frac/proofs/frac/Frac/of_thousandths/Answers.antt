use Rattle.std.proofs.Common.{◌∙◌, ap, arith, pos}
use Rattle.std.proofs.lemmas.Int.{ints, quot_rem_is, quot_fits}
use mir.Syntax.{w64}
use mir.Val.{to_z}
use Rattle.nf_frac.proofs.AmountFacts.{whole_value}
use Rattle.nf_frac.proofs.frac.Frac.of_thousandths.Goals as goal

pub returns-then-thousandths-eq0 : goal.returns-then-thousandths-eq0
returns-then-thousandths-eq0 c =
    let quotient = quot_fits w64 c.args.thousandths (pos 1000) c.ranges.thousandths (omega (arith, ints)) in
    c.from_whole.ensures ∙ whole_value c.args.thousandths _ _ (quot_rem_is w64 c.args.thousandths (pos 1000) c.ranges.thousandths (omega (arith, ints)) quotient) (ap (to_z w64) c.if-thousandths-eq0.true)
