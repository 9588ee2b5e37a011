use Rattle.std.proofs.Common.{subst}
use Rattle.nf_num.specs.Rational.{◌≤ℚ◌, ◌<ℚ◌}
use Rattle.nf_prob.specs.declared.cert.Why.TheVariants.{Column}
use Rattle.nf_prob.proofs.Answered.{farkas_gap, farkas_no, farkas_yes}
use Rattle.nf_prob.proofs.Signs.{not_less}
use Rattle.nf_prob.proofs.farkas.verify_farkas.Goals as goal

pub returns-in-Missing-clause-value : goal.returns-in-Missing-clause-value
returns-in-Missing-clause-value g c = farkas_no c.args.p.now c.args.y.now (Column c.in-Missing.j) (c.in_default.ensures, rw c.in-Missing.is at c.in_ok-j.ensures.value)

pub returns-then-is_less-clause-value : goal.returns-then-is_less-clause-value
returns-then-is_less-clause-value g c = farkas_yes c.args.p.now c.args.y.now _ c.requires.duals c.in_default.ensures c.in_ok-gap-in-Value.ensures.value (subst (λ z. z <ℚ c.in_ok-gap-in-Value.gap) c.zero.ensures (c.is_less.ensures.0 c.if-is_less.true))

pub returns-else-is_less-clause-value : goal.returns-else-is_less-clause-value
returns-else-is_less-clause-value g c = farkas_gap c.args.p.now c.args.y.now _ c.in_default.ensures c.in_ok-gap-in-Value.ensures.value (subst (λ z. c.in_ok-gap-in-Value.gap ≤ℚ z) c.zero.ensures (not_less _ _ _ c.is_less.ensures c.if-is_less.false))
