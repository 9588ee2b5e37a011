use Rattle.std.proofs.Common.{subst}
use Rattle.std.specs.Prelude.{IfNone, IfSome}
use Rattle.nf_num.specs.Rational.{zero_ℚ, ◌<ℚ◌}
use Rattle.nf_price.proofs.SignFacts.{below_not_zero, neither, not_zero_after}
use Rattle.nf_price.proofs.candidate.Candidate.moving.Goals as goal

pub returns-in-Some-clause-other : goal.returns-in-Some-clause-other
returns-in-Some-clause-other c = below_not_zero c.args.d (subst (λ r. IfSome r (λ x. c.args.d <ℚ zero_ℚ)) c.in-Some.is c.rising.ensures.below)

pub returns-in-None-clause-other : goal.returns-in-None-clause-other
returns-in-None-clause-other c = not_zero_after c.args.d c.falling.result c.falling.ensures.above

pub returns-in-None-clause-right : goal.returns-in-None-clause-right
returns-in-None-clause-right c = neither c.args.d c.falling.result (subst (λ r. IfNone r (c.args.d <ℚ zero_ℚ → ⊥)) c.in-None.is c.rising.ensures.right) c.falling.ensures.right
