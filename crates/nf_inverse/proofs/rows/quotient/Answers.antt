use Rattle.nf_inverse.proofs.Lists.{zero_divided}
use Rattle.nf_inverse.proofs.rows.quotient.Goals as goal

pub returns-then-is_zero-clause-value : goal.returns-then-is_zero-clause-value
returns-then-is_zero-clause-value g c = zero_divided c.args.a c.args.b (c.is_zero.ensures.0 c.if-is_zero.true)
