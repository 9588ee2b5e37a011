use Rattle.nf_sums.proofs.Unit.{sum_from_zero, sum_with_zero}
use Rattle.nf_sums.proofs.sums.sum.Goals as goal

pub returns-then-is_zero-clause-value : goal.returns-then-is_zero-clause-value
returns-then-is_zero-clause-value g c = sum_from_zero c.args.total c.args.a (c.is_zero.ensures.0 c.if-is_zero.true)

pub returns-then-is_zero-2-clause-value : goal.returns-then-is_zero-2-clause-value
returns-then-is_zero-2-clause-value g c = sum_with_zero c.args.total c.args.a (c.is_zero-2.ensures.0 c.if-is_zero-2.true)
