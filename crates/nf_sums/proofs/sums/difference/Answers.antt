use Rattle.nf_sums.proofs.Unit.{less_from_zero, less_zero}
use Rattle.nf_sums.proofs.sums.difference.Goals as goal

pub returns-then-is_zero-clause-value : goal.returns-then-is_zero-clause-value
returns-then-is_zero-clause-value g c = less_from_zero c.args.total c.args.a _ (c.is_zero.ensures.0 c.if-is_zero.true) c.neg.ensures

pub returns-then-is_zero-2-clause-value : goal.returns-then-is_zero-2-clause-value
returns-then-is_zero-2-clause-value g c = less_zero c.args.total c.args.a (c.is_zero-2.ensures.0 c.if-is_zero-2.true)
