use Rattle.nf_sums.proofs.Unit.{one_left, one_right, minus_left, minus_right}
use Rattle.nf_sums.proofs.sums.product.Goals as goal

pub returns-then-is_one-clause-value : goal.returns-then-is_one-clause-value
returns-then-is_one-clause-value g c = one_left c.args.a c.args.b (c.is_one.ensures c.if-is_one.true)

pub returns-then-is_minus_one-clause-value : goal.returns-then-is_minus_one-clause-value
returns-then-is_minus_one-clause-value g c = minus_left c.args.a c.args.b _ (c.is_minus_one.ensures c.if-is_minus_one.true) c.neg.ensures

pub returns-then-is_one-2-clause-value : goal.returns-then-is_one-2-clause-value
returns-then-is_one-2-clause-value g c = one_right c.args.a c.args.b (c.is_one-2.ensures c.if-is_one-2.true)

pub returns-then-is_minus_one-2-clause-value : goal.returns-then-is_minus_one-2-clause-value
returns-then-is_minus_one-2-clause-value g c = minus_right c.args.a c.args.b _ (c.is_minus_one-2.ensures c.if-is_minus_one-2.true) c.neg-then-is_minus_one-2.ensures
