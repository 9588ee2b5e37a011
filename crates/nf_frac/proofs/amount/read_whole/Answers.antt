use Rattle.std.proofs.Common.{arith, sym}
use Rattle.nf_frac.proofs.AmountFacts.{whole_small}
use Rattle.nf_frac.proofs.amount.read_whole.Goals as goal

pub overflow_mul-result : goal.overflow_mul-result
overflow_mul-result c = omega (arith, whole_small c.args.digits.now (sym c.if-not-are_digits.ensures) c.if-digits-gt9.false, c.short_number.ensures)

pub returns-clause-range : goal.returns-clause-range
returns-clause-range c = omega (arith, whole_small c.args.digits.now (sym c.if-not-are_digits.ensures) c.if-digits-gt9.false, c.short_number.ensures)
