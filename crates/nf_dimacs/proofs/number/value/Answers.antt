use Rattle.std.proofs.Common.{arith, ℕ, ap, ◌+◌, ◌*◌, ◌∙◌}
use Rattle.nf_frac.proofs.DigitFacts.{next_value, value_small}
use Rattle.nf_dimacs.proofs.number.value.Goals as goal

pub overflow_mul-value : goal.overflow_mul-value
overflow_mul-value c =
    let next = next_value c.args.digits.now c.loop-digit.digit-index c.loop-digit.value c.requires.digits c.loop-digit-test.true c.loop-digit.invariant in
    omega (arith, next, value_small c.args.digits.now (c.loop-digit.digit-index + 1) c.requires.digits c.requires.short)

pub overflow_add-value : goal.overflow_add-value
overflow_add-value c =
    let next = next_value c.args.digits.now c.loop-digit.digit-index c.loop-digit.value c.requires.digits c.loop-digit-test.true c.loop-digit.invariant in
    omega (arith, next, value_small c.args.digits.now (c.loop-digit.digit-index + 1) c.requires.digits c.requires.short)

pub loop-digit-preserved : goal.loop-digit-preserved
loop-digit-preserved c = ap (λ (n : ℕ). c.loop-digit.value * 10 + n) c.from.ensures ∙ next_value c.args.digits.now c.loop-digit.digit-index c.loop-digit.value c.requires.digits c.loop-digit-test.true c.loop-digit.invariant

pub returns-clause-short : goal.returns-clause-short
returns-clause-short c = omega (arith, c.loop-digit.invariant, value_small c.args.digits.now c.loop-digit.digit-index c.requires.digits c.requires.short)
