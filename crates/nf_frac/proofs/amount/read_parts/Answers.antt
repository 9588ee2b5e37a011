use Rattle.std.proofs.Common.{arith, ◌≡◌, ◌*◌, ◌^◌, ◌-◌, length, ap₂, ℕ, sym}
use Rattle.nf_frac.specs.Digits.{decimal_value}
use Rattle.nf_frac.proofs.AmountFacts.{whole_small, rest_small}
use Rattle.nf_frac.proofs.amount.read_parts.Goals as goal

pub overflow_mul-part : goal.overflow_mul-part
overflow_mul-part c =
    let same : c.short_number.result * c.pow.result ≡ decimal_value c.args.rest.now * 10 ^ (3 - length c.args.rest.now) = ap₂ (λ (m n : ℕ). m * n) c.short_number.ensures c.pow.ensures in
    omega (arith, same, rest_small c.args.rest.now (sym c.if-not-are_digits-2.ensures) c.if-rest-gt3.false)

pub overflow_mul-result : goal.overflow_mul-result
overflow_mul-result c = omega (arith, whole_small c.args.whole.now (sym c.if-not-are_digits.ensures) c.if-whole-gt9.false, c.short_number-2.ensures)

pub overflow_add-result : goal.overflow_add-result
overflow_add-result c =
    let same : c.short_number.result * c.pow.result ≡ decimal_value c.args.rest.now * 10 ^ (3 - length c.args.rest.now) = ap₂ (λ (m n : ℕ). m * n) c.short_number.ensures c.pow.ensures in
    omega (arith, same, rest_small c.args.rest.now (sym c.if-not-are_digits-2.ensures) c.if-rest-gt3.false, whole_small c.args.whole.now (sym c.if-not-are_digits.ensures) c.if-whole-gt9.false, c.short_number-2.ensures)

pub returns-clause-range : goal.returns-clause-range
returns-clause-range c =
    let same : c.short_number.result * c.pow.result ≡ decimal_value c.args.rest.now * 10 ^ (3 - length c.args.rest.now) = ap₂ (λ (m n : ℕ). m * n) c.short_number.ensures c.pow.ensures in
    omega (arith, same, rest_small c.args.rest.now (sym c.if-not-are_digits-2.ensures) c.if-rest-gt3.false, whole_small c.args.whole.now (sym c.if-not-are_digits.ensures) c.if-whole-gt9.false, c.short_number-2.ensures)
