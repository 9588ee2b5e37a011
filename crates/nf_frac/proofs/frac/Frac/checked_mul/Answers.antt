use Rattle.std.proofs.Common.{◌∙◌, sym, refl}
use Rattle.nf_num.specs.Rational.{numer}
use Rattle.nf_frac.proofs.Fields.{None-iff, back_is}
use Rattle.nf_frac.proofs.Reduced.{whole_parts}
use Rattle.nf_frac.proofs.Mul.{at, no_numerator, no_denominator, fits_both, parts, value, no_whole, whole_fits, whole_value}
use Rattle.nf_frac.proofs.frac.Frac.checked_mul.Goals as goal

pub returns-in_err-num : goal.returns-in_err-num
returns-in_err-num c = None-iff _ _ c.from_residual.ensures (no_whole c.args.self c.args.right _ _ (back_is _ (numer c.args.self) c.parts-a.ensures.range.num_in_range c.parts-a.ensures.num) (back_is _ (numer c.args.right) c.parts-c.ensures.range.num_in_range c.parts-c.ensures.num) (sym c.parts-a.ensures.den ∙ c.if-b-eq1.true) (sym c.parts-c.ensures.den ∙ c.if-d-eq1.true) c.in_err-num.ensures)

pub from_parts-requires : goal.from_parts-requires
from_parts-requires c = whole_parts _ _ c.in_ok-num.ensures.0 c.in_ok-num.ensures.1

pub returns-then-d-eq1 : goal.returns-then-d-eq1
returns-then-d-eq1 c = (whole_fits c.args.self c.args.right _ _ (back_is _ (numer c.args.self) c.parts-a.ensures.range.num_in_range c.parts-a.ensures.num) (back_is _ (numer c.args.right) c.parts-c.ensures.range.num_in_range c.parts-c.ensures.num) (sym c.parts-a.ensures.den ∙ c.if-b-eq1.true) (sym c.parts-c.ensures.den ∙ c.if-d-eq1.true) c.in_ok-num.ensures.0, c.from_parts.ensures ∙ whole_value c.args.self c.args.right _ _ (back_is _ (numer c.args.self) c.parts-a.ensures.range.num_in_range c.parts-a.ensures.num) (back_is _ (numer c.args.right) c.parts-c.ensures.range.num_in_range c.parts-c.ensures.num) (sym c.parts-a.ensures.den ∙ c.if-b-eq1.true) (sym c.parts-c.ensures.den ∙ c.if-d-eq1.true) _ c.in_ok-num.ensures.0 c.in_ok-num.ensures.1)

pub returns-in_err-num-2 : goal.returns-in_err-num-2
returns-in_err-num-2 c = None-iff _ _ c.from_residual-in_err-num-2.ensures (no_numerator (at c.args.self c.args.right _ _ _ _ _ _ _ _ c.without_common-left.ensures.common c.without_common-left.ensures.rest c.without_common-left.ensures.range c.without_common-other.ensures.common c.without_common-other.ensures.rest c.without_common-other.ensures.range c.parts-a.ensures.den c.parts-c.ensures.den refl refl) c.in_err-num-2.ensures)

pub quotient-requires : goal.quotient-requires
quotient-requires c = c.without_common-other.ensures.positive

pub quotient-requires-2 : goal.quotient-requires-2
quotient-requires-2 c = c.without_common-left.ensures.positive

pub returns-in_err-den : goal.returns-in_err-den
returns-in_err-den c = None-iff _ _ c.from_residual-in_err-den.ensures (no_denominator (at c.args.self c.args.right _ _ _ _ _ _ _ _ c.without_common-left.ensures.common c.without_common-left.ensures.rest c.without_common-left.ensures.range c.without_common-other.ensures.common c.without_common-other.ensures.rest c.without_common-other.ensures.range c.parts-a.ensures.den c.parts-c.ensures.den c.quotient.ensures c.quotient-2.ensures) c.in_err-den.ensures)

pub from_parts-requires-2 : goal.from_parts-requires-2
from_parts-requires-2 c = parts (at c.args.self c.args.right _ _ _ _ _ _ _ _ c.without_common-left.ensures.common c.without_common-left.ensures.rest c.without_common-left.ensures.range c.without_common-other.ensures.common c.without_common-other.ensures.rest c.without_common-other.ensures.range c.parts-a.ensures.den c.parts-c.ensures.den c.quotient.ensures c.quotient-2.ensures) _ _ c.in_ok-num-2.ensures.0 c.in_ok-num-2.ensures.1 c.in_ok-den.ensures.0 c.in_ok-den.ensures.1

pub returns : goal.returns
returns c = (fits_both (at c.args.self c.args.right _ _ _ _ _ _ _ _ c.without_common-left.ensures.common c.without_common-left.ensures.rest c.without_common-left.ensures.range c.without_common-other.ensures.common c.without_common-other.ensures.rest c.without_common-other.ensures.range c.parts-a.ensures.den c.parts-c.ensures.den c.quotient.ensures c.quotient-2.ensures) c.in_ok-num-2.ensures.0 c.in_ok-den.ensures.0, c.from_parts-2.ensures ∙ value (at c.args.self c.args.right _ _ _ _ _ _ _ _ c.without_common-left.ensures.common c.without_common-left.ensures.rest c.without_common-left.ensures.range c.without_common-other.ensures.common c.without_common-other.ensures.rest c.without_common-other.ensures.range c.parts-a.ensures.den c.parts-c.ensures.den c.quotient.ensures c.quotient-2.ensures) _ _ c.in_ok-num-2.ensures.0 c.in_ok-num-2.ensures.1 c.in_ok-den.ensures.0 c.in_ok-den.ensures.1)
