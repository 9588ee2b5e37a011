use Rattle.std.proofs.Common.{◌∙◌, ap}
use Rattle.nf_num.specs.Rational.{◌-ℚ◌}
use Rattle.nf_prob.proofs.Arises.{gap_in_farkas, right_in_farkas}
use Rattle.nf_sums.proofs.Up.{handed_on}
use Rattle.nf_prob.proofs.farkas.gap_above.Goals as goal

pub returns-in_err-right-clause-passed : goal.returns-in_err-right-clause-passed
returns-in_err-right-clause-passed g c = handed_on c.from_residual.result _ _ c.from_residual.ensures.1 (right_in_farkas c.args.p.now c.args.y.now _ c.in_err-right.ensures.passed)

pub returns-in_err-gap-clause-passed : goal.returns-in_err-gap-clause-passed
returns-in_err-gap-clause-passed g c = handed_on c.from_residual-in_err-gap.result _ _ c.from_residual-in_err-gap.ensures.1 (gap_in_farkas c.args.p.now c.args.y.now _ _ _ c.in_ok-right.ensures.value c.requires.by_columns c.in_err-gap.ensures.passed)

pub returns-clause-value : goal.returns-clause-value
returns-clause-value g c = (c.args.greatest, c.requires.greatest, c.in_ok-gap.ensures.value.1 ∙ ap (λ z. z -ℚ c.args.greatest) c.in_ok-right.ensures.value)
