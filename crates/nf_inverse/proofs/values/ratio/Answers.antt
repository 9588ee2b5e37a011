use Rattle.std.proofs.Common.{inl, inr, refl}
use Rattle.nf_frac.specs.declared.Op.TheVariants.{Div, Sub}
use Rattle.nf_num.specs.Rational.{◌-ℚ◌}
use Rattle.nf_sums.specs.Terms.{Is}
use Rattle.nf_sums.specs.Rows.{difference_terms, quotient_terms}
use Rattle.nf_sums.proofs.Up.{handed_on}
use Rattle.nf_sums.proofs.Laws.{wider, difference_passed, quotient_passed, passes_from}
use Rattle.nf_inverse.specs.Causes.{RatioTerms}
use Rattle.nf_inverse.proofs.values.ratio.Goals as goal

pub returns-in_err-distance-clause-passed : goal.returns-in_err-distance-clause-passed
returns-in_err-distance-clause-passed g c =
    handed_on c.from_residual.result _ _ c.from_residual.ensures.1
    (wider (Is (difference_terms c.args.value c.args.bound)) (RatioTerms c.args.value c.args.bound c.args.entry) _ (λ t h. inl h)
    (difference_passed c.args.value c.args.bound _ _ _ refl refl c.in_err-distance.ensures.passed.0 (passes_from Sub _ _ _ c.in_err-distance.ensures.passed.0 c.in_err-distance.ensures.passed.1)))

pub returns-in_err-change-clause-passed : goal.returns-in_err-change-clause-passed
returns-in_err-change-clause-passed g c =
    handed_on c.from_residual-in_err-change.result _ _ c.from_residual-in_err-change.ensures.1
    (wider (Is (quotient_terms (c.args.value -ℚ c.args.bound) c.args.entry)) (RatioTerms c.args.value c.args.bound c.args.entry) _ (λ t h. inr h)
    (quotient_passed (c.args.value -ℚ c.args.bound) c.args.entry _ _ _ c.in_ok-distance.ensures.value.1 refl c.in_err-change.ensures.passed.0 (passes_from Div _ _ _ c.in_err-change.ensures.passed.0 c.in_err-change.ensures.passed.1)))
