use Rattle.std.proofs.Common.{refl, sym, ◌∙◌}
use Rattle.nf_frac.specs.declared.Op.TheVariants.{Sub}
use Rattle.nf_sums.proofs.Laws.{difference_passed, passes_from}
use Rattle.nf_sums.proofs.Up.{handed_on}
use Rattle.nf_ratio.proofs.ratios.span.Goals as goal

pub returns-in_err-distance-in-Some-Some-clause-passed : goal.returns-in_err-distance-in-Some-Some-clause-passed
returns-in_err-distance-in-Some-Some-clause-passed g c =
    handed_on c.from_residual.result _ _ c.from_residual.ensures.1 (
      c.in-Some-Some.lower,
      c.in-Some-Some.upper,
      sym c.bound_at.ensures ∙ c.in-Some-Some.is-0,
      sym c.bound_at-2.ensures ∙ c.in-Some-Some.is-1,
      difference_passed c.in-Some-Some.upper c.in-Some-Some.lower _ _ _ refl refl c.in_err-distance-in-Some-Some.ensures.passed.0 (passes_from Sub _ _ _ c.in_err-distance-in-Some-Some.ensures.passed.0 c.in_err-distance-in-Some-Some.ensures.passed.1),
    )
