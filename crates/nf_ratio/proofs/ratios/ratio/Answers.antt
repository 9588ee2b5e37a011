use Rattle.std.proofs.Common.{refl}
use Rattle.nf_frac.specs.declared.Op.TheVariants.{Div}
use Rattle.nf_sums.proofs.Laws.{passes_from, quotient_passed}
use Rattle.nf_sums.proofs.Up.{handed_on}
use Rattle.nf_ratio.proofs.ratios.ratio.Goals as goal

pub returns-in_err-ratio-clause-passed : goal.returns-in_err-ratio-clause-passed
returns-in_err-ratio-clause-passed g c =
    handed_on c.from_residual.result _ _ c.from_residual.ensures.1
    (quotient_passed c.args.way c.args.entry _ _ _ refl refl c.in_err-ratio.ensures.passed.0 (passes_from Div _ _ _ c.in_err-ratio.ensures.passed.0 c.in_err-ratio.ensures.passed.1))
