use Rattle.std.proofs.Common.{◌<◌, length, refl, arith}
use Rattle.std.proofs.lemmas.List.{get_or_read}
use Rattle.nf_frac.specs.declared.Op.TheVariants.{Div}
use Rattle.nf_sums.specs.Terms.{Is}
use Rattle.nf_sums.specs.Rows.{quotient_terms}
use Rattle.nf_sums.proofs.Up.{handed_on}
use Rattle.nf_sums.proofs.Laws.{wider, quotient_passed, passes_from}
use Rattle.nf_inverse.specs.Causes.{ScaledTerms}
use Rattle.nf_inverse.specs.Weights.{at}
use Rattle.nf_inverse.proofs.rows.scale_row.Goals as goal

pub returns-in_err-scaled-clause-passed : goal.returns-in_err-scaled-clause-passed
returns-in_err-scaled-clause-passed g c =
    let within : c.loop-i.i < length c.args.row.now = omega arith in
    handed_on c.from_residual.result _ _ c.from_residual.ensures.1
    (wider (Is (quotient_terms (at c.args.row.now c.loop-i.i) c.args.entry)) (ScaledTerms c.args.row.now c.args.entry) _ (λ t h. (c.loop-i.i, within, h))
    (quotient_passed (at c.args.row.now c.loop-i.i) c.args.entry _ _ _ (get_or_read c.args.row.now c.loop-i.i _ within c.index-row-i.is _) refl c.in_err-scaled.ensures.passed.0 (passes_from Div _ _ _ c.in_err-scaled.ensures.passed.0 c.in_err-scaled.ensures.passed.1)))
