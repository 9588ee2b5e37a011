use Rattle.std.proofs.Common.{refl, not}
use Rattle.nf_sums.specs.Terms.{Is}
use Rattle.nf_sums.specs.Rows.{flip_terms}
use Rattle.nf_sums.proofs.Up.{handed_on}
use Rattle.nf_sums.proofs.Laws.{wider, flip_passed}
use Rattle.nf_inverse.specs.Causes.{FlipTerms}
use Rattle.nf_inverse.specs.Weights.{at}
use Rattle.nf_inverse.proofs.values.flip_values.Goals as goal

pub returns-in_err-sub_multiple-clause-passed : goal.returns-in_err-sub_multiple-clause-passed
returns-in_err-sub_multiple-clause-passed g c =
    let step = c.in_err-sub_multiple.ensures.passed in
    let s = step.0 in
    handed_on c.from_residual.result _ _ c.from_residual.ensures.1
    (wider (Is (flip_terms (at c.args.values.now s) (not c.args.falls) (at c.args.entries.now s) c.args.distance)) (FlipTerms c.args.values.now (at c.args.entries.now) c.args.falls c.args.distance) _ (λ t e. (s, step.1, e))
    (flip_passed (at c.args.values.now s) (at c.args.entries.now s) c.args.distance c.args.falls _ _ _ _ refl refl c.signed-change.ensures step.2))
