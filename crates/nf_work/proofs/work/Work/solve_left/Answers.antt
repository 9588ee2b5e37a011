use Rattle.std.proofs.Common.{length, subst}
use Rattle.nf_inverse.specs.Causes.{DualTerms}
use Rattle.nf_sums.specs.Terms.{PassesIn}
use Rattle.nf_work.specs.Causes.{numbers}
use Rattle.nf_work.specs.Changed.{IsInverseOf, IsPassedIn}
use Rattle.nf_work.specs.Matrix.{Prices}
use Rattle.nf_work.proofs.Handed.{handed_as}
use Rattle.nf_work.proofs.Solved.{prices}
use Rattle.nf_work.proofs.work.Work.solve_left.Goals as goal

pub returns-in_err-duals-clause-passed : goal.returns-in_err-duals-clause-passed
returns-in_err-duals-clause-passed g c =
    let xs = c.args.left.now in
    handed_as c.from_residual.result _ (IsPassedIn (DualTerms c.args.self.now (numbers xs))) c.from_residual.ensures.1
    (subst (λ w. PassesIn (DualTerms w (numbers xs)) c.in_err-duals.field-0.0) c.self.view_is (c.in_err-duals.ensures.passed (numbers xs) (λ k t h q. q)))

pub returns-clause-value : goal.returns-clause-value
returns-clause-value g c = λ q h.
    let w = c.self.inside.inverse in
    let xs = c.args.left.now in
    subst (λ u. IsInverseOf q u → Prices (length u) q (numbers c.duals.new.out) (numbers xs)) c.self.view_is
    (λ i. prices w q (numbers xs) (numbers c.duals.new.out) i (c.in_ok-duals.ensures.value (numbers xs) (λ k t h q. q))) h
