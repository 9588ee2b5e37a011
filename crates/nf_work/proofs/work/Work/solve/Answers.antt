use Rattle.std.proofs.Common.{length, subst}
use Rattle.nf_inverse.specs.Causes.{EntryTerms}
use Rattle.nf_sums.specs.Terms.{PassesIn}
use Rattle.nf_work.specs.Causes.{numbers}
use Rattle.nf_work.specs.Changed.{IsInverseOf, IsPassedIn}
use Rattle.nf_work.specs.Matrix.{Combines}
use Rattle.nf_work.proofs.Handed.{handed_as}
use Rattle.nf_work.proofs.Solved.{combines}
use Rattle.nf_work.proofs.work.Work.solve.Goals as goal

pub returns-in_err-entries_of-clause-passed : goal.returns-in_err-entries_of-clause-passed
returns-in_err-entries_of-clause-passed g c =
    let xs = c.args.right.now in
    handed_as c.from_residual.result _ (IsPassedIn (EntryTerms c.args.self.now (numbers xs))) c.from_residual.ensures.1
    (subst (λ w. PassesIn (EntryTerms w (numbers xs)) c.in_err-entries_of.field-0.0) c.self.view_is c.in_err-entries_of.ensures.passed)

pub returns-clause-value : goal.returns-clause-value
returns-clause-value g c = λ q h.
    let w = c.self.inside.inverse in
    let xs = c.args.right.now in
    subst (λ u. IsInverseOf q u → Combines (length u) q (numbers c.entries_of.new.out) (numbers xs)) c.self.view_is
    (λ i. combines w q (numbers xs) (numbers c.entries_of.new.out) i c.in_ok-entries_of.ensures.value) h
