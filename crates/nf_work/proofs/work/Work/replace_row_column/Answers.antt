use Rattle.std.proofs.Common.{subst}
use Rattle.nf_num.specs.Rational.{neg_ℚ}
use Rattle.nf_sums.proofs.Laws.{wider}
use Rattle.nf_inverse.specs.Causes.{DualTerms}
use Rattle.nf_work.specs.Causes.{numbers, RowColumnTerms}
use Rattle.nf_work.specs.declared.fault.WorkFault.TheVariants.{Passed}
use Rattle.nf_work.specs.Changed.{HasReplaced, HasReplacedRow, IsReplaceFault, IsRowFault}
use Rattle.nf_work.proofs.Handed.{handed_as, ok_as, err_as}
use Rattle.nf_work.proofs.Replaced.{row_replaced, row_fault}
use Rattle.nf_work.proofs.work.Work.replace_row_column.Goals as goal

pub returns-in_err-change_by_row-clause-fault : goal.returns-in_err-change_by_row-clause-fault
returns-in_err-change_by_row-clause-fault g c =
    let row = numbers c.args.row.now in
    let xs = numbers c.args.column.now in
    handed_as c.from_residual.result _ (IsRowFault c.args.self.now row c.args.at xs) c.from_residual.ensures.1
    (subst (λ w. IsRowFault w row c.args.at xs (Passed c.in_err-change_by_row.field-0.0)) c.self.view_is
    (wider (DualTerms c.self.inside.inverse (λ b. neg_ℚ (row b))) (RowColumnTerms c.self.inside.inverse row c.args.at xs) _ (λ t e. RowColumnTerms.by_row t e) c.in_err-change_by_row.ensures.passed))

pub returns-clause-value : goal.returns-clause-value
returns-clause-value g c =
    let row = numbers c.args.row.now in
    let xs = numbers c.args.column.now in
    let mid = c.change_by_row.new.inverse in
    let new = c.replace.new.inverse in
    ok_as c.replace.result (λ _. HasReplaced mid c.args.at xs new) (λ _. HasReplacedRow c.args.self.now row c.args.at xs new)
    (λ x h. subst (λ w. HasReplacedRow w row c.args.at xs new) c.self.view_is (row_replaced c.self.inside.inverse mid new row c.args.at xs c.in_ok-change_by_row.ensures.value h))
    c.replace.ensures.value

pub returns-clause-fault : goal.returns-clause-fault
returns-clause-fault g c =
    let row = numbers c.args.row.now in
    let xs = numbers c.args.column.now in
    let mid = c.change_by_row.new.inverse in
    err_as c.replace.result (IsReplaceFault mid c.args.at xs) (IsRowFault c.args.self.now row c.args.at xs)
    (λ e h. subst (λ w. IsRowFault w row c.args.at xs e) c.self.view_is (row_fault c.self.inside.inverse mid row c.args.at xs c.in_ok-change_by_row.ensures.value e h))
    c.replace.ensures.fault
