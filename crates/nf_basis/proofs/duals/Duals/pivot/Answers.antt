use Rattle.std.proofs.Common.{◌≡◌, ◌<◌, length, sym, ap, ◌∙◌, subst, rules, true}
use Rattle.std.proofs.lemmas.List.{with_items_is}
use Rattle.nf_model.specs.Program.{at}
use Rattle.nf_num.specs.Rational.{◌+ℚ◌, ◌*ℚ◌}
use Rattle.nf_inverse.specs.Causes.{AddsMultiple}
use Rattle.nf_sums.proofs.Up.{handed_on}
use Rattle.nf_simplex.specs.Layout.{layout_of}
use Rattle.nf_simplex.specs.Standing.{stage_of, AreDualsOf}
use Rattle.nf_simplex.proofs.Numbered.{number_within}
use Rattle.nf_basis.specs.Names.{col_of, phase_of}
use Rattle.nf_basis.specs.Kept.{number}
use Rattle.nf_basis.specs.Duals.{less_paid}
use Rattle.nf_basis.proofs.Priced.{price_is_reduced, price_arises, duals_after, dual_arises}
use Rattle.nf_basis.proofs.duals.Duals.pivot.Goals as goal

pub returns-in_err-change-clause-passed : goal.returns-in_err-change-clause-passed
returns-in_err-change-clause-passed g c l a row =
    let p = c.args.p.now in
    let s = c.args.state.now.standing in
    let phase = phase_of c.args.phase in
    let same = c.as_slice.ensures.value in
    let known : c.args.self.now.known ≡ true = search rules in
    handed_on c.from_residual.result _ _ c.from_residual.ensures.1
    (price_arises p s phase c.as_slice.result.now (ap length same ∙ c.requires.kept.one_each) (number p c.args.entering) c.cost-paid.result c.cost-paid.ensures (number_within (layout_of p) s.stage (col_of c.args.entering) c.requires.state.problem.arcs_within c.requires.present.1)
    (subst (λ ys. AreDualsOf p s phase (at ys)) (sym same) (c.requires.kept.are known)) _ c.in_err-change.ensures.passed)

pub returns-in_err-add_multiple-clause-passed : goal.returns-in_err-add_multiple-clause-passed
returns-in_err-add_multiple-clause-passed g c l a row =
    let p = c.args.p.now in
    let s = c.args.state.now.standing in
    let phase = phase_of c.args.phase in
    let e = number p c.args.entering in
    let y = c.args.self.now.by_row.items in
    let known : c.args.self.now.known ≡ true = search rules in
    let change_is = c.in_ok-change.ensures.value ∙ (ap (λ ys. less_paid c.cost-paid.result ys ((stage_of p s).entry e)) c.as_slice.ensures.value ∙ price_is_reduced p s phase y c.requires.kept.one_each e c.cost-paid.result c.cost-paid.ensures) in
    let step = subst (λ xs. AddsMultiple xs (length xs) (at c.args.weights.now) c.in_ok-change.change c.in_err-add_multiple.field-0.0) c.as_mut_slice.ensures.value c.in_err-add_multiple.ensures.passed in
    handed_on c.from_residual-in_err-add_multiple.result _ _ c.from_residual-in_err-add_multiple.ensures.1
    (dual_arises p s c.args.entering l a c.args.weights.now row phase y (c.requires.kept.are known) c.in_ok-change.change change_is step.0 (subst (λ n. step.0 < n) c.requires.kept.one_each step.1) _ step.2)

pub returns-clause-kept : goal.returns-clause-kept
returns-clause-kept g c l a row =
    let p = c.args.p.now in
    let s = c.args.state.now.standing in
    let phase = phase_of c.args.phase in
    let e = number p c.args.entering in
    let y = c.args.self.now.by_row.items in
    let known : c.args.self.now.known ≡ true = search rules in
    let change_is = c.in_ok-change.ensures.value ∙ (ap (λ ys. less_paid c.cost-paid.result ys ((stage_of p s).entry e)) c.as_slice.ensures.value ∙ price_is_reduced p s phase y c.requires.kept.one_each e c.cost-paid.result c.cost-paid.ensures) in
    let out = c.add_multiple.new.total in
    let len : length out ≡ c.args.self.now.by_row.len = search rules in
    let same = with_items_is c.args.self.now.by_row out len in
    record {
      one_each = ap length same ∙ (len ∙ (c.args.self.now.by_row.ok.0 ∙ c.requires.kept.one_each));
      are = λ k. duals_after p s c.args.entering l a c.args.weights.now row phase y (c.requires.kept.are known) c.in_ok-change.change change_is _
          (λ i h. ap (λ zs. at zs i) same ∙ (c.in_ok-add_multiple.ensures.value i (subst (λ n. i < n) (sym (ap length c.as_mut_slice.ensures.value ∙ c.requires.kept.one_each)) h) ∙ ap (λ xs. at xs i +ℚ at c.args.weights.now i *ℚ c.in_ok-change.change) c.as_mut_slice.ensures.value));
    }
