use Rattle.std.proofs.Common.{◌≡◌, length, sym, ap, ◌∙◌, subst, rules}
use Rattle.std.proofs.lemmas.List.{with_items_is}
use Rattle.nf_sums.proofs.Up.{handed_on}
use Rattle.nf_model.specs.Program.{at}
use Rattle.nf_simplex.specs.Standing.{AreDualsOf}
use Rattle.nf_basis.specs.Names.{phase_of}
use Rattle.nf_basis.proofs.Inverse.{duals_by_row, duals_arise}
use Rattle.nf_basis.proofs.duals.Duals.find.Goals as goal

pub returns-in_err-duals-clause-passed : goal.returns-in_err-duals-clause-passed
returns-in_err-duals-clause-passed g c =
    handed_on c.from_residual.result _ _ c.from_residual.ensures.1
    (duals_arise c.args.p.now c.args.state.now.standing c.args.slots.now c.args.inverse.now c.requires.state.problem c.requires.listed c.requires.inverse c.requires.basis.independent (phase_of c.args.phase) _ (c.in_err-duals.ensures.passed _ (λ k t m q. q)))

pub returns-clause-kept : goal.returns-clause-kept
returns-clause-kept g c =
    let p = c.args.p.now in
    let s = c.args.state.now.standing in
    let by_row = c.args.self.now.by_row in
    let out = c.duals.new.out in
    let len : length out ≡ by_row.len = search rules in
    let same = with_items_is by_row out len in
    record {
      one_each = ap length same ∙ (len ∙ (by_row.ok.0 ∙ c.requires.kept.one_each));
      are = λ k. subst (λ xs. AreDualsOf p s (phase_of c.args.phase) (at xs)) (sym same) (duals_by_row p s c.args.slots.now c.args.inverse.now c.requires.state.problem c.requires.listed c.requires.inverse c.requires.basis.independent (phase_of c.args.phase) out (c.in_ok-duals.ensures.value _ (λ k t m q. q)));
    }
