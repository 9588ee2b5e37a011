use Rattle.std.proofs.Common.{◌≡◌, ◌<◌, ℕ, length, refl, sym, ap, ◌∙◌, subst, rules}
use Rattle.std.proofs.lemmas.List.{with_items_is}
use Rattle.nf_model.specs.Program.{at}
use Rattle.nf_sums.proofs.Up.{handed_on}
use Rattle.nf_simplex.specs.Standing.{AreDualsOf}
use Rattle.nf_basis.specs.Names.{phase_of}
use Rattle.nf_tree.proofs.Slotted.{rows_are, pot, are_prices, pots_are_duals, duals_slotted}
use Rattle.nf_tree.proofs.Passing.{prices_arise}
use Rattle.nf_tree.proofs.duals.Duals.find.Goals as goal

pub returns-in_err-potentials-clause-passed : goal.returns-in_err-potentials-clause-passed
returns-in_err-potentials-clause-passed g c =
    let p = c.args.p.now in
    let s = c.args.state.now.standing in
    let slots = c.args.slots.now in
    let r = c.requires in
    let nodes = rows_are p s r.stage in
    let e : c.as_slice.result.now ≡ c.cost_all.new.out.items = c.as_slice.ensures.value in
    let costs_are = λ (i : ℕ) (l : i < p.nodes). ap (λ xs. at xs i) e ∙ c.cost_all.ensures.costs i (subst (λ n. i < n) (sym (r.listed.as_many ∙ nodes)) l) in
    let y = pot p s slots r.state.problem r.stage r.listed c.args.order.now c.args.links.now r.tree (phase_of c.args.phase) in
    let prices = are_prices p s slots r.state.problem r.stage r.listed c.args.order.now c.args.links.now r.tree (phase_of c.args.phase) (at c.as_slice.result.now) costs_are in
    handed_on c.from_residual.result _ _ c.from_residual.ensures.1
    (prices_arise p s slots c.args.order.now c.args.links.now c.args.state.now r.state refl r.stage r.tree (λ k l. r.listed.present k (subst (λ n. k < n) (sym nodes) l))
    (phase_of c.args.phase) y (pots_are_duals p s slots r.state.problem r.stage r.listed c.args.order.now c.args.links.now r.tree (phase_of c.args.phase)) (at c.as_slice.result.now) costs_are c.in_err-potentials.field-0.0
    (c.in_err-potentials.ensures.passed y prices))

pub returns-clause-kept : goal.returns-clause-kept
returns-clause-kept g c =
    let p = c.args.p.now in
    let s = c.args.state.now.standing in
    let slots = c.args.slots.now in
    let r = c.requires in
    let nodes = rows_are p s r.stage in
    let by_row = c.args.self.now.by_row in
    let out = c.potentials.new.out in
    let len : length out ≡ by_row.len = search rules in
    let same = with_items_is by_row out len in
    let e : c.as_slice.result.now ≡ c.cost_all.new.out.items = c.as_slice.ensures.value in
    let costs_are = λ (i : ℕ) (l : i < p.nodes). ap (λ xs. at xs i) e ∙ c.cost_all.ensures.costs i (subst (λ n. i < n) (sym (r.listed.as_many ∙ nodes)) l) in
    let y = pot p s slots r.state.problem r.stage r.listed c.args.order.now c.args.links.now r.tree (phase_of c.args.phase) in
    let prices = are_prices p s slots r.state.problem r.stage r.listed c.args.order.now c.args.links.now r.tree (phase_of c.args.phase) (at c.as_slice.result.now) costs_are in
    record {
      one_each = ap length same ∙ (len ∙ (by_row.ok.0 ∙ r.kept.one_each));
      are = λ k. subst (λ xs. AreDualsOf p s (phase_of c.args.phase) (at xs)) (sym same)
          (duals_slotted p s slots r.state.problem r.stage r.listed c.args.order.now c.args.links.now r.tree (phase_of c.args.phase) out (c.in_ok-potentials.ensures.value y prices));
    }
