use Rattle.std.proofs.Common.{◌≡◌, ◌<◌, ℕ, length, sym, ap, ◌∙◌, subst, rules, arith}
use Rattle.std.proofs.lemmas.List.{with_items_is}
use Rattle.nf_model.specs.Program.{at}
use Rattle.nf_sums.proofs.Up.{handed_on}
use Rattle.nf_simplex.specs.Standing.{rows_of}
use Rattle.nf_basis.specs.AtBounds.{rests_cost}
use Rattle.nf_basis.specs.Dense.{HasBasics}
use Rattle.nf_tree.specs.Rests.{GiveAt}
use Rattle.nf_tree.proofs.Slotted.{rows_are}
use Rattle.nf_tree.proofs.Settled.{bounds_arise, gathering_arises, slots_settled}
use Rattle.nf_tree.proofs.tree.Tree.settle.Goals as goal

pub returns-in_err-rests_at_bounds-clause-passed : goal.returns-in_err-rests_at_bounds-clause-passed
returns-in_err-rests_at_bounds-clause-passed g c =
    let b = c.args.self.now in
    let h = c.requires.planted in
    handed_on c.from_residual.result _ _ c.from_residual.ensures.1
    (bounds_arise c.args.p.now b.state.standing b.slots.items h.state.problem h.stage h.state.fits h.basis h.listed _ c.in_err-rests_at_bounds.ensures.passed)

pub returns-in_err-tree_solve-clause-passed : goal.returns-in_err-tree_solve-clause-passed
returns-in_err-tree_solve-clause-passed g c =
    let p = c.args.p.now in
    let b = c.args.self.now in
    let s = b.state.standing in
    let h = c.requires.planted in
    let are = λ (i : ℕ) (l : i < rows_of p s). ap (λ xs. at xs i) c.as_mut_slice.ensures.value ∙ c.in_ok-rests_at_bounds.ensures.value i l in
    handed_on c.from_residual-in_err-tree_solve.result _ _ c.from_residual-in_err-tree_solve.ensures.1
    (gathering_arises p s b.slots.items h.state.problem h.stage h.state.fits h.basis h.listed b.span.grove.order.items b.span.grove.links h.tree
    (at c.as_mut_slice.result.now) are _ c.in_err-tree_solve.ensures.passed)

pub returns-clause-numbers : goal.returns-clause-numbers
returns-clause-numbers g c =
    let p = c.args.p.now in
    let b = c.args.self.now in
    let s = b.state.standing in
    let h = c.requires.planted in
    let xs = c.tree_solve.new.right in
    let are = λ (i : ℕ) (l : i < rows_of p s). ap (λ xs. at xs i) c.as_mut_slice.ensures.value ∙ c.in_ok-rests_at_bounds.ensures.value i l in
    let len : length c.tree_solve.new.right ≡ c.rests_at_bounds.new.out.len = search rules in
    let long : length c.tree_solve.new.right ≡ p.nodes = c.tree_solve.ensures.long ∙ (ap length c.as_mut_slice.ensures.value ∙ (c.rests_at_bounds.ensures.long ∙ h.values)) in
    let gives = subst (λ slots. GiveAt p s slots (at c.as_mut_slice.result.now) c.tree_solve.new.right) c.as_slice.ensures.value c.in_ok-tree_solve.ensures.solved in
    record {
      state = h.state;
      stage = h.stage;
      held = subst (HasBasics p s b.slots.items) (sym (with_items_is c.rests_at_bounds.new.out xs len)) (slots_settled p s b.slots.items h.state.problem h.stage h.state.fits h.basis h.listed c.as_mut_slice.result.now are xs long gives);
      tree = h.tree;
      ends = h.ends;
      one = h.one;
      two = h.two;
      room = record { span = h.room.span; keys = h.room.keys; work = h.room.work; weights = h.room.weights; trail = h.room.trail };
    }

pub returns-in_err-rests_at_bounds-clause-cost : goal.returns-in_err-rests_at_bounds-clause-cost
returns-in_err-rests_at_bounds-clause-cost g c =
    let x = c.rests_at_bounds.ensures.cost in
    let y = ap (rests_cost c.args.p.now) (rows_are c.args.p.now c.args.self.now.state.standing c.requires.planted.stage) in
    omega arith

pub returns-in_err-tree_solve-clause-cost : goal.returns-in_err-tree_solve-clause-cost
returns-in_err-tree_solve-clause-cost g c =
    let x = c.rests_at_bounds.ensures.cost in
    let y = ap (rests_cost c.args.p.now) (rows_are c.args.p.now c.args.self.now.state.standing c.requires.planted.stage) in
    let z = c.tree_solve.ensures.cost in
    omega arith

pub returns-clause-cost : goal.returns-clause-cost
returns-clause-cost g c =
    let x = c.rests_at_bounds.ensures.cost in
    let y = ap (rests_cost c.args.p.now) (rows_are c.args.p.now c.args.self.now.state.standing c.requires.planted.stage) in
    let z = c.tree_solve.ensures.cost in
    omega arith
