use Rattle.std.specs.Prelude.{slice_index_or}
use Rattle.std.proofs.Common.{◌≡◌, ◌<◌, length, sym, ap, ◌∙◌, subst, rules}
use Rattle.std.proofs.lemmas.List.{with_items_is}
use Rattle.nf_model.specs.Program.{at}
use Rattle.nf_tree.proofs.Slotted.{inverse_by_path, rows_are}
use Rattle.nf_tree.proofs.tree.Tree.root_weights.Goals as goal

pub returns-clause-weights : goal.returns-clause-weights
returns-clause-weights g c =
    let p = c.args.p.now in
    let b = c.args.self.now in
    let h = c.requires.numbers in
    let xs = c.climb-count.new.out in
    let len : length xs ≡ b.weights.len = search rules in
    let found = inverse_by_path p b.state.standing b.slots.items h.state.problem h.stage h.held.listed c.args.row c.requires.present.0 xs (rw (sym c.as_slice.ensures.value) c.climb-count.ensures.gives) in
    record {
      weights = found.weights;
      are_weights = found.are_weights;
      by_slot = λ k m. c.pick.ensures k m ∙ (ap (λ ys. at ys (slice_index_or c.args.chosen.now k 0)) (c.as_slice-4.ensures.value ∙ with_items_is b.weights xs len) ∙ found.by_slot (slice_index_or c.args.chosen.now k 0) (subst (λ n. slice_index_or c.args.chosen.now k 0 < n) (sym (rows_are p b.state.standing h.stage)) (c.requires.chosen.within k m)));
    }
