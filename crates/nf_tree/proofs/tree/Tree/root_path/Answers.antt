use Rattle.std.proofs.Common.{sym}
use Rattle.nf_tree.proofs.Slotted.{inverse_by_path}
use Rattle.nf_tree.proofs.tree.Tree.root_path.Goals as goal

pub returns-clause-weights : goal.returns-clause-weights
returns-clause-weights g c =
    let b = c.args.self.now in
    let h = c.requires.numbers in
    inverse_by_path c.args.p.now b.state.standing b.slots.items h.state.problem h.stage h.held.listed c.args.row c.requires.present.0 c.path_between.new.out (rw (sym c.as_slice.ensures.value) c.path_between.ensures.gives)
