use Rattle.nf_tree.proofs.Slotted.{entries_by_path}
use Rattle.nf_tree.proofs.moving.entries_of.Goals as goal

pub returns-clause-entries : goal.returns-clause-entries
returns-clause-entries g c =
    entries_by_path c.args.p.now c.args.state.now.standing c.args.slots.now c.requires.state.problem c.requires.stage c.requires.held.listed c.args.col c.requires.present c.path_between.new.out c.tail_of-from.result c.head_of-to.result
    c.tail_of-from.ensures.value c.head_of-to.ensures.value c.path_between.ensures.gives
