use Rattle.std.proofs.Common.{◌-◌, set, ap, ◌∙◌, arith}
use Rattle.nf_basis.specs.Numbers.{slot_number}
use Rattle.nf_tree.specs.Vertices.{tail_at}
use Rattle.nf_tree.proofs.Trails.{turn_read}
use Rattle.nf_tree.proofs.path.rise.Goals as goal

pub returns-clause-out : goal.returns-clause-out
returns-clause-out g c =
    let a = c.requires.node.0 in
    let b = c.requires.node.1 in
    ap (λ x. set c.args.out.now (c.args.node - 1) x)
    (c.turn_by.ensures ∙ turn_read (tail_at c.args.p.now c.args.state.now.standing) (slot_number c.args.p.now c.args.slots.now) (c.args.node - 1) _ c.args.node (c.requires.tails (c.args.node - 1) (omega arith)) (omega arith))
