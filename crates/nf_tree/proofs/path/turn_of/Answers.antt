use Rattle.std.proofs.Common.{◌≡◌, suc, ◌-◌, sym, ap, ◌∙◌, arith}
use Rattle.nf_num.specs.Rational.{neg_ℚ}
use Rattle.nf_basis.specs.Kept.{number}
use Rattle.nf_tree.specs.Vertices.{tail_at}
use Rattle.nf_tree.proofs.Keys.{turn_away, turn_back}
use Rattle.nf_tree.proofs.path.turn_of.Goals as goal

pub returns-then-tail_of-node : goal.returns-then-tail_of-node
returns-then-tail_of-node c =
    let e : c.args.node ≡ suc (c.args.node - 1) = (let a = c.requires.node.0 in omega arith) in
    c.from_whole-one.ensures
    ∙ sym (turn_away _ _ (c.args.node - 1) (sym (c.tail_of.ensures.value ∙ ap (λ k. tail_at c.args.p.now c.args.state.now.standing (number c.args.p.now k)) c.column_in.ensures) ∙ (c.if-tail_of-node.true ∙ e)))

pub returns-else-tail_of-node : goal.returns-else-tail_of-node
returns-else-tail_of-node c =
    let e : c.args.node ≡ suc (c.args.node - 1) = (let a = c.requires.node.0 in omega arith) in
    c.neg.ensures ∙ (ap neg_ℚ c.from_whole-one.ensures
    ∙ sym (turn_back _ _ (c.args.node - 1) (λ q. c.if-tail_of-node.false (c.tail_of.ensures.value ∙ (ap (λ k. tail_at c.args.p.now c.args.state.now.standing (number c.args.p.now k)) c.column_in.ensures ∙ (q ∙ sym e))))))
