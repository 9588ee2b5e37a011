use Rattle.std.proofs.Common.{sym, ◌∙◌, subst, arith}
use Rattle.std.specs.List.{All}
use Rattle.std.proofs.lemmas.List.Elements.{All-push, All-nil}
use Rattle.nf_view.specs.Parts.{IsBetween}
use Rattle.nf_view.proofs.LinkFacts.{no_arcs, arc_pushed, arc_skipped, arc_within}
use Rattle.nf_view.proofs.links.list_arcs.Goals as goal
use Rattle.nf_view.proofs.links.list_arcs.Goals.{then-basic+in_ok-push, else-basic}

pub loop-k-init : goal.loop-k-init
loop-k-init c = record { same = c.new-links.ensures.items ∙ no_arcs c.args.p.now c.args.state.now.standing; between = subst (All (IsBetween c.args.p.now.nodes)) (sym c.new-links.ensures.items) (All-nil (IsBetween c.args.p.now.nodes)) }

pub loop-k-preserved : goal.loop-k-preserved
loop-k-preserved c =
    let p = c.args.p.now in
    let s = c.args.state.now.standing in
    let i = c.loop-k.invariant in
    elim c.if-basic.branch [
      | then-basic+in_ok-push w ↦
          rw (w.links-is, w.in_ok-push.ensures.items)
          record {
            same = arc_pushed p s c.loop-k.k w.tail.result w.head.result c.loop-k.links.items i.same (sym c.basic.ensures ∙ w.if-basic.true) w.tail.ensures w.head.ensures;
            between = All-push (IsBetween p.nodes) c.loop-k.links.items _ i.between (arc_within p s c.loop-k.k c.requires.state.problem (let a = c.loop-k-test.true in let b = c.arcs-k-end.ensures.number in omega arith) w.tail.result w.head.result w.tail.ensures w.head.ensures);
          }
      | else-basic w ↦
          rw w.links-is
          record { same = arc_skipped p s c.loop-k.k c.loop-k.links.items i.same (sym c.basic.ensures ∙ w.if-basic.false); between = i.between }
    ]
