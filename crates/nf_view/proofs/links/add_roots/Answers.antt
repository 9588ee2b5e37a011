use Rattle.std.proofs.Common.{◌++◌, sym, ap, ◌∙◌, arith}
use Rattle.std.proofs.lemmas.List.{append-nil}
use Rattle.std.proofs.lemmas.List.Elements.{All-push}
use Rattle.nf_view.specs.Parts.{IsBetween}
use Rattle.nf_view.proofs.LinkFacts.{no_roots, root_pushed, root_skipped}
use Rattle.nf_view.proofs.links.add_roots.Goals as goal
use Rattle.nf_view.proofs.links.add_roots.Goals.{then-basic+in_ok-push, else-basic}

pub loop-i-init : goal.loop-i-init
loop-i-init c = record {
  same = sym (append-nil c.args.links.now.items) ∙ ap (λ ys. c.args.links.now.items ++ ys) (no_roots c.args.p.now c.args.state.now.standing);
  between = c.requires.between;
}

pub loop-i-preserved : goal.loop-i-preserved
loop-i-preserved c =
    let p = c.args.p.now in
    let s = c.args.state.now.standing in
    let i = c.loop-i.invariant in
    elim c.if-basic.branch [
      | then-basic+in_ok-push w ↦
          rw (w.links-is, w.in_ok-push.ensures.items)
          record {
            same = root_pushed p s c.loop-i.i c.args.links.now.items c.loop-i.links.items i.same (sym c.basic.ensures ∙ w.if-basic.true);
            between = All-push (IsBetween p.nodes) c.loop-i.links.items _ i.between (record { begins = omega arith; ends = (let a = c.loop-i-test.true in let b = c.nodes-i-end.ensures.number in omega arith) });
          }
      | else-basic w ↦
          rw w.links-is
          record { same = root_skipped p s c.loop-i.i c.args.links.now.items c.loop-i.links.items i.same (sym c.basic.ensures ∙ w.if-basic.false); between = i.between }
    ]
