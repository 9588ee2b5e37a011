use Rattle.std.proofs.Common.{◌==◌, get_or, if◌then◌else◌, ap, ap₂, ◌∙◌, subst, arith}
use Rattle.std.proofs.Math.ListN.{length-set}
use Rattle.std.proofs.lemmas.Grind.{get_or_default_zero}
use Rattle.nf_view.specs.Order.{IsThreaded}
use Rattle.nf_view.proofs.Siblings.{pred_within, preorder_of, threaded_lists}
use Rattle.nf_view.proofs.subtrees.thread.Goals as goal

pub index-requires-in-loop-k-2 : goal.index-requires-in-loop-k-2
index-requires-in-loop-k-2 c =
    let i = c.loop-k.invariant in
    let a = pred_within c.args.n (λ v. get_or c.args.pred.now v 0) (λ i. get_or c.args.order.now i 0) c.requires.ordered c.loop-k.k i.some (let t = c.loop-k-test.true in omega arith) in
    let b = i.afters in
    let d = c.loop-k.after.ok.0 in
    omega arith

pub loop-k-preserved : goal.loop-k-preserved
loop-k-preserved c =
    let i = c.loop-k.invariant in
    let t = c.loop-k-test.true in
    let v = c.requires.ordered.within c.loop-k.k (omega arith) in
    let u = pred_within c.args.n (λ v. get_or c.args.pred.now v 0) (λ i. get_or c.args.order.now i 0) c.requires.ordered c.loop-k.k i.some (omega arith) in
    record {
      some = omega arith;
      within = omega arith;
      afters = length-set _ _ _ ∙ i.afters;
      nexts = length-set _ _ _ ∙ i.nexts;
      threaded = threaded_lists c.args.n (λ v. get_or c.args.pred.now v 0) c.args.children.now.first.items c.args.children.now.sibling.items c.loop-k.after.items c.loop-k.next.items (λ i. get_or c.args.order.now i 0)
          c.requires.ordered i.afters i.nexts c.loop-k.k i.some (omega arith) i.threaded c.or_else-follows.result c.or_else.result
          (c.or_else-follows.ensures
          ∙ ap₂ (λ a b. if a == 0 then b else a)
          (c.index-in-loop-k.ensures ∙ get_or_default_zero c.args.children.now.sibling.items (get_or c.args.order.now c.loop-k.k 0) c.index-in-loop-k.result.now (let z = c.requires.children.siblings in omega arith))
          (c.index-in-loop-k-2.ensures ∙ get_or_default_zero c.loop-k.after.items (get_or c.args.pred.now (get_or c.args.order.now c.loop-k.k 0) 0) c.index-in-loop-k-2.result.now (let z = i.afters in omega arith)))
          (c.or_else.ensures
          ∙ ap (λ a. if a == 0 then c.or_else-follows.result else a)
          (c.index-in-loop-k-3.ensures ∙ get_or_default_zero c.args.children.now.first.items (get_or c.args.order.now c.loop-k.k 0) c.index-in-loop-k-3.result.now (let z = c.requires.children.firsts in omega arith)));
    }

pub returns-clause-preorder : goal.returns-clause-preorder
returns-clause-preorder c =
    let i = c.loop-k.invariant in
    preorder_of c.args.n (λ v. get_or c.args.pred.now v 0) (λ v. get_or c.args.children.now.first.items v 0) (λ v. get_or c.args.children.now.sibling.items v 0) (λ v. get_or c.loop-k.after.items v 0) (λ v. get_or c.loop-k.next.items v 0)
    c.requires.children.linked
    (λ v h.
    (let (k, l, e) = c.requires.ordered.every v h in
    subst (λ x. IsThreaded (λ v. get_or c.args.pred.now v 0) (λ v. get_or c.args.children.now.first.items v 0) (λ v. get_or c.args.children.now.sibling.items v 0) (λ v. get_or c.loop-k.after.items v 0) (λ v. get_or c.loop-k.next.items v 0) x) e
    (i.threaded k (let a = i.within in let t = c.loop-k-test.false in omega arith))))
