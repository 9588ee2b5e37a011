use Rattle.std.proofs.Common.{get_or, ◌∙◌, arith}
use Rattle.std.proofs.lemmas.Grind.{get_or_default_zero}
use Rattle.nf_view.proofs.Siblings.{children_more}
use Rattle.nf_view.proofs.subtrees.link_children.Goals as goal

pub loop-w-preserved : goal.loop-w-preserved
loop-w-preserved c =
    let i = c.loop-w.invariant in
    let t = c.loop-w-test.true in
    let inside = c.requires.within c.loop-w.w t i.within in
    record {
      within = (let a = i.within in omega arith);
      children = children_more c.args.n (λ v. get_or c.args.pred.now v 0) c.loop-w.first.items c.loop-w.sibling.items c.loop-w.w c.index-later.result.now t i.within inside i.children
          (c.index-later.ensures ∙ get_or_default_zero c.loop-w.first.items (get_or c.args.pred.now c.loop-w.w 0) c.index-later.result.now (let a = i.children.firsts in omega arith));
    }
