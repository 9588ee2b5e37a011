use Rattle.std.proofs.Common.{◌≡◌, suc, ◌+◌, ◌-◌, length, get_or, replicate, refl, ap, ap₂, ◌∙◌, subst, arith}
use Rattle.std.proofs.Math.ListN.{set, length-set}
use Rattle.std.proofs.lemmas.List.{get_or-replicate, length-replicate}
use Rattle.std.proofs.lemmas.Grind.{get_or_default_zero}
use Rattle.nf_view.specs.Sizes.{AreSummed}
use Rattle.nf_view.proofs.Adding.{added, both_fit}
use Rattle.nf_view.proofs.Siblings.{pred_within}
use Rattle.nf_view.proofs.Totals.{none_summed, sizes_of_summed}
use Rattle.nf_view.proofs.subtrees.subtree_sizes.Goals as goal

pub loop-k-init : goal.loop-k-init
loop-k-init c =
    let e : c.in_ok-size.size.items ≡ replicate (c.args.n + 1) 1 = c.in_ok-size.ensures.items_if_clones_equal (λ y q. q) in
    record {
      within = omega arith;
      room = ap length e ∙ (length-replicate (c.args.n + 1) 1 ∙ (let z : c.args.n + 1 ≡ suc c.args.n = omega arith in z));
      summed = none_summed c.args.n (λ v. get_or c.args.pred.now v 0) (λ i. get_or c.args.order.now i 0) (λ v. get_or c.in_ok-size.size.items v 0) c.requires.ordered
          (λ v h. ap (λ l. get_or l v 0) e ∙ get_or-replicate (c.args.n + 1) v 1 0 (omega arith));
    }

pub index-requires : goal.index-requires
index-requires c =
    let i = c.loop-k.invariant in
    let a = pred_within c.args.n (λ v. get_or c.args.pred.now v 0) (λ i. get_or c.args.order.now i 0) c.requires.ordered c.loop-k.k c.loop-k-test.true i.within in
    let b = i.room in
    let d = c.loop-k.size.ok.0 in
    omega arith

pub overflow_add-both : goal.overflow_add-both
overflow_add-both c =
    let i = c.loop-k.invariant in
    let a = pred_within c.args.n (λ v. get_or c.args.pred.now v 0) (λ i. get_or c.args.order.now i 0) c.requires.ordered c.loop-k.k c.loop-k-test.true i.within in
    let b = c.requires.ordered.within c.loop-k.k i.within in
    let r = i.room in
    let x : c.index.result.now ≡ get_or c.loop-k.size.items (get_or c.args.pred.now (get_or c.args.order.now c.loop-k.k 0) 0) 0 = c.index.ensures ∙ get_or_default_zero c.loop-k.size.items (get_or c.args.pred.now (get_or c.args.order.now c.loop-k.k 0) 0) c.index.result.now (omega arith) in
    let y : c.index-in-loop-k.result.now ≡ get_or c.loop-k.size.items (get_or c.args.order.now c.loop-k.k 0) 0 = c.index-in-loop-k.ensures ∙ get_or_default_zero c.loop-k.size.items (get_or c.args.order.now c.loop-k.k 0) c.index-in-loop-k.result.now (omega arith) in
    let f = both_fit c.args.n c.args.pred.now c.args.order.now c.loop-k.size.items c.loop-k.k c.requires.ordered i.room i.summed c.loop-k-test.true i.within (get_or c.args.pred.now (get_or c.args.order.now c.loop-k.k 0) 0) refl in
    omega arith

pub index_mut-requires : goal.index_mut-requires
index_mut-requires c =
    let i = c.loop-k.invariant in
    let a = pred_within c.args.n (λ v. get_or c.args.pred.now v 0) (λ i. get_or c.args.order.now i 0) c.requires.ordered c.loop-k.k c.loop-k-test.true i.within in
    let b = i.room in
    let d = c.loop-k.size.ok.0 in
    omega arith

pub loop-k-preserved : goal.loop-k-preserved
loop-k-preserved c =
    let i = c.loop-k.invariant in
    let a = pred_within c.args.n (λ v. get_or c.args.pred.now v 0) (λ i. get_or c.args.order.now i 0) c.requires.ordered c.loop-k.k c.loop-k-test.true i.within in
    let b = c.requires.ordered.within c.loop-k.k i.within in
    let r = i.room in
    let x : c.index.result.now ≡ get_or c.loop-k.size.items (get_or c.args.pred.now (get_or c.args.order.now c.loop-k.k 0) 0) 0 = c.index.ensures ∙ get_or_default_zero c.loop-k.size.items (get_or c.args.pred.now (get_or c.args.order.now c.loop-k.k 0) 0) c.index.result.now (omega arith) in
    let y : c.index-in-loop-k.result.now ≡ get_or c.loop-k.size.items (get_or c.args.order.now c.loop-k.k 0) 0 = c.index-in-loop-k.ensures ∙ get_or_default_zero c.loop-k.size.items (get_or c.args.order.now c.loop-k.k 0) c.index-in-loop-k.result.now (omega arith) in
    record {
      within = (let w = i.within in omega arith);
      room = length-set _ _ _ ∙ i.room;
      summed = added c.args.n c.args.pred.now c.args.order.now c.loop-k.size.items c.loop-k.k c.requires.ordered i.room i.summed c.loop-k-test.true i.within (get_or c.args.pred.now (get_or c.args.order.now c.loop-k.k 0) 0) refl _
          (ap₂ (λ x y. set c.loop-k.size.items (get_or c.args.pred.now (get_or c.args.order.now c.loop-k.k 0) 0) (x + y)) x y) (c.loop-k.k - 1) (let t = c.loop-k-test.true in omega arith);
    }

pub returns-clause-sizes : goal.returns-clause-sizes
returns-clause-sizes c =
    let i = c.loop-k.invariant in
    let z : c.loop-k.k ≡ 0 = (let a = c.loop-k-test.false in omega arith) in
    sizes_of_summed c.args.n (λ v. get_or c.args.pred.now v 0) (λ i. get_or c.args.order.now i 0) c.requires.ordered (λ v. get_or c.loop-k.size.items v 0)
    (subst (λ k. AreSummed c.args.n (λ v. get_or c.args.pred.now v 0) (λ i. get_or c.args.order.now i 0) (λ v. get_or c.loop-k.size.items v 0) k) z i.summed)
