use Rattle.std.proofs.Common.{inl, inr, ◌+◌, ◌≤◌, get_or, ◌∙◌, arith}
use Rattle.nf_sums.proofs.Up.{handed_on}
use Rattle.nf_tree.proofs.Subtrees.{all_raised, first_after, first_raised, next_after, next_passed, next_raised, next_within}
use Rattle.nf_tree.proofs.below.raise_below.Goals as goal

pub loop-k-init : goal.loop-k-init
loop-k-init g c =
    let p = c.args.p.now in
    let s = c.args.state.now.standing in
    let r = c.requires in
    let after = first_after p s c.args.slots.now c.args.order.now c.args.links.now r.tree c.args.top r.node.0 r.node.1 c.args.number c.args.out.now c.in_ok-u.u c.in_ok-u.ensures.next in
    record {
      cost = (let x = c.get-level.ensures.cost in let y = c.raise.ensures.cost in omega arith);
      long = c.raise.ensures.long ∙ r.places;
      some = omega arith;
      node = next_within p s c.args.slots.now c.args.order.now c.args.links.now r.tree c.args.top r.node.0 r.node.1 c.args.number c.args.out.now 1 c.in_ok-u.u after;
      raised = rw c.in_ok-u.ensures.raised (first_raised p s c.args.slots.now c.args.order.now c.args.links.now r.tree c.args.top r.node.0 r.node.1 c.args.number c.args.out.now r.places);
      after = after;
    }

pub returns-then-get-level-clause-raised : goal.returns-then-get-level-clause-raised
returns-then-get-level-clause-raised g c =
    let r = c.requires in
    let i = c.loop-k.invariant in
    let low : get_or c.args.links.now.depth c.loop-k.u 0 ≤ get_or c.args.links.now.depth c.args.top 0 = (let x = c.get.ensures.value in let y = c.get-level.ensures.value in let z = c.if-get-level.true in omega arith) in
    all_raised c.args.p.now c.args.state.now.standing c.args.slots.now c.args.order.now c.args.links.now r.tree c.args.top r.node.0 r.node.1 c.args.number c.args.out.now c.loop-k.k c.loop-k.u c.loop-k.out i.some i.raised i.after (inl low)

pub returns-in_err-u-2-clause-passed : goal.returns-in_err-u-2-clause-passed
returns-in_err-u-2-clause-passed g c =
    let r = c.requires in
    let i = c.loop-k.invariant in
    let x = c.get.ensures.value in
    let y = c.get-level.ensures.value in
    let z = c.if-get-level.false in
    handed_on c.from_residual-in_err-u-2.result _ _ c.from_residual-in_err-u-2.ensures.1
    (next_passed c.args.p.now c.args.state.now.standing c.args.slots.now c.args.order.now c.args.links.now r.tree c.args.top r.node.0 r.node.1 c.args.number c.args.out.now c.loop-k.k c.loop-k.u c.loop-k.out i.long i.raised i.after (omega arith)
    _ c.in_err-u-2.ensures.passed.0 c.in_err-u-2.ensures.passed.1)

pub loop-k-preserved : goal.loop-k-preserved
loop-k-preserved g c =
    let p = c.args.p.now in
    let s = c.args.state.now.standing in
    let r = c.requires in
    let i = c.loop-k.invariant in
    let x = c.get.ensures.value in
    let y = c.get-level.ensures.value in
    let z = c.if-get-level.false in
    let after = next_after p s c.args.slots.now c.args.order.now c.args.links.now r.tree c.args.top r.node.0 r.node.1 c.args.number c.args.out.now c.loop-k.k c.loop-k.u c.loop-k.out i.long i.raised i.after (omega arith) c.in_ok-u-2.u c.in_ok-u-2.ensures.next in
    record {
      cost = (let a = i.cost in let b = c.get.ensures.cost in let d = c.raise-in-loop-k.ensures.cost in omega arith);
      long = c.raise-in-loop-k.ensures.long ∙ i.long;
      some = omega arith;
      node = next_within p s c.args.slots.now c.args.order.now c.args.links.now r.tree c.args.top r.node.0 r.node.1 c.args.number c.args.out.now (c.loop-k.k + 1) c.in_ok-u-2.u after;
      raised = rw c.in_ok-u-2.ensures.raised (next_raised p s c.args.slots.now c.args.order.now c.args.links.now r.tree c.args.top r.node.0 r.node.1 c.args.number c.args.out.now c.loop-k.k c.loop-k.u c.loop-k.out i.long i.raised i.after (omega arith));
      after = after;
    }

pub returns-clause-raised : goal.returns-clause-raised
returns-clause-raised g c =
    let r = c.requires in
    let i = c.loop-k.invariant in
    all_raised c.args.p.now c.args.state.now.standing c.args.slots.now c.args.order.now c.args.links.now r.tree c.args.top r.node.0 r.node.1 c.args.number c.args.out.now c.loop-k.k c.loop-k.u c.loop-k.out i.some i.raised i.after
    (inr (let t = c.loop-k-test.false in let l = r.places in omega arith))
