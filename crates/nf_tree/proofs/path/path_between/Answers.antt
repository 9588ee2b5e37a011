use Rattle.std.proofs.Common.{◌+◌, ◌-◌, ◌<◌, get_or, ap, arith}
use Rattle.nf_tree.proofs.Vertices.{is_network, slots_inside}
use Rattle.nf_tree.proofs.Depths.{deeper, depth_most}
use Rattle.nf_tree.proofs.Priced.{node_is}
use Rattle.nf_tree.proofs.Paths.{begins, arrives, from_node, to_node, goes_up, goes_down}
use Rattle.nf_tree.proofs.path.path_between.Goals as goal

pub loop-u-init : goal.loop-u-init
loop-u-init g c =
    let p = c.args.p.now in
    let s = c.args.state.now.standing in
    let ok = c.requires.state.problem in
    record {
      cost = omega arith;
      midway = begins p s c.args.slots.now c.args.order.now c.args.links.now (is_network p s ok c.requires.stage) c.requires.tree (slots_inside p s ok c.args.slots.now c.requires.present)
          c.args.from c.args.to c.clear.new.out (let a = c.clear.ensures.long in let b = c.requires.places in omega arith) c.clear.ensures.zeros c.requires.from c.requires.to;
    }

pub pass-u-requires-clause-node : goal.pass-u-requires-clause-node
pass-u-requires-clause-node g c =
    let p = c.args.p.now in
    let s = c.args.state.now.standing in
    let ok = c.requires.state.problem in
    let i = c.loop-u.invariant in
    let a = c.get-high.ensures.value in
    let b = c.get-other.ensures.value in (
      from_node p s c.args.slots.now c.args.order.now c.args.links.now (is_network p s ok c.requires.stage) c.requires.tree (slots_inside p s ok c.args.slots.now c.requires.present)
          c.args.from c.args.to c.loop-u.u c.loop-u.v c.loop-u.out i.midway c.loop-u-test.true (let d = c.if-high-other.true in omega arith),
      i.midway.from_within,
    )

pub loop-u-smaller-then-high-other : goal.loop-u-smaller-then-high-other
loop-u-smaller-then-high-other g c =
    let i0 = c.loop-u.invariant in
    let n0 = from_node c.args.p.now c.args.state.now.standing c.args.slots.now c.args.order.now c.args.links.now (is_network c.args.p.now c.args.state.now.standing c.requires.state.problem c.requires.stage) c.requires.tree (slots_inside c.args.p.now c.args.state.now.standing c.requires.state.problem c.args.slots.now c.requires.present)
    c.args.from c.args.to c.loop-u.u c.loop-u.v c.loop-u.out i0.midway c.loop-u-test.true (let x = c.get-high.ensures.value in let y = c.get-other.ensures.value in let z = c.if-high-other.true in omega arith) in
    let d = deeper c.args.p.now c.args.state.now.standing c.args.slots.now c.args.order.now c.args.links.now c.requires.tree c.loop-u.u n0 i0.midway.from_within in
    let e = ap (λ z. get_or c.args.links.now.depth z 0) c.pass-u.ensures.before in
    let h : get_or c.args.links.now.depth c.pass-u.result 0 + get_or c.args.links.now.depth c.loop-u.v 0 < get_or c.args.links.now.depth c.loop-u.u 0 + get_or c.args.links.now.depth c.loop-u.v 0 = omega arith in
    h

pub loop-u-preserved-then-high-other : goal.loop-u-preserved-then-high-other
loop-u-preserved-then-high-other g c =
    let p = c.args.p.now in
    let s = c.args.state.now.standing in
    let ok = c.requires.state.problem in
    let i = c.loop-u.invariant in
    let i0 = c.loop-u.invariant in
    let n0 = from_node c.args.p.now c.args.state.now.standing c.args.slots.now c.args.order.now c.args.links.now (is_network c.args.p.now c.args.state.now.standing c.requires.state.problem c.requires.stage) c.requires.tree (slots_inside c.args.p.now c.args.state.now.standing c.requires.state.problem c.args.slots.now c.requires.present)
    c.args.from c.args.to c.loop-u.u c.loop-u.v c.loop-u.out i0.midway c.loop-u-test.true (let x = c.get-high.ensures.value in let y = c.get-other.ensures.value in let z = c.if-high-other.true in omega arith) in
    let a = c.get-high.ensures in
    let b = c.get-other.ensures in
    let d = deeper p s c.args.slots.now c.args.order.now c.args.links.now c.requires.tree c.loop-u.u n0 i0.midway.from_within in
    let e = ap (λ z. get_or c.args.links.now.depth z 0) c.pass-u.ensures.before in
    record {
      cost = (let x = i.cost in let y = a.cost in let z = b.cost in let w = c.pass-u.ensures.cost in omega arith);
      midway = rw (c.pass-u.ensures.before, c.pass-u.ensures.out)
          (goes_up p s c.args.slots.now c.args.order.now c.args.links.now (is_network p s ok c.requires.stage) c.requires.tree (slots_inside p s ok c.args.slots.now c.requires.present)
          c.args.from c.args.to c.loop-u.u c.loop-u.v c.loop-u.out i.midway c.loop-u-test.true (let x = a.value in let y = b.value in let z = c.if-high-other.true in omega arith) (c.loop-u.u - 1) (node_is c.loop-u.u n0));
    }

pub loop-u-smaller : goal.loop-u-smaller
loop-u-smaller g c =
    let p = c.args.p.now in
    let s = c.args.state.now.standing in
    let ok = c.requires.state.problem in
    let i = c.loop-u.invariant in
    let a = c.get-high.ensures.value in
    let b = c.get-other.ensures.value in
    let n = to_node p s c.args.slots.now c.args.order.now c.args.links.now (is_network p s ok c.requires.stage) c.requires.tree (slots_inside p s ok c.args.slots.now c.requires.present)
    c.args.from c.args.to c.loop-u.u c.loop-u.v c.loop-u.out i.midway c.loop-u-test.true (let d = c.if-high-other.false in omega arith) in
    let d = deeper p s c.args.slots.now c.args.order.now c.args.links.now c.requires.tree c.loop-u.v n i.midway.to_within in
    let e = ap (λ z. get_or c.args.links.now.depth z 0) c.pass-v.ensures.before in
    let h : get_or c.args.links.now.depth c.loop-u.u 0 + get_or c.args.links.now.depth c.pass-v.result 0 < get_or c.args.links.now.depth c.loop-u.u 0 + get_or c.args.links.now.depth c.loop-u.v 0 = omega arith in
    h

pub loop-u-preserved : goal.loop-u-preserved
loop-u-preserved g c =
    let p = c.args.p.now in
    let s = c.args.state.now.standing in
    let ok = c.requires.state.problem in
    let i = c.loop-u.invariant in
    let a = c.get-high.ensures in
    let b = c.get-other.ensures in
    let low : get_or c.args.links.now.depth c.loop-u.u 0 < get_or c.args.links.now.depth c.loop-u.v 0 = (let x = a.value in let y = b.value in let z = c.if-high-other.false in omega arith) in
    let n = to_node p s c.args.slots.now c.args.order.now c.args.links.now (is_network p s ok c.requires.stage) c.requires.tree (slots_inside p s ok c.args.slots.now c.requires.present)
    c.args.from c.args.to c.loop-u.u c.loop-u.v c.loop-u.out i.midway c.loop-u-test.true low in
    let d = deeper p s c.args.slots.now c.args.order.now c.args.links.now c.requires.tree c.loop-u.v n i.midway.to_within in
    let e = ap (λ z. get_or c.args.links.now.depth z 0) c.pass-v.ensures.before in
    record {
      cost = (let x = i.cost in let y = a.cost in let z = b.cost in let w = c.pass-v.ensures.cost in omega arith);
      midway = rw (c.pass-v.ensures.before, c.pass-v.ensures.out)
          (goes_down p s c.args.slots.now c.args.order.now c.args.links.now (is_network p s ok c.requires.stage) c.requires.tree (slots_inside p s ok c.args.slots.now c.requires.present)
          c.args.from c.args.to c.loop-u.u c.loop-u.v c.loop-u.out i.midway c.loop-u-test.true low (c.loop-u.v - 1) (node_is c.loop-u.v n));
    }

pub returns-clause-gives : goal.returns-clause-gives
returns-clause-gives g c =
    let p = c.args.p.now in
    let s = c.args.state.now.standing in
    let ok = c.requires.state.problem in
    arrives p s c.args.slots.now c.args.order.now c.args.links.now (is_network p s ok c.requires.stage) c.requires.tree (slots_inside p s ok c.args.slots.now c.requires.present)
    c.args.from c.args.to c.loop-u.u c.loop-u.v c.loop-u.out c.loop-u.invariant.midway c.loop-u-test.false

pub returns-clause-cost : goal.returns-clause-cost
returns-clause-cost g c =
    let a = depth_most c.args.p.now c.args.state.now.standing c.args.slots.now c.args.order.now c.args.links.now c.requires.tree c.args.from c.requires.from in
    let b = depth_most c.args.p.now c.args.state.now.standing c.args.slots.now c.args.order.now c.args.links.now c.requires.tree c.args.to c.requires.to in
    let d = c.loop-u.invariant.cost in
    omega arith
