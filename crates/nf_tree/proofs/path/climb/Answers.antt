use Rattle.std.proofs.Common.{◌≡◌, suc, ◌+◌, ◌-◌, ◌<◌, length, get_or, ap, ◌∙◌, arith}
use Rattle.std.proofs.lemmas.List.{length-set}
use Rattle.nf_tree.proofs.Vertices.{is_network, slots_inside}
use Rattle.nf_tree.proofs.Depths.{deeper, depth_most}
use Rattle.nf_tree.proofs.Priced.{node_is}
use Rattle.nf_tree.proofs.Paths.{arrives, begins, goes_up}
use Rattle.nf_tree.proofs.Trails.{put, put_slot, some_node}
use Rattle.nf_tree.proofs.path.climb.Goals as goal

pub loop-u-init : goal.loop-u-init
loop-u-init g c =
    let p = c.args.p.now in
    let s = c.args.state.now.standing in
    let ok = c.requires.state.problem in
    record {
      cost = omega arith;
      count = omega arith;
      midway = begins p s c.args.slots.now c.args.order.now c.args.links.now (is_network p s ok c.requires.stage) c.requires.tree (slots_inside p s ok c.args.slots.now c.requires.present)
          c.args.from 0 c.args.out.now c.requires.zeros.long c.requires.zeros.zeros c.requires.from (omega arith);
      long = c.requires.room;
      short = omega arith;
      within = λ k b. absurd (omega arith);
      listed = λ w ne. absurd (ne (c.requires.zeros.zeros w));
    }

pub bounds-trail-count : goal.bounds-trail-count
bounds-trail-count g c =
    let i = c.loop-u.invariant in
    let d = deeper c.args.p.now c.args.state.now.standing c.args.slots.now c.args.order.now c.args.links.now c.requires.tree c.loop-u.u (some_node c.loop-u.u c.loop-u-test.true) i.midway.from_within in
    let m = depth_most c.args.p.now c.args.state.now.standing c.args.slots.now c.args.order.now c.args.links.now c.requires.tree c.args.from c.requires.from in
    let a = i.count in
    let b = i.long in
    omega arith

pub loop-u-smaller : goal.loop-u-smaller
loop-u-smaller g c =
    let i = c.loop-u.invariant in
    let d = deeper c.args.p.now c.args.state.now.standing c.args.slots.now c.args.order.now c.args.links.now c.requires.tree c.loop-u.u (some_node c.loop-u.u c.loop-u-test.true) i.midway.from_within in
    let e = ap (λ z. get_or c.args.links.now.depth z 0) c.rise-u.ensures.before in
    let h : get_or c.args.links.now.depth c.rise-u.result 0 < get_or c.args.links.now.depth c.loop-u.u 0 = omega arith in
    h

pub loop-u-preserved : goal.loop-u-preserved
loop-u-preserved g c =
    let p = c.args.p.now in
    let s = c.args.state.now.standing in
    let ok = c.requires.state.problem in
    let i = c.loop-u.invariant in
    let n0 = some_node c.loop-u.u c.loop-u-test.true in
    let d = deeper p s c.args.slots.now c.args.order.now c.args.links.now c.requires.tree c.loop-u.u n0 i.midway.from_within in
    let m = depth_most p s c.args.slots.now c.args.order.now c.args.links.now c.requires.tree c.args.from c.requires.from in
    let e = ap (λ z. get_or c.args.links.now.depth z 0) c.rise-u.ensures.before in
    let root = c.requires.tree.rooted.root in
    let here : c.loop-u.u - 1 < p.nodes = (let x = i.midway.from_within in omega arith) in
    let room : c.loop-u.count < length c.loop-u.trail = (let x = i.count in let y = i.long in omega arith) in
    let next : c.loop-u.count + 1 ≡ suc c.loop-u.count = omega arith in
    record {
      cost = (let x = i.cost in let w = c.rise-u.ensures.cost in omega arith);
      count = (let x = i.count in omega arith);
      midway = rw (c.rise-u.ensures.before, c.rise-u.ensures.out)
          (goes_up p s c.args.slots.now c.args.order.now c.args.links.now (is_network p s ok c.requires.stage) c.requires.tree (slots_inside p s ok c.args.slots.now c.requires.present)
          c.args.from 0 c.loop-u.u 0 c.loop-u.out i.midway c.loop-u-test.true (omega arith) (c.loop-u.u - 1) (node_is c.loop-u.u n0));
      long = length-set c.loop-u.trail c.loop-u.count (c.loop-u.u - 1) ∙ i.long;
      short = (let x = i.count in omega arith);
      within = rw next (put_slot p.nodes c.loop-u.trail c.loop-u.count (c.loop-u.u - 1) room here i.within);
      listed = rw (next, c.rise-u.ensures.out) (put c.loop-u.trail c.loop-u.count c.loop-u.out (c.loop-u.u - 1) _ room i.listed);
    }

pub returns-clause-gives : goal.returns-clause-gives
returns-clause-gives g c =
    let p = c.args.p.now in
    let s = c.args.state.now.standing in
    let ok = c.requires.state.problem in
    arrives p s c.args.slots.now c.args.order.now c.args.links.now (is_network p s ok c.requires.stage) c.requires.tree (slots_inside p s ok c.args.slots.now c.requires.present)
    c.args.from 0 c.loop-u.u 0 c.loop-u.out c.loop-u.invariant.midway c.loop-u-test.false

pub returns-clause-within : goal.returns-clause-within
returns-clause-within g c =
    let m = depth_most c.args.p.now c.args.state.now.standing c.args.slots.now c.args.order.now c.args.links.now c.requires.tree c.args.from c.requires.from in
    let a = c.loop-u.invariant.count in
    omega arith

pub returns-clause-cost : goal.returns-clause-cost
returns-clause-cost g c =
    let m = depth_most c.args.p.now c.args.state.now.standing c.args.slots.now c.args.order.now c.args.links.now c.requires.tree c.args.from c.requires.from in
    let a = c.loop-u.invariant.cost in
    omega arith
