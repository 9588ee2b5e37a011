use Rattle.std.proofs.Common.{◌≡◌, get_or, ap, ◌∙◌, arith}
use Rattle.std.proofs.lemmas.Grind.{get_or_default_zero}
use Rattle.nf_view.proofs.Grown.{met_most, ordered, is_rooted}
use Rattle.nf_view.proofs.Steps.{followed_next, all_met}
use Rattle.nf_view.proofs.walk.grow.Goals as goal

pub index-v-requires : goal.index-v-requires
index-v-requires c =
    let i = c.loop-done.invariant in
    let a = met_most c.args.n c.args.links.now _ _ _ _ c.loop-done.walk.met i.walk.grown in
    let r = i.walk.room.orders in
    let d = c.loop-done.walk.order.ok.0 in
    let t = c.loop-done-test.true in
    omega arith

pub follow-requires-clause-within : goal.follow-requires-clause-within
follow-requires-clause-within c =
    let i = c.loop-done.invariant in
    let a = met_most c.args.n c.args.links.now _ _ _ _ c.loop-done.walk.met i.walk.grown in
    let r = i.walk.room.orders in
    let t = c.loop-done-test.true in
    let v : c.index-v.result.now ≡ get_or c.loop-done.walk.order.items c.loop-done.done 0 = c.index-v.ensures ∙ get_or_default_zero c.loop-done.walk.order.items c.loop-done.done c.index-v.result.now (omega arith) in
    let s = (i.walk.grown.order_seat c.loop-done.done t).0 in
    omega arith

pub follow-requires-clause-met : goal.follow-requires-clause-met
follow-requires-clause-met c =
    let i = c.loop-done.invariant in
    let a = met_most c.args.n c.args.links.now _ _ _ _ c.loop-done.walk.met i.walk.grown in
    let r = i.walk.room.orders in
    let t = c.loop-done-test.true in
    let v : c.index-v.result.now ≡ get_or c.loop-done.walk.order.items c.loop-done.done 0 = c.index-v.ensures ∙ get_or_default_zero c.loop-done.walk.order.items c.loop-done.done c.index-v.result.now (omega arith) in
    let s = (i.walk.grown.order_seat c.loop-done.done t).1 in
    let e : get_or c.loop-done.walk.seat.items c.index-v.result.now 0 ≡ get_or c.loop-done.walk.seat.items (get_or c.loop-done.walk.order.items c.loop-done.done 0) 0 = ap (λ k. get_or c.loop-done.walk.seat.items k 0) v in
    omega arith

pub overflow_add-done : goal.overflow_add-done
overflow_add-done c =
    let i = c.loop-done.invariant in
    let a = met_most c.args.n c.args.links.now _ _ _ _ c.loop-done.walk.met i.walk.grown in
    let t = c.loop-done-test.true in
    let f = c.requires.few in
    omega arith

pub loop-done-smaller : goal.loop-done-smaller
loop-done-smaller c =
    let i = c.loop-done.invariant in
    let a = met_most c.args.n c.args.links.now _ _ _ _ c.loop-done.walk.met i.walk.grown in
    let t = c.loop-done-test.true in
    omega arith

pub loop-done-preserved : goal.loop-done-preserved
loop-done-preserved c =
    let i = c.loop-done.invariant in
    let t = c.loop-done-test.true in
    let a = met_most c.args.n c.args.links.now _ _ _ _ c.loop-done.walk.met i.walk.grown in
    let r = i.walk.room.orders in
    let e = c.follow.ensures in
    let v : c.index-v.result.now ≡ get_or c.loop-done.walk.order.items c.loop-done.done 0 = c.index-v.ensures ∙ get_or_default_zero c.loop-done.walk.order.items c.loop-done.done c.index-v.result.now (omega arith) in
    record {
      walk = e.walk;
      within = (let m = e.keeps.more in omega arith);
      followed = followed_next c.args.n c.args.links.now c.loop-done.walk c.follow.new.walk c.loop-done.done c.index-v.result.now c.requires.between i.walk e.keeps t v i.followed e.followed;
    }

pub returns-clause-rooted : goal.returns-clause-rooted
returns-clause-rooted c =
    let i = c.loop-done.invariant in
    is_rooted c.args.n c.args.links.now _ _ _ _ c.loop-done.walk.met i.walk.grown (all_met c.args.n c.args.links.now c.loop-done.walk c.loop-done.done c.requires.between c.requires.joined i.walk (let t = c.loop-done-test.false in omega arith) i.followed)

pub returns-clause-ordered : goal.returns-clause-ordered
returns-clause-ordered c =
    let i = c.loop-done.invariant in
    ordered c.args.n c.args.links.now _ _ _ _ c.loop-done.walk.met i.walk.grown (all_met c.args.n c.args.links.now c.loop-done.walk c.loop-done.done c.requires.between c.requires.joined i.walk (let t = c.loop-done-test.false in omega arith) i.followed)
