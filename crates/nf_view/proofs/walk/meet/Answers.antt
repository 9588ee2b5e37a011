use Rattle.std.proofs.Common.{refl, arith}
use Rattle.nf_view.specs.Keys.{link_at}
use Rattle.nf_view.proofs.Steps.{between_at, room_to_meet, meet_step}
use Rattle.nf_view.proofs.walk.meet.Goals as goal

pub overflow_add-met : goal.overflow_add-met
overflow_add-met c =
    let b = between_at c.args.n c.args.links.now c.args.q c.requires.link c.requires.between in
    let a = room_to_meet c.args.n c.args.links.now c.args.walk.now c.args.walk.now c.requires.walk (link_at c.args.links.now c.args.q).to b.ends c.requires.unmet in
    let f = c.requires.walk.room.few in
    omega arith

pub index_mut-requires-2 : goal.index_mut-requires-2
index_mut-requires-2 c =
    let b = between_at c.args.n c.args.links.now c.args.q c.requires.link c.requires.between in
    let a = room_to_meet c.args.n c.args.links.now c.args.walk.now c.args.walk.now c.requires.walk (link_at c.args.links.now c.args.q).to b.ends c.requires.unmet in
    let r = c.requires.walk.room.orders in
    let d = c.args.walk.now.order.ok.0 in
    omega arith

pub overflow_add-walk : goal.overflow_add-walk
overflow_add-walk c =
    let b = between_at c.args.n c.args.links.now c.args.q c.requires.link c.requires.between in
    let a = room_to_meet c.args.n c.args.links.now c.args.walk.now c.args.walk.now c.requires.walk (link_at c.args.links.now c.args.q).to b.ends c.requires.unmet in
    let f = c.requires.walk.room.few in
    omega arith

pub returns-clause-walk : goal.returns-clause-walk
returns-clause-walk c = (meet_step c.args.n c.args.links.now c.args.walk.now _ c.requires.walk c.args.q c.requires.link c.requires.between c.requires.begins c.requires.unmet refl refl refl refl refl).0
