use Rattle.std.proofs.Common.{◌-◌, ◌<◌, length, get_or, ◌∙◌, subst, arith}
use Rattle.std.proofs.lemmas.Grind.{get_or_default_zero}
use Rattle.nf_view.specs.Keys.{link_at}
use Rattle.nf_view.specs.Walk.{IsLast, begins}
use Rattle.nf_view.proofs.Steps.{keeps_same, keeps_more, followed_more, between_at}
use Rattle.nf_view.proofs.walk.follow.Goals as goal
use Rattle.nf_view.proofs.walk.follow.Goals.{then-index-eq0, else-index-eq0}

pub loop-cursor-preserved : goal.loop-cursor-preserved
loop-cursor-preserved c =
    let i = c.loop-cursor.invariant in
    let pos = c.loop-cursor-test.true in
    let q = c.loop-cursor.cursor - 1 in
    let old = c.loop-cursor.walk in
    let links = c.args.links.now in
    let inside : c.loop-cursor.cursor - 1 < length c.args.links.now = (let a = i.within in omega arith) in
    let at_v = i.here pos in
    let last : IsLast (begins c.args.links.now) c.args.v (c.loop-cursor.cursor - 1) (get_or c.args.next.now (c.loop-cursor.cursor - 1) 0) =
    subst (λ x. IsLast (begins c.args.links.now) x (c.loop-cursor.cursor - 1) (get_or c.args.next.now (c.loop-cursor.cursor - 1) 0)) at_v (c.requires.listing.listed.nexts (c.loop-cursor.cursor - 1) inside) in
    elim c.if-index-eq0.branch [
      | then-index-eq0 w ↦
          rw w.walk-is
          record {
            walk = w.meet.ensures.walk;
            keeps = keeps_more c.args.walk.now old w.meet.new.walk i.keeps w.meet.ensures.keeps;
            within = (let x = last.within in omega arith);
            here = λ p. last.here p;
            followed = followed_more links old w.meet.new.walk c.args.v q _ w.meet.ensures.keeps last w.meet.ensures.here (λ r a b e. i.followed r (omega arith) b e);
          }
      | else-index-eq0 w ↦
          rw w.walk-is
          record {
            walk = i.walk;
            keeps = i.keeps;
            within = (let x = last.within in omega arith);
            here = λ p. last.here p;
            followed = followed_more links old old c.args.v q _ (keeps_same old) last
                (let b = between_at c.args.n links q inside c.requires.between in
                let r = i.walk.room.seats in
                let f = c.index.ensures ∙ get_or_default_zero old.seat.items (link_at c.args.links.now (c.loop-cursor.cursor - 1)).to c.index.result.now (let z = b.ends in omega arith) in
                let nz = w.if-index-eq0.false in
                omega arith)
                (λ r a b e. i.followed r (omega arith) b e);
          }
    ]
