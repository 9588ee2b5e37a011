use Rattle.std.proofs.Common.{◌≡◌, get_or, ap, ◌∙◌, arith}
use Rattle.std.proofs.Math.ListN.{set, length-set}
use Rattle.std.proofs.lemmas.Grind.{get_or_default_zero}
use Rattle.nf_view.proofs.PartFacts.{halved, halved_down, up_same, up_within}
use Rattle.nf_view.proofs.parts.part_of.Goals as goal

pub loop-next-preserved : goal.loop-next-preserved
loop-next-preserved c =
    let i = c.loop-next.invariant in
    let low = i.down c.loop-next.at i.inside in
    let up : c.index-up.result.now ≡ get_or c.loop-next.above.items (get_or c.loop-next.above.items c.loop-next.at 0) 0 = c.index-up.ensures
    ∙ (get_or_default_zero c.loop-next.above.items c.loop-next.next c.index-up.result.now (let n = i.next in let a = i.inside in omega arith) ∙ ap (λ k. get_or c.loop-next.above.items k 0) i.next) in
    let within = up_within c.loop-next.above.items c.loop-next.at c.index-up.result.now i.inside i.down up in
    let room = length-set c.loop-next.above.items c.loop-next.at c.index-up.result.now in
    let inside = i.inside in
    record {
      down = halved_down c.loop-next.above.items c.loop-next.at c.index-up.result.now i.inside i.down up;
      room = length-set _ _ _ ∙ i.room;
      within = (let a = i.within in omega arith);
      inside = omega arith;
      next = c.index-next-in-loop-next.ensures ∙ get_or_default_zero (set c.loop-next.above.items c.loop-next.at c.index-up.result.now) c.index-up.result.now c.index-next-in-loop-next.result.now (omega arith);
      named = λ part u. (let (x, y) = i.named part u in (
        halved c.loop-next.above.items c.loop-next.at c.index-up.result.now i.inside i.down up part x,
        up_same c.loop-next.above.items c.loop-next.at c.index-up.result.now i.inside i.down up part x ∙ y,
      ));
    }
