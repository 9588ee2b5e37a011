use Rattle.std.proofs.Common.{sym, arith}
use Rattle.nf_ratio.specs.Loops.{first_ratio}
use Rattle.nf_ratio.proofs.Offers.{none_yet, offered_if}
use Rattle.nf_ratio.proofs.ratios.value_ties.Goals as goal

pub loop-slot-init : goal.loop-slot-init
loop-slot-init g c = record { ties = none_yet (λ i. i) _ c.args.ties.now c.none-found.result c.none-found.ensures.count c.none-found.ensures.least; cost = omega arith }

pub loop-slot-preserved : goal.loop-slot-preserved
loop-slot-preserved g c =
    let few = c.loop-slot.invariant.ties.few in
    let room = c.requires.room in
    let long = c.loop-slot.auto.ties in
    let test = c.loop-slot-test.true in
    record {
      ties = offered_if (λ i. i) (first_ratio c.args.p.now (g.B.Basis.slots c.args.basis.now) (g.B.Basis.values c.args.p.now c.args.basis.now) c.args.down c.args.entries.now) c.loop-slot.slot c.loop-slot.ties c.loop-slot.found c.loop-slot.invariant.ties c.in_ok-ratio.ratio
          (sym c.in_ok-ratio.ensures.value) (λ j h. h) (omega (arith, few, room, long, test)) c.offer_if-found.result c.offer_if-found.new.ties c.offer_if-found.ensures.offered;
      cost = (let a = c.loop-slot.invariant.cost in let b = c.value_ratio.ensures.cost in omega (arith, a, b));
    }
