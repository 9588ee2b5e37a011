use Rattle.std.proofs.Common.{◌≡◌, ◌<◌, false, length, take, get_or, refl, sym, ap, ◌∙◌, arith}
use Rattle.std.proofs.lemmas.List.{take_more}
use Rattle.nf_network.specs.Keys.{no_key}
use Rattle.nf_bits.specs.Bits.{has_number}
use Rattle.nf_network.specs.Repeats.{place_in}
use Rattle.nf_network.proofs.RepeatFacts.{clear-more, fresh-next, not-met, tells-still}
use Rattle.nf_network.proofs.repeats.first_repeat_among.Goals.{then-has+in_ok-name+in_ok-add+else-not-branch, else-has}
use Rattle.nf_network.proofs.repeats.first_repeat_among.Goals as goal

pub loop-i-preserved : goal.loop-i-preserved
loop-i-preserved c =
    let inv = c.loop-i.invariant in
    let words = c.args.shared.now in
    let n = c.args.places in
    let front = take c.loop-i.i c.args.keys.now in
    let k = get_or c.args.keys.now c.loop-i.i no_key in
    let below : c.loop-i.i < length c.args.keys.now = omega (arith, c.len-i-end.ensures, c.loop-i-test.true) in
    let more = take_more c.args.keys.now c.loop-i.i no_key below in
    let at : c.place.result ≡ place_in c.args.places k = c.place.ensures.value ∙ rw (c.ends-tail.ensures.tail, c.ends-tail.ensures.head) refl in
    let has : c.has.result ≡ has_number c.args.shared.now (place_in c.args.places k) = c.has.ensures ∙ ap (has_number c.args.shared.now) at in
    elim c.if-has.branch [
      | then-has+in_ok-name+in_ok-add+else-not-branch w ↦
          let key : record { tail = c.ends-tail.result.0; head = c.ends-tail.result.1; name = w.in_ok-name.name } ≡ k = rw (c.ends-tail.ensures.tail, c.ends-tail.ensures.head, w.in_ok-name.ensures.bytes, w.name.ensures) refl in
          let next = fresh-next words n c.loop-i.seen w.add.new.self front _ k w.in_ok-add.field-0 key w.in_ok-add.ensures.is_new w.if-not-branch.false w.in_ok-add.ensures.added (sym has ∙ w.if-has.true) inv.0 in
          (rw (w.seen-is, more) next.1, clear-more c.args.keys.now c.loop-i.i inv.1 next.0)
      | else-has w ↦
          let free : has_number c.args.shared.now (place_in c.args.places k) ≡ false = sym has ∙ w.if-has.false in
          (rw (w.seen-is, more) (tells-still words n c.loop-i.seen front k free inv.0), clear-more c.args.keys.now c.loop-i.i inv.1 (not-met words n c.args.keys.now c.loop-i.i c.requires.shared below free))
    ]
