use Rattle.std.proofs.Common.{◌≡◌, ◌<◌, ◌/◌, length, take, get_or, false, subst, refl, sym, ap, ◌∙◌, arith}
use Rattle.std.proofs.lemmas.List.{length-set, take_more}
use Rattle.nf_network.specs.Keys.{no_key}
use Rattle.nf_bits.specs.Bits.{has_number, with_number}
use Rattle.nf_network.specs.Repeats.{place_in}
use Rattle.nf_bits.proofs.BitFacts.{has-here, has-still}
use Rattle.nf_network.proofs.RepeatFacts.{alone, shared-more, taken-more}
use Rattle.nf_network.proofs.repeats.shared_places.Goals.{then-has, else-has}
use Rattle.nf_network.proofs.repeats.shared_places.Goals as goal

pub loop-i-preserved : goal.loop-i-preserved
loop-i-preserved c =
    let inv = c.loop-i.invariant in
    let front = take c.loop-i.i c.args.keys.now in
    let k = get_or c.args.keys.now c.loop-i.i no_key in
    let below : c.loop-i.i < length c.args.keys.now = omega (arith, c.len-i-end.ensures, c.loop-i-test.true) in
    let more = take_more c.args.keys.now c.loop-i.i no_key below in
    let at : c.place-at.result ≡ place_in c.args.places k = c.place-at.ensures.value ∙ rw (c.ends-tail.ensures.tail, c.ends-tail.ensures.head) refl in
    let in_taken : place_in c.args.places k / 64 < length c.loop-i.taken = subst (λ p. p / 64 < length c.loop-i.taken) at (omega (arith, c.place-at.ensures.within, inv.0)) in
    let in_shared : place_in c.args.places k / 64 < length c.loop-i.shared = subst (λ p. p / 64 < length c.loop-i.shared) at (omega (arith, c.place-at.ensures.within, inv.1)) in
    let taken : c.insert-in-loop-i.new.self ≡ with_number c.loop-i.taken (place_in c.args.places k) = c.insert-in-loop-i.ensures ∙ ap (with_number c.loop-i.taken) at in
    let has : c.has.result ≡ has_number c.loop-i.taken (place_in c.args.places k) = c.has.ensures ∙ ap (has_number c.loop-i.taken) at in
    let size = ap length taken ∙ length-set c.loop-i.taken _ _ in
    let all_taken = taken-more c.loop-i.taken c.args.places front k in_taken inv.2 in
    elim c.if-has.branch [
      | then-has w ↦
          let shared : c.if-has.shared ≡ with_number c.loop-i.shared (place_in c.args.places k) = w.shared-is ∙ w.insert.ensures ∙ ap (with_number c.loop-i.shared) at in
          let shared_size = ap length shared ∙ length-set c.loop-i.shared _ _ in (
            omega (arith, size, inv.0),
            omega (arith, shared_size, inv.1),
            rw (taken, more) all_taken,
            rw (shared, more) (shared-more c.loop-i.shared (with_number c.loop-i.shared (place_in c.args.places k)) c.args.places front k
                (λ q h. has-still c.loop-i.shared (place_in c.args.places k) q in_shared h) (λ met. has-here c.loop-i.shared (place_in c.args.places k) in_shared) inv.3),
          )
      | else-has w ↦
          let shared : c.if-has.shared ≡ c.loop-i.shared = w.shared-is in
          let free : has_number c.loop-i.taken (place_in c.args.places k) ≡ false = sym has ∙ w.if-has.false in (
            omega (arith, size, inv.0),
            rw shared inv.1,
            rw (taken, more) all_taken,
            rw (shared, more) (shared-more c.loop-i.shared c.loop-i.shared c.args.places front k (λ q h. h) (λ met. absurd (alone c.loop-i.taken c.args.places front k inv.2 free met)) inv.3),
          )
    ]
