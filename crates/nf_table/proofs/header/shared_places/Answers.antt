use Rattle.std.proofs.Common.{◌≡◌, ◌<◌, ◌/◌, false, length, take, subst, sym, ap, ◌∙◌, arith}
use Rattle.std.proofs.lemmas.List.{length-set}
use Rattle.csv.specs.Records.{fields_of}
use Rattle.nf_bits.specs.Bits.{has_number, with_number}
use Rattle.nf_table.specs.Shared.{place_of}
use Rattle.nf_table.proofs.CellFacts.{take-all, take-cell}
use Rattle.nf_table.proofs.SharedFacts.{met-more, shared-met, shared-new}
use Rattle.nf_table.proofs.header.shared_places.Goals.{then-has, else-has}
use Rattle.nf_table.proofs.header.shared_places.Goals as goal

pub loop-name-preserved : goal.loop-name-preserved
loop-name-preserved c =
    let inv = c.loop-name.invariant in
    let fields = fields_of c.args.header.now in
    let n = c.in-Some.name.now in
    let front = take c.loop-name.name-iterator.at fields in
    let cell = rw (inv.2, c.in-Some.is) at (sym c.next.ensures.steps.1) in
    let at = rw c.in-Some.is at c.next.ensures.steps.2 in
    let row = ap (λ r. r.now) c.next.ensures.steps.0 ∙ inv.2 in
    let more = take-cell fields c.loop-name.name-iterator.at n cell in
    let is : c.place-at.result ≡ place_of c.args.places n = c.place-at.ensures.value in
    let room_met : place_of c.args.places n / 64 < length c.loop-name.met = subst (λ p. p / 64 < length c.loop-name.met) is (omega (arith, c.place-at.ensures.within, inv.3)) in
    let room_shared : place_of c.args.places n / 64 < length c.loop-name.shared = subst (λ p. p / 64 < length c.loop-name.shared) is (omega (arith, c.place-at.ensures.within, inv.4)) in
    let met : c.insert-in-loop-name.new.self ≡ with_number c.loop-name.met (place_of c.args.places n) = c.insert-in-loop-name.ensures ∙ ap (with_number c.loop-name.met) is in
    let has : c.has.result ≡ has_number c.loop-name.met (place_of c.args.places n) = c.has.ensures ∙ ap (has_number c.loop-name.met) is in
    let size = ap length met ∙ length-set c.loop-name.met _ _ in
    let all_met = met-more c.loop-name.met c.args.places front n room_met inv.5 in
    elim c.if-has.branch [
      | then-has w ↦
          let shared : c.if-has.shared ≡ with_number c.loop-name.shared (place_of c.args.places n) = w.shared-is ∙ w.insert.ensures ∙ ap (with_number c.loop-name.shared) is in
          let shared_size = ap length shared ∙ length-set c.loop-name.shared _ _ in (
            tt,
            tt,
            row,
            omega (arith, size, inv.3),
            omega (arith, shared_size, inv.4),
            rw at (rw (met, more) all_met),
            rw at (rw (shared, more) (shared-met c.loop-name.shared c.args.places front n room_shared inv.6)),
          )
      | else-has w ↦
          let shared : c.if-has.shared ≡ c.loop-name.shared = w.shared-is in
          let free : has_number c.loop-name.met (place_of c.args.places n) ≡ false = sym has ∙ w.if-has.false in (
            tt,
            tt,
            row,
            omega (arith, size, inv.3),
            rw shared inv.4,
            rw at (rw (met, more) all_met),
            rw at (rw (shared, more) (shared-new c.loop-name.met c.loop-name.shared c.args.places front n inv.5 free inv.6)),
          )
    ]

pub returns-clause-shared : goal.returns-clause-shared
returns-clause-shared c =
    let inv = c.loop-name.invariant in
    let none = rw (inv.2, c.in-None.is) at (sym c.next.ensures.steps.1) in
    rw (take-all _ _ none) at inv.6
