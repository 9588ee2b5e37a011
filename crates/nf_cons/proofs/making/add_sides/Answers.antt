use Rattle.std.proofs.Common.{◌≡◌, ◌<◌, ◌+◌, ◌-◌, ◌∷◌, ◌∙◌, [], refl, length, map, take, ap, arith}
use Rattle.std.proofs.lemmas.List.{length-append, length-take-le, take_all}
use Rattle.nf_network.proofs.PassFacts.{map-length}
use Rattle.nf_cons.specs.Constrained.{side_row}
use Rattle.nf_cons.proofs.MakingFacts.{before-more, map-more, rows-next, rows-none}
use Rattle.nf_cons.proofs.making.add_sides.Goals as goal

pub loop-k-init : goal.loop-k-init
loop-k-init c = (rows-none c.args.builder.now, refl, omega (arith, c.len-k-end.ensures))

pub add_row-requires : goal.add_row-requires
add_row-requires c =
    let inv = c.loop-k.invariant in
    let sides = c.args.constraints.now.sides.items in
    let size = ap (λ p. length p.rows) inv.0 ∙ length-append c.args.builder.now.rows (map side_row (take c.loop-k.k sides)) in
    let mapped = map-length side_row (take c.loop-k.k sides) in
    let small = length-take-le c.loop-k.k sides (omega (arith, inv.2, c.loop-k-test.true)) in
    let columns = ap (λ p. length p.columns) inv.0 in
    record { room = (omega (arith, size, mapped, small, inv.2, c.loop-k-test.true, c.requires.few_sides, c.requires.few_rows), omega (arith, columns, c.requires.few_columns)) }

pub overflow_sub-before-in-loop-k : goal.overflow_sub-before-in-loop-k
overflow_sub-before-in-loop-k c =
    let inv = c.loop-k.invariant in
    let sides = c.args.constraints.now.sides.items in
    let size = ap (λ p. length p.rows) inv.0 ∙ length-append c.args.builder.now.rows (map side_row (take c.loop-k.k sides)) in
    let mapped = map-length side_row (take c.loop-k.k sides) in
    let small = length-take-le c.loop-k.k sides (omega (arith, inv.2, c.loop-k-test.true)) in
    let more = ap (λ p. length p.rows) c.in_ok-i.ensures.added ∙ length-append c.loop-k.builder.rows (record { kind = c.index-side.result.now.kind; right = c.amount_value.result } ∷ []) in
    omega (arith, size, mapped, small, more, c.in_ok-i.ensures.number)

pub loop-k-preserved : goal.loop-k-preserved
loop-k-preserved c =
    let inv = c.loop-k.invariant in
    let sides = c.args.constraints.now.sides.items in
    let below : c.loop-k.k < length c.args.constraints.now.sides.items = omega (arith, inv.2, c.loop-k-test.true) in
    let size = ap (λ p. length p.rows) inv.0 ∙ length-append c.args.builder.now.rows (map side_row (take c.loop-k.k sides)) in
    let mapped = map-length side_row (take c.loop-k.k sides) in
    let small = length-take-le c.loop-k.k sides (omega (arith, inv.2, c.loop-k-test.true)) in
    let more = ap (λ p. length p.rows) c.in_ok-i.ensures.added ∙ length-append c.loop-k.builder.rows (record { kind = c.index-side.result.now.kind; right = c.amount_value.result } ∷ []) in
    let rows = map-more side_row sides c.loop-k.k _ c.index-side.result.now c.index-side.ensures below in (
      c.in_ok-i.ensures.added
          ∙ rows-next c.args.builder.now c.loop-k.builder (map side_row (take c.loop-k.k sides)) c.index-side.result.now.kind c.amount_value.result (map side_row (take (c.loop-k.k + 1) sides)) inv.0
          (rw c.amount_value.ensures rows),
      before-more c.loop-k.k 0 (length c.args.builder.now.rows) (c.in_ok-i.i - 1 - c.loop-k.k) (omega (arith, size, mapped, small, more, c.in_ok-i.ensures.number)),
      inv.2,
    )

pub returns-clause-rows : goal.returns-clause-rows
returns-clause-rows c =
    let inv = c.loop-k.invariant in
    let whole = take_all c.loop-k.k c.args.constraints.now.sides.items (omega (arith, inv.2, c.loop-k-test.false)) in
    rw whole at inv.0

pub returns-clause-before : goal.returns-clause-before
returns-clause-before c =
    let inv = c.loop-k.invariant in
    let done : c.loop-k.k ≡ length c.args.constraints.now.sides.items = omega (arith, inv.2, c.loop-k-test.false, c.loop-k.auto.k-end) in
    rw done at inv.1
