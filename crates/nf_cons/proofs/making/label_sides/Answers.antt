use Rattle.std.proofs.Common.{◌+◌, ◌++◌, ◌∷◌, ◌∙◌, [], length, map, take, ap, arith}
use Rattle.std.proofs.lemmas.List.{length-append, length-take-le, take_all}
use Rattle.nf_network.proofs.PassFacts.{map-length}
use Rattle.nf_cons.specs.Constrained.{side_name}
use Rattle.nf_cons.proofs.MakingFacts.{constraints-more, constraints-none, map-more}
use Rattle.nf_cons.proofs.making.label_sides.Goals as goal

pub loop-k-init : goal.loop-k-init
loop-k-init c = (constraints-none c.args.labels.now, omega (arith, c.len-k-end.ensures))

pub push_constraint-requires : goal.push_constraint-requires
push_constraint-requires c =
    let inv = c.loop-k.invariant in
    let sides = c.args.constraints.now.sides.items in
    let name = side_name c.args.constraints.now.names in
    let size = ap (λ l. length l.constraints) inv.0 ∙ length-append c.args.labels.now.constraints (map name (take c.loop-k.k sides)) in
    let mapped = map-length name (take c.loop-k.k sides) in
    let small = length-take-le c.loop-k.k sides (omega (arith, inv.1, c.loop-k-test.true)) in
    record { room = omega (arith, size, mapped, small, inv.1, c.loop-k-test.true, c.requires.few) }

pub loop-k-preserved : goal.loop-k-preserved
loop-k-preserved c =
    let inv = c.loop-k.invariant in
    let sides = c.args.constraints.now.sides.items in
    let name = side_name c.args.constraints.now.names in (
      c.in_ok-push_constraint.ensures.added
          ∙ constraints-more c.args.labels.now c.loop-k.labels (map name (take c.loop-k.k sides)) c.get.result.now (map name (take (c.loop-k.k + 1) sides)) inv.0
          (ap (λ n. map name (take c.loop-k.k sides) ++ n ∷ []) c.get.ensures.name ∙ map-more name sides c.loop-k.k _ c.index.result.now c.index.ensures (omega (arith, inv.1, c.loop-k-test.true))),
      inv.1,
    )

pub returns : goal.returns
returns c =
    let inv = c.loop-k.invariant in
    let whole = take_all c.loop-k.k c.args.constraints.now.sides.items (omega (arith, inv.1, c.loop-k-test.false)) in
    rw whole at inv.0
