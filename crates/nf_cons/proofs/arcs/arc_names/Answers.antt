use Rattle.std.proofs.Common.{◌≡◌, ◌<◌, ◌+◌, ◌-◌, ◌∙◌, [], length, take, get_or, ap, arith}
use Rattle.std.proofs.lemmas.List.{length-take-le, take_more}
use Rattle.nf_cons.proofs.ArcFacts.{arcs-next, arcs-none}
use Rattle.nf_cons.proofs.arcs.arc_names.Goals as goal

pub loop-k-init : goal.loop-k-init
loop-k-init c = (rw c.new-arcs.ensures arcs-none, c.own_arcs-k-end.ensures.number)

pub push-requires : goal.push-requires
push-requires c =
    let inv = c.loop-k.invariant in
    let small = length-take-le c.loop-k.k c.args.labels.now.columns (omega (arith, c.requires, inv.1, c.loop-k-test.true)) in
    record { few = omega (arith, inv.0.count, small, c.own_arcs-k-end.ensures.few, c.loop-k-test.true) }

pub loop-k-preserved : goal.loop-k-preserved
loop-k-preserved c =
    let inv = c.loop-k.invariant in
    let below : c.loop-k.k < length c.args.labels.now.columns = omega (arith, c.requires, inv.1, c.loop-k-test.true) in
    let same : c.loop-k.k + 1 - 1 ≡ c.loop-k.k = omega arith in
    let name : c.column.result.now ≡ get_or c.args.labels.now.columns c.loop-k.k [] = c.column.ensures.name ∙ ap (λ i. get_or c.args.labels.now.columns i []) same in
    (rw (c.in_ok-push.ensures, name, take_more c.args.labels.now.columns c.loop-k.k [] below) (arcs-next (take c.loop-k.k c.args.labels.now.columns) c.loop-k.arcs _ inv.0), inv.1)

pub returns-clause-arcs : goal.returns-clause-arcs
returns-clause-arcs c =
    let inv = c.loop-k.invariant in
    let done : c.loop-k.k ≡ c.args.labels.now.own_arcs = omega (arith, inv.1, c.loop-k-test.false, c.loop-k.auto.k-end) in
    rw done at inv.0

pub returns-clause-few : goal.returns-clause-few
returns-clause-few c =
    let inv = c.loop-k.invariant in
    let small = length-take-le c.loop-k.k c.args.labels.now.columns (omega (arith, c.requires, inv.1, c.loop-k.auto.k-end)) in
    omega (arith, inv.0.count, small, c.own_arcs-k-end.ensures.few, c.loop-k.auto.k-end)
