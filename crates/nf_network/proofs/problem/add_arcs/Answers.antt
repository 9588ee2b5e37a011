use Rattle.std.proofs.Common.{◌≡◌, ◌<◌, length, get_or, sym, ap, arith}
use Rattle.std.proofs.lemmas.List.Elements.{All-get_or}
use Rattle.nf_network.specs.Excess.{joined_below}
use Rattle.nf_network.specs.Keys.{no_key}
use Rattle.nf_network.specs.Making.{IsInOrder, column_at, column_made, no_figures}
use Rattle.nf_network.proofs.Lists.{joined-none, joined-ones}
use Rattle.nf_network.proofs.MakingFacts.{arcs-more, arcs-none, in-order, made-at, of-arcs}
use Rattle.nf_network.proofs.problem.add_arcs.Goals as goal

pub loop-i-init : goal.loop-i-init
loop-i-init c =
    (c.len-i-end.ensures, omega arith, rw (joined-none (column_at c.args.maximize c.args.arcs.now.keys c.args.arcs.now.figures.items)) (sym (arcs-none c.args.builder.now)))

pub add_arc-requires-clause-of_arcs : goal.add_arc-requires-clause-of_arcs
add_arc-requires-clause-of_arcs c =
    let inv = c.loop-i.invariant in
    let size = joined-ones c.loop-i.i (λ k. column_made c.args.maximize (get_or c.args.arcs.now.keys k no_key) (get_or c.args.arcs.now.figures.items k no_figures)) in
    let none : length c.args.builder.now.columns ≡ 0 = ap length c.requires.no_columns in
    rw inv.2 (of-arcs c.args.builder.now (joined_below c.loop-i.i (column_at c.args.maximize c.args.arcs.now.keys c.args.arcs.now.figures.items)) c.requires.of_arcs
    (omega (arith, size, none, c.requires.of_arcs.arcs, inv.0, inv.1, c.requires.sound.few_arcs)))

pub add_arc-requires-clause-ordered : goal.add_arc-requires-clause-ordered
add_arc-requires-clause-ordered c =
    let inv = c.loop-i.invariant in
    let below : c.loop-i.i < length c.args.arcs.now.figures.items = omega (arith, c.requires.sound.one_each, inv.0, c.loop-i-test.true) in
    let ordered : IsInOrder c.index-figures.result.now =
    rw c.index-figures.ensures (All-get_or IsInOrder c.args.arcs.now.figures.items c.loop-i.i c.index-figures.result.now below c.requires.sound.in_order) in
    rw (c.upper_of.ensures, c.amount_value-lower.ensures) (in-order c.index-figures.result.now.lower c.index-figures.result.now.upper ordered)

pub loop-i-preserved : goal.loop-i-preserved
loop-i-preserved c =
    let inv = c.loop-i.invariant in
    let below : c.loop-i.i < length c.args.arcs.now.figures.items = omega (arith, c.requires.sound.one_each, inv.0, c.loop-i-test.true) in (
      inv.0,
      omega (arith, c.loop-i-test.true),
      arcs-more c.args.builder.now c.loop-i.builder _ (column_at c.args.maximize c.args.arcs.now.keys c.args.arcs.now.figures.items) c.loop-i.i _ inv.2 c.in_ok-add_arc.ensures
          (made-at c.args.maximize c.args.arcs.now.keys c.args.arcs.now.figures.items c.loop-i.i _ _ _ _ _ c.index-figures.result.now below c.index-figures.ensures c.ends-tail.ensures.tail c.ends-tail.ensures.head
          c.in_sense-cost.ensures c.amount_value-lower.ensures c.upper_of.ensures),
    )
