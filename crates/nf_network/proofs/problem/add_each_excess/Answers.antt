use Rattle.std.proofs.Common.{◌≡◌, ◌+◌, ◌∙◌, None, length, get_or, sym, ap, arith}
use Rattle.nf_network.specs.Excess.{gets, joined_below, sends}
use Rattle.nf_network.specs.Network.{excess_column, excess_columns_at}
use Rattle.nf_network.proofs.Lists.{joined-none, joined-short}
use Rattle.nf_network.proofs.MakingFacts.{arcs-join, arcs-more, arcs-none, excess-at, of-arcs, one-short, two-short}
use Rattle.nf_network.proofs.problem.add_each_excess.Goals as goal

pub loop-i-init : goal.loop-i-init
loop-i-init c =
    (c.len-i-end.ensures, omega arith, rw (joined-none (excess_columns_at c.args.balance c.args.nodes.now.given)) (sym (arcs-none c.args.builder.now)))

pub add_excess_arc-requires-clause-of_arcs : goal.add_excess_arc-requires-clause-of_arcs
add_excess_arc-requires-clause-of_arcs c =
    let inv = c.loop-i.invariant in
    let size = joined-short c.loop-i.i 2 (excess_columns_at c.args.balance c.args.nodes.now.given)
    (λ k. two-short (sends c.args.balance (get_or c.args.nodes.now.given k None)) (gets c.args.balance (get_or c.args.nodes.now.given k None)) (excess_column k (length c.args.nodes.now.given)) (excess_column (length c.args.nodes.now.given) k)) in
    rw inv.2 (of-arcs c.args.builder.now (joined_below c.loop-i.i (excess_columns_at c.args.balance c.args.nodes.now.given)) c.requires.of_arcs
    (omega (arith, size, c.requires.of_arcs.arcs, c.requires.few_columns, inv.0, inv.1, c.requires.few)))

pub add_excess_arc-requires-in-loop-i-clause-of_arcs : goal.add_excess_arc-requires-in-loop-i-clause-of_arcs
add_excess_arc-requires-in-loop-i-clause-of_arcs c =
    let inv = c.loop-i.invariant in
    let size = joined-short c.loop-i.i 2 (excess_columns_at c.args.balance c.args.nodes.now.given)
    (λ k. two-short (sends c.args.balance (get_or c.args.nodes.now.given k None)) (gets c.args.balance (get_or c.args.nodes.now.given k None)) (excess_column k (length c.args.nodes.now.given)) (excess_column (length c.args.nodes.now.given) k)) in
    let before = of-arcs c.args.builder.now (joined_below c.loop-i.i (excess_columns_at c.args.balance c.args.nodes.now.given)) c.requires.of_arcs
    (omega (arith, size, c.requires.of_arcs.arcs, c.requires.few_columns, inv.0, inv.1, c.requires.few)) in
    let one = one-short c.sends.result (excess_column c.loop-i.i c.len.result) in
    let arcs : c.loop-i.builder.arcs ≡ c.args.builder.now.arcs + length (joined_below c.loop-i.i (excess_columns_at c.args.balance c.args.nodes.now.given)) = ap (λ q. q.arcs) inv.2 in
    rw c.in_ok-add_excess_arc.ensures (of-arcs c.loop-i.builder _ (rw inv.2 before) (omega (arith, arcs, one, size, c.requires.of_arcs.arcs, c.requires.few_columns, inv.0, inv.1, c.requires.few)))

pub loop-i-preserved : goal.loop-i-preserved
loop-i-preserved c =
    let inv = c.loop-i.invariant in (
      inv.0,
      omega (arith, c.loop-i-test.true),
      arcs-more c.args.builder.now c.loop-i.builder _ (excess_columns_at c.args.balance c.args.nodes.now.given) c.loop-i.i _ inv.2
          (c.in_ok-add_excess_arc-2.ensures ∙ rw c.in_ok-add_excess_arc.ensures (arcs-join c.loop-i.builder _ _))
          (excess-at c.args.balance c.args.nodes.now.given c.loop-i.i _ _ _ _ _ c.value-value.ensures c.sends.ensures c.gets.ensures (c.len.ensures ∙ sym c.requires.even.same_length) (c.len-in-loop-i.ensures ∙ sym c.requires.even.same_length)),
    )
