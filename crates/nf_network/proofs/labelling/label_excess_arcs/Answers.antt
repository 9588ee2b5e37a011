use Rattle.std.proofs.Common.{◌++◌, ◌∷◌, [], None, length, get_or, ap, ◌∙◌, arith}
use Rattle.std.proofs.lemmas.List.{length-append}
use Rattle.nf_network.specs.Excess.{gets, joined_below, sends}
use Rattle.nf_network.specs.Faults.{excess}
use Rattle.nf_network.specs.Network.{excess_names_at}
use Rattle.nf_network.proofs.LabelFacts.{columns-more, columns-none, names-at}
use Rattle.nf_network.proofs.Lists.{joined-short}
use Rattle.nf_network.proofs.MakingFacts.{one-short, two-short}
use Rattle.nf_network.proofs.labelling.label_excess_arcs.Goals as goal

pub loop-i-init : goal.loop-i-init
loop-i-init c = (c.len-i-end.ensures, omega arith, columns-none c.args.labels.now (excess_names_at c.args.balance c.args.nodes.now.names c.args.nodes.now.given))

pub label_excess_arc-requires : goal.label_excess_arc-requires
label_excess_arc-requires c =
    let inv = c.loop-i.invariant in
    let f = excess_names_at c.args.balance c.args.nodes.now.names c.args.nodes.now.given in
    let short = joined-short c.loop-i.i 2 f (λ k. two-short (sends c.args.balance (get_or c.args.nodes.now.given k None)) (gets c.args.balance (get_or c.args.nodes.now.given k None))
    (get_or c.args.nodes.now.names k [] ++ 95 ∷ excess) (excess ++ 95 ∷ get_or c.args.nodes.now.names k [])) in
    let size = ap (λ l. length l.columns) inv.2 ∙ length-append c.args.labels.now.columns (joined_below c.loop-i.i (excess_names_at c.args.balance c.args.nodes.now.names c.args.nodes.now.given)) in
    omega (arith, short, size, inv.0, inv.1, c.requires.few, c.requires.room)

pub label_excess_arc-requires-in-loop-i : goal.label_excess_arc-requires-in-loop-i
label_excess_arc-requires-in-loop-i c =
    let inv = c.loop-i.invariant in
    let f = excess_names_at c.args.balance c.args.nodes.now.names c.args.nodes.now.given in
    let short = joined-short c.loop-i.i 2 f (λ k. two-short (sends c.args.balance (get_or c.args.nodes.now.given k None)) (gets c.args.balance (get_or c.args.nodes.now.given k None))
    (get_or c.args.nodes.now.names k [] ++ 95 ∷ excess) (excess ++ 95 ∷ get_or c.args.nodes.now.names k [])) in
    let size = ap (λ l. length l.columns) inv.2 ∙ length-append c.args.labels.now.columns (joined_below c.loop-i.i (excess_names_at c.args.balance c.args.nodes.now.names c.args.nodes.now.given)) in
    let one = one-short c.sends.result (c.name_of-name.result.now ++ 95 ∷ excess) in
    let next = ap (λ l. length l.columns) (rw c.excess_name.ensures at c.in_ok-label_excess_arc.ensures) ∙ length-append c.loop-i.labels.columns _ in
    omega (arith, short, size, one, next, inv.0, inv.1, c.requires.few, c.requires.room)

pub loop-i-preserved : goal.loop-i-preserved
loop-i-preserved c =
    let inv = c.loop-i.invariant in (
      inv.0,
      omega (arith, c.loop-i-test.true),
      columns-more c.args.labels.now c.loop-i.labels _ _ (excess_names_at c.args.balance c.args.nodes.now.names c.args.nodes.now.given) c.loop-i.i _ _ inv.2 (rw c.excess_name.ensures at c.in_ok-label_excess_arc.ensures) (rw c.excess_name-in-loop-i.ensures at c.in_ok-label_excess_arc-2.ensures)
          (names-at c.args.balance c.args.nodes.now.names c.args.nodes.now.given c.loop-i.i _ _ _ _ c.name_of-name.ensures c.value-value.ensures c.sends.ensures c.gets.ensures),
    )
