use Rattle.std.proofs.Common.{[], None, length, get_or, ap, ◌∙◌, arith}
use Rattle.nf_network.specs.Network.{supdem_text}
use Rattle.nf_network.proofs.LabelFacts.{nodes-more, nodes-none}
use Rattle.nf_network.proofs.Lists.{joined-ones}
use Rattle.nf_network.proofs.labelling.label_nodes.Goals as goal

pub loop-i-init : goal.loop-i-init
loop-i-init c = (c.len-i-end.ensures, omega arith, nodes-none c.args.labels.now c.args.nodes.now.names c.args.nodes.now.given c.requires.none)

pub label_node-requires : goal.label_node-requires
label_node-requires c =
    let inv = c.loop-i.invariant in
    let size = ap (λ l. length l.nodes) inv.2 ∙ joined-ones c.loop-i.i (λ k. record { name = get_or c.args.nodes.now.names k []; supdem = supdem_text (get_or c.args.nodes.now.given k None) }) in
    omega (arith, size, inv.0, inv.1, c.requires.few)

pub loop-i-preserved : goal.loop-i-preserved
loop-i-preserved c =
    let inv = c.loop-i.invariant in (
      inv.0,
      omega (arith, c.loop-i-test.true),
      nodes-more c.args.labels.now c.loop-i.labels _ c.args.nodes.now.names c.args.nodes.now.given c.loop-i.i _ _ inv.2 c.name_of.ensures c.value.ensures c.in_ok-label_node.ensures,
    )
