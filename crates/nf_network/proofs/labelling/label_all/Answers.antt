use Rattle.std.proofs.Common.{◌∙◌, [], None, length, get_or, ap, arith}
use Rattle.nf_network.specs.Network.{supdem_text}
use Rattle.nf_network.proofs.LabelFacts.{all-made, no-headers, no-ids}
use Rattle.nf_network.proofs.Lists.{joined-ones}
use Rattle.nf_network.proofs.labelling.label_all.Goals as goal

pub label_excess-requires-clause-room : goal.label_excess-requires-clause-room
label_excess-requires-clause-room c =
    let size = ap (λ l. length l.nodes) c.in_ok-label_nodes.ensures
    ∙ joined-ones (length c.args.nodes.now.names) (λ k. record { name = get_or c.args.nodes.now.names k []; supdem = supdem_text (get_or c.args.nodes.now.given k None) }) in
    omega (arith, size, c.requires.few_nodes)

pub label_excess_arcs-requires-clause-room : goal.label_excess_arcs-requires-clause-room
label_excess_arcs-requires-clause-room c =
    let size = ap (λ l. length l.columns) c.in_ok-label_excess.ensures ∙ ap (λ l. length l.columns) c.in_ok-label_nodes.ensures in
    omega (arith, size, c.requires.few_arcs)

pub label_id_headers-requires-clause-none : goal.label_id_headers-requires-clause-none
label_id_headers-requires-clause-none c = no-headers _ _ _ _ _ _ _ _ c.requires.of_arcs c.in_ok-label_nodes.ensures c.in_ok-label_excess.ensures c.in_ok-label_excess_arcs.ensures

pub label_ids-requires-clause-none : goal.label_ids-requires-clause-none
label_ids-requires-clause-none c = no-ids _ _ _ _ _ _ _ _ c.requires.of_arcs c.in_ok-label_nodes.ensures c.in_ok-label_excess.ensures c.in_ok-label_excess_arcs.ensures _ _ c.in_ok-label_id_headers.ensures

pub returns : goal.returns
returns c =
    let made = all-made _ _ _ _ _ _ _ _ c.requires.of_arcs c.in_ok-label_nodes.ensures c.in_ok-label_excess.ensures c.in_ok-label_excess_arcs.ensures _ _ c.in_ok-label_id_headers.ensures _ _ c.in_ok-label_ids.ensures in
    rw c.of-balance.ensures.balance at made
