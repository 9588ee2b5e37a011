use Rattle.std.proofs.Common.{◌≡◌, ◌≤◌, length}
use Rattle.nf_network.specs.Excess.{joined_below}
use Rattle.nf_network.specs.Network.{node_text_at}
use Rattle.nf_network.proofs.labelling.label_nodes.Given as goal

abbrev pub invariant-loop-i : goal.invariant-loop-i
invariant-loop-i l =
    (l.i-end ≡ length l.nodes.names) × (l.i ≤ l.i-end)
    × (l.labels ≡ record l.initial.labels { nodes = joined_below l.i (node_text_at l.nodes.names l.nodes.given) })
