use Rattle.std.proofs.Common.{◌≡◌, ◌≤◌, ◌++◌, length}
use Rattle.nf_network.specs.Excess.{joined_below}
use Rattle.nf_network.specs.Network.{excess_names_at}
use Rattle.nf_network.proofs.labelling.label_excess_arcs.Given as goal

abbrev pub invariant-loop-i : goal.invariant-loop-i
invariant-loop-i l =
    (l.i-end ≡ length l.nodes.names) × (l.i ≤ l.i-end)
    × (l.labels ≡ record l.initial.labels { columns = l.initial.labels.columns ++ joined_below l.i (excess_names_at l.balance l.nodes.names l.nodes.given) })
