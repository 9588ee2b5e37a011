use Rattle.std.proofs.Common.{◌≡◌, ◌≤◌, length}
use Rattle.nf_network.specs.Excess.{joined_below}
use Rattle.nf_network.specs.Making.{with_arcs}
use Rattle.nf_network.specs.Network.{excess_columns_at}
use Rattle.nf_network.proofs.problem.add_each_excess.Given as goal

abbrev pub invariant-loop-i : goal.invariant-loop-i
invariant-loop-i l =
    (l.i-end ≡ length l.nodes.names) × (l.i ≤ l.i-end)
    × (l.builder ≡ with_arcs l.initial.builder (joined_below l.i (excess_columns_at l.balance l.nodes.given)))
