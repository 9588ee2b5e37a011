use Rattle.std.proofs.Common.{◌≡◌, ◌≤◌, length}
use Rattle.nf_network.specs.Excess.{joined_below}
use Rattle.nf_network.specs.Making.{column_at, with_arcs}
use Rattle.nf_network.proofs.problem.add_arcs.Given as goal

abbrev pub invariant-loop-i : goal.invariant-loop-i
invariant-loop-i l =
    (l.i-end ≡ length l.arcs.keys) × (l.i ≤ l.i-end)
    × (l.builder ≡ with_arcs l.initial.builder (joined_below l.i (column_at l.maximize l.arcs.keys l.arcs.figures.items)))
