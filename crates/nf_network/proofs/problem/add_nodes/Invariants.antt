use Rattle.std.proofs.Common.{◌≡◌, ◌≤◌, length, take}
use Rattle.nf_network.specs.Making.{nodes_program}
use Rattle.nf_network.proofs.problem.add_nodes.Given as goal

abbrev pub invariant-loop-i : goal.invariant-loop-i
invariant-loop-i l = (l.i-end ≡ length l.nodes.names) × (l.i ≤ l.i-end) × (l.builder ≡ nodes_program l.initial.builder.maximizes (take l.i l.nodes.given))
