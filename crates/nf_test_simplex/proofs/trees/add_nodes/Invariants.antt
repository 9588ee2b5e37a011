use Rattle.std.proofs.Common.{◌≡◌, length}
use Rattle.nf_test_simplex.proofs.trees.add_nodes.Given as goal

abbrev pub invariant-loop-i : goal.invariant-loop-i
invariant-loop-i l = (l.builder.nodes ≡ l.i) × (length l.builder.rows ≡ l.i) × (length l.builder.columns ≡ 0) × (l.builder.arcs ≡ 0)
