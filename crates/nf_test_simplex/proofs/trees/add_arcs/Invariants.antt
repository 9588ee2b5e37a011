use Rattle.std.proofs.Common.{◌≡◌, length}
use Rattle.nf_test_simplex.proofs.trees.add_arcs.Given as goal

abbrev pub invariant-loop-i : goal.invariant-loop-i
invariant-loop-i l = (l.builder.nodes ≡ l.nodes) × (length l.builder.rows ≡ l.nodes) × (length l.builder.columns ≡ l.i) × (l.builder.arcs ≡ l.i)
