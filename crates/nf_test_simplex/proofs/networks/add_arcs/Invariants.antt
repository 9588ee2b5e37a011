use Rattle.std.proofs.Common.{◌≡◌, length}
use Rattle.nf_test_simplex.proofs.networks.add_arcs.Given as goal

abbrev pub invariant-loop-before : goal.invariant-loop-before
invariant-loop-before l = (l.builder.nodes ≡ l.nodes) × (length l.builder.rows ≡ l.nodes) × (length l.builder.columns ≡ l.before) × (l.builder.arcs ≡ l.before)
