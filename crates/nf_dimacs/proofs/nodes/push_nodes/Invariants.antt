use Rattle.nf_dimacs.specs.Tables.{node_row, nodes_header}
use Rattle.nf_dimacs.proofs.TableFacts.{Grown}
use Rattle.nf_dimacs.proofs.nodes.push_nodes.Given as goal

abbrev pub invariant-loop-i : goal.invariant-loop-i
invariant-loop-i l = Grown node_row nodes_header l.supplies l.i l.table
