use Rattle.std.proofs.Common.{◌≡◌, ◌++◌, take}
use Rattle.nf_dimacs_writer.specs.Written.{lines_from, node_line}
use Rattle.nf_dimacs_writer.proofs.writing.put_nodes.Given as goal

abbrev pub invariant-loop-i : goal.invariant-loop-i
invariant-loop-i l = l.out ≡ l.initial.out ++ lines_from node_line 1 (take l.i l.p.rows)
