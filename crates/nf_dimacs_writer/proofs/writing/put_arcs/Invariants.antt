use Rattle.std.proofs.Common.{◌≡◌, ◌++◌, take}
use Rattle.nf_dimacs_writer.specs.Written.{lines_from, arc_line}
use Rattle.nf_dimacs_writer.proofs.writing.put_arcs.Given as goal

abbrev pub invariant-loop-j : goal.invariant-loop-j
invariant-loop-j l = l.out ≡ l.initial.out ++ lines_from arc_line 1 (take l.j l.p.columns)
