use Rattle.nf_dimacs.specs.Tables.{arc_row, arcs_header}
use Rattle.nf_dimacs.proofs.TableFacts.{Grown}
use Rattle.nf_dimacs.proofs.arcs.push_arcs.Given as goal

abbrev pub invariant-loop-i : goal.invariant-loop-i
invariant-loop-i l = Grown arc_row arcs_header l.arcs l.i l.table
