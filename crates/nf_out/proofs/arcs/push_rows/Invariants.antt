use Rattle.nf_out.specs.Arcs.{arc_cell, arc_name}
use Rattle.nf_out.proofs.HandFacts.{HasRows}
use Rattle.nf_out.proofs.arcs.push_rows.Given as goal

abbrev pub invariant-loop-k : goal.invariant-loop-k
invariant-loop-k l = HasRows (arc_name l.labels) (arc_cell l.p l.labels l.state.standing l.figures) l.fields l.first l.k l.table
