use Rattle.nf_out.specs.Rows.{row_cell, row_name}
use Rattle.nf_out.proofs.HandFacts.{HasRows}
use Rattle.nf_out.proofs.rows.push_rows.Given as goal

abbrev pub invariant-loop-i : goal.invariant-loop-i
invariant-loop-i l = HasRows row_name (row_cell l.p l.labels l.state.standing l.figures l.tree) l.fields l.first l.i l.table
