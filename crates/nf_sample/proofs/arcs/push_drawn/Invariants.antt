use Rattle.std.proofs.Common.{◌≡◌, ◌+◌, ◌*◌, ◌++◌, length}
use Rattle.nf_sample.specs.Draws.{state_after}
use Rattle.nf_sample.specs.Rows.{rows_to, table_of}
use Rattle.nf_sample.specs.Sample.{arcs_header, drawn_arcs}
use Rattle.nf_sample.proofs.arcs.push_drawn.Given as goal

abbrev pub invariant-loop-before : goal.invariant-loop-before
invariant-loop-before l = record {
  rows : l.table ≡ table_of arcs_header (l.initial.table.rows ++ rows_to (drawn_arcs l.initial.draws l.nodes) l.before);
  room : length l.table.rows ≡ length l.initial.table.rows + l.before;
  state : l.draws ≡ state_after l.initial.draws (4 * l.before);
}
