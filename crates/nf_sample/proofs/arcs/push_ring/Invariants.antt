use Rattle.std.proofs.Common.{◌≡◌, length}
use Rattle.nf_sample.specs.Rows.{rows_to, table_of}
use Rattle.nf_sample.specs.Sample.{arcs_header, ring_arc}
use Rattle.nf_sample.proofs.arcs.push_ring.Given as goal

abbrev pub invariant-loop-before : goal.invariant-loop-before
invariant-loop-before l = record {
  rows : l.table ≡ table_of arcs_header (rows_to (ring_arc l.nodes) l.before);
  room : length l.table.rows ≡ l.before;
}
