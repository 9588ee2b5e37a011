use Rattle.std.proofs.Common.{◌≡◌, length}
use Rattle.nf_sample.specs.Rows.{rows_to, table_of}
use Rattle.nf_sample.specs.Sample.{node_row, nodes_header}
use Rattle.nf_sample.proofs.nodes.nodes_table.Given as goal

abbrev pub invariant-loop-before : goal.invariant-loop-before
invariant-loop-before l = record {
  rows : l.table ≡ table_of nodes_header (rows_to (node_row l.drawn.items l.nodes) l.before);
  room : length l.table.rows ≡ l.before;
}
