use Rattle.std.proofs.Common.{◌≡◌, ◌+◌, ◌++◌, length}
use Rattle.nf_sample.specs.Rows.{rows_to, table_of}
use Rattle.nf_sample.specs.Sample.{constraints_header, cost_line}
use Rattle.nf_sample.proofs.constraints.push_costs.Given as goal

abbrev pub invariant-loop-before : goal.invariant-loop-before
invariant-loop-before l = record {
  rows : l.table ≡ table_of constraints_header (l.initial.table.rows ++ rows_to cost_line l.before);
  room : length l.table.rows ≡ length l.initial.table.rows + l.before;
}
