use Rattle.std.proofs.Common.{◌≡◌, ◌*◌, length}
use Rattle.nf_sample.specs.Draws.{state_after}
use Rattle.nf_sample.specs.Rows.{rows_to, table_of}
use Rattle.nf_sample.specs.Sample.{constraints, constraints_header}
use Rattle.nf_sample.proofs.constraints.push_constraints.Given as goal

abbrev pub invariant-loop-before : goal.invariant-loop-before
invariant-loop-before l = record {
  rows : l.table ≡ table_of constraints_header (rows_to (constraints l.initial.draws l.arcs) l.before);
  room : length l.table.rows ≡ 4 * l.before;
  state : l.draws ≡ state_after l.initial.draws (4 * l.before);
}
