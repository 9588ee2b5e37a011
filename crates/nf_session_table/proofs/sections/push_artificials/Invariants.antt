use Rattle.std.proofs.Common.{◌≡◌}
use Rattle.nf_saved.specs.SessionTable.{artificial_rows}
use Rattle.nf_session_table.specs.Growing.{with_more}
use Rattle.nf_session_table.proofs.sections.push_artificials.Given as goal

abbrev pub invariant-loop-r : goal.invariant-loop-r
invariant-loop-r l = l.table ≡ with_more l.initial.table (artificial_rows l.p l.state.standing l.r)
