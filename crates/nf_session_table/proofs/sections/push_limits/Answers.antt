use Rattle.nf_saved.specs.SessionTable.{limit_rows}
use Rattle.nf_session_table.proofs.GrowFacts.{four-more}
use Rattle.nf_session_table.proofs.sections.push_limits.Goals as goal

pub returns : goal.returns
unfolding limit_rows
returns c = four-more c.args.table.now c.push_count.new.table c.push_count-2.new.table c.push_count-3.new.table c.push_count-4.new.table _ _ _ _ c.in_ok-push_count.ensures c.in_ok-push_count-2.ensures c.in_ok-push_count-3.ensures c.in_ok-push_count-4.ensures
