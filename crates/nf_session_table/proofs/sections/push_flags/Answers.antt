use Rattle.nf_saved.specs.SessionTable.{flag_rows}
use Rattle.nf_session_table.proofs.GrowFacts.{five-more}
use Rattle.nf_session_table.proofs.sections.push_flags.Goals as goal

pub returns : goal.returns
unfolding flag_rows
returns c = five-more c.args.table.now c.push_flag.new.table c.push_flag-2.new.table c.push_flag-3.new.table c.push_flag-4.new.table _ _ _ _ c.in_ok-push_flag.ensures c.in_ok-push_flag-2.ensures c.in_ok-push_flag-3.ensures c.in_ok-push_flag-4.ensures c.push_flag-5.new.table _ c.in_ok-push_flag-5.ensures
