use Rattle.nf_saved.specs.SessionTable.{head_rows}
use Rattle.nf_session_table.proofs.GrowFacts.{six-more}
use Rattle.nf_session_table.proofs.sections.push_head.Goals as goal

pub returns : goal.returns
unfolding head_rows
returns c = six-more c.args.table.now c.push_row.new.table c.push_row-2.new.table c.push_count.new.table c.push_count-2.new.table _ _ _ _ c.in_ok-push_row.ensures (rw c.word_of_stage.ensures at c.in_ok-push_row-2.ensures) c.in_ok-push_count.ensures c.in_ok-push_count-2.ensures c.push_count-3.new.table c.push_row-3.new.table _ _ c.in_ok-push_count-3.ensures (rw c.word_of_last.ensures at c.in_ok-push_row-3.ensures)
