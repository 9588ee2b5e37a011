use Rattle.nf_saved.specs.SessionTable.{price_rows}
use Rattle.nf_session_table.proofs.GrowFacts.{four-more}
use Rattle.nf_session_table.proofs.sections.push_prices.Goals as goal

pub returns : goal.returns
unfolding price_rows
returns c = four-more c.args.table.now c.push_rule.new.table c.push_rule-2.new.table c.push_count.new.table c.push_count-2.new.table _ _ _ _ c.in_ok-push_rule.ensures c.in_ok-push_rule-2.ensures c.in_ok-push_count.ensures c.in_ok-push_count-2.ensures
