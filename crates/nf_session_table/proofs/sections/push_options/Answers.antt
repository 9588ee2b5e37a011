use Rattle.nf_session_table.proofs.GrowFacts.{after-flags, after-limits}
use Rattle.nf_session_table.proofs.sections.push_options.Goals as goal

pub push_flags-requires-clause-room : goal.push_flags-requires-clause-room
push_flags-requires-clause-room c = after-limits c.args.table.now c.push_limits.new.table c.args.options.now c.requires.room c.in_ok-push_limits.ensures

pub push_prices-requires-clause-room : goal.push_prices-requires-clause-room
push_prices-requires-clause-room c = after-flags c.args.table.now c.push_limits.new.table c.push_flags.new.table c.args.options.now c.requires.room c.in_ok-push_limits.ensures c.in_ok-push_flags.ensures
