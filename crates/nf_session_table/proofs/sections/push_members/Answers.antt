use Rattle.nf_session_table.proofs.GrowFacts.{more-members, no-members, room-for-member}
use Rattle.nf_session_table.proofs.sections.push_members.Goals as goal

pub loop-i-init : goal.loop-i-init
loop-i-init c = no-members c.args.table.now c.args.queue.now c.requires.begun

pub push_count-requires-clause-room : goal.push_count-requires-clause-room
push_count-requires-clause-room c = room-for-member c.args.table.now c.loop-i.table c.args.queue.now c.loop-i.i c.requires.room c.requires.most c.loop-i.invariant

pub loop-i-preserved : goal.loop-i-preserved
loop-i-preserved c = more-members c.args.table.now c.loop-i.table c.push_count.new.table c.args.queue.now c.loop-i.i _ c.loop-i-test.true c.loop-i.invariant c.in_ok-push_count.ensures
