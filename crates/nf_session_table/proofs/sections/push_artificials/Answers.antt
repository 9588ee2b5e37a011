use Rattle.nf_session_table.proofs.GrowFacts.{more-artificials, no-artificials, room-for-artificial}
use Rattle.nf_session_table.proofs.sections.push_artificials.Goals as goal

pub loop-r-init : goal.loop-r-init
loop-r-init c = no-artificials c.args.p.now c.args.state.now.standing c.args.table.now c.requires.begun

pub push_artificial-requires-clause-room : goal.push_artificial-requires-clause-room
push_artificial-requires-clause-room c = room-for-artificial c.args.p.now c.args.state.now.standing c.args.table.now c.loop-r.table c.loop-r.r c.stage_rows-r-end.result c.requires.room c.loop-r-test.true c.stage_rows-r-end.ensures.few c.loop-r.invariant

pub loop-r-preserved : goal.loop-r-preserved
loop-r-preserved c = more-artificials c.args.p.now c.args.state.now.standing c.args.table.now c.loop-r.table c.push_artificial.new.table c.loop-r.r c.loop-r.invariant c.in_ok-push_artificial.ensures
