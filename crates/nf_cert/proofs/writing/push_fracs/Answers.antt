use Rattle.nf_cert.proofs.GrowFacts.{grown-more, grown-none, grown-room}
use Rattle.nf_cert.proofs.writing.push_fracs.Goals as goal

pub loop-i-init : goal.loop-i-init
loop-i-init c = grown-none c.args.table.now.rows c.args.kind c.args.fracs.now c.args.table.now c.requires.begun

pub push_frac-requires-clause-room : goal.push_frac-requires-clause-room
push_frac-requires-clause-room c = grown-room c.args.table.now.rows c.args.kind c.args.fracs.now c.loop-i.i c.loop-i.table c.loop-i.invariant c.requires.room c.requires.few

pub loop-i-preserved : goal.loop-i-preserved
loop-i-preserved c = grown-more c.args.table.now.rows c.args.kind c.args.fracs.now c.loop-i.i c.index-fracs-i.result c.loop-i.table _ c.loop-i-test.true c.index-fracs-i.is c.loop-i.invariant c.in_ok-push_frac.ensures.row c.in_ok-push_frac.ensures.in_range
