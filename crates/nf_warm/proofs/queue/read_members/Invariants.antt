use Rattle.nf_basis.specs.Names.{stage_by}
use Rattle.nf_saved.specs.Rows.{member_read}
use Rattle.nf_warm.specs.Inside.{rows_in}
use Rattle.nf_warm.proofs.LoopFacts.{HasRead}
use Rattle.nf_warm.proofs.queue.read_members.Given as goal

abbrev pub invariant-loop-i : goal.invariant-loop-i
invariant-loop-i l = HasRead (member_read l.p (stage_by l.two) (rows_in l.table l.at)) l.n l.i l.queue
