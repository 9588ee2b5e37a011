use Rattle.nf_saved.specs.Rows.{artificial_read}
use Rattle.nf_warm.specs.Inside.{rows_in}
use Rattle.nf_warm.proofs.LoopFacts.{HasRead}
use Rattle.nf_warm.proofs.queue.read_each.Given as goal

abbrev pub invariant-loop-i : goal.invariant-loop-i
invariant-loop-i l = HasRead (artificial_read (rows_in l.table l.at) l.k) l.n l.i l.artificials.items
