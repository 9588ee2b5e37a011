use Rattle.std.proofs.Common.{length}
use Rattle.nf_basis.specs.Names.{stage_by}
use Rattle.nf_saved.specs.Reading.{slack_read}
use Rattle.nf_warm.specs.Inside.{words_in}
use Rattle.nf_warm.proofs.LoopFacts.{HasRead}
use Rattle.nf_warm.proofs.places.read_sides.Given as goal

abbrev pub invariant-loop-i : goal.invariant-loop-i
invariant-loop-i l = HasRead (slack_read l.p (stage_by l.two) (words_in l.table l.at)) (length l.p.rows) l.i l.places.items
