use Rattle.std.proofs.Common.{length}
use Rattle.nf_basis.specs.Names.{stage_by}
use Rattle.nf_saved.specs.Reading.{given_read}
use Rattle.nf_warm.specs.Inside.{statuses_in}
use Rattle.nf_warm.proofs.LoopFacts.{HasRead}
use Rattle.nf_warm.proofs.places.read_given.Given as goal

abbrev pub invariant-loop-j : goal.invariant-loop-j
invariant-loop-j l = HasRead (given_read l.p (stage_by l.two) (statuses_in l.table l.at)) (length l.p.columns) l.j l.places.items
