use Rattle.nf_cert.proofs.GrowFacts.{HasGrown}
use Rattle.nf_cert.proofs.writing.push_fracs.Given as goal

abbrev pub invariant-loop-i : goal.invariant-loop-i
invariant-loop-i l = HasGrown l.initial.table.rows l.kind l.fracs l.i l.table
