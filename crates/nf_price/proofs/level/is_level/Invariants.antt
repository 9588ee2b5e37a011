use Rattle.nf_price.proofs.LevelFacts.{IsLevelBelow}
use Rattle.nf_price.proofs.level.is_level.Given as goal

abbrev pub invariant-loop-i : goal.invariant-loop-i
invariant-loop-i l = IsLevelBelow l.p l.duals l.i
