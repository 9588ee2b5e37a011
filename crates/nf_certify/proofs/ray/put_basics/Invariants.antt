use Rattle.nf_certify.specs.Moving.{ArePut}
use Rattle.nf_certify.proofs.ray.put_basics.Given as goal

abbrev pub invariant-loop-slot : goal.invariant-loop-slot
invariant-loop-slot g l = ArePut l.p (g.B.Basis.slots l.basis) l.down l.entries l.fn.moves l.slot l.moves
