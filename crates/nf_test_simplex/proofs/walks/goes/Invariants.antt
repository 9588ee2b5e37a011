use Rattle.nf_simplex.specs.Standing.{IsFeasibleState}
use Rattle.nf_test_simplex.proofs.walks.goes.Given as goal

abbrev pub invariant-loop-taken : goal.invariant-loop-taken
invariant-loop-taken g l = g.B.Basis.HasNumbers l.p l.walk.basis × IsFeasibleState l.p (g.B.Basis.standing l.walk.basis)
