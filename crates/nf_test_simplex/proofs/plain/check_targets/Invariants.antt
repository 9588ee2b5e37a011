use Rattle.std.proofs.Common.{◌≡◌, length}
use Rattle.nf_simplex.specs.Standing.{rows_of}
use Rattle.nf_test_simplex.proofs.plain.check_targets.Given as goal

abbrev pub invariant-loop-target : goal.invariant-loop-target
invariant-loop-target g l = g.B.Basis.HasNumbers l.p l.basis × (g.B.Basis.standing l.basis ≡ g.B.Basis.standing l.fn.basis) × (length l.out ≡ rows_of l.p (g.B.Basis.standing l.basis))
