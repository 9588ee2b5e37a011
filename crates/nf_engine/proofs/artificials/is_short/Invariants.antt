use Rattle.std.proofs.Common.{◌≡◌, ℕ, ◌<◌}
use Rattle.nf_num.specs.Rational.{zero_ℚ}
use Rattle.nf_simplex.specs.Columns.{Artificial}
use Rattle.nf_simplex.specs.Standing.{number_in}
use Rattle.nf_engine.proofs.artificials.is_short.Given as goal

abbrev pub invariant-loop-i : goal.invariant-loop-i
invariant-loop-i g l = (k : ℕ) → k < l.i → g.B.Basis.values l.p l.basis (number_in l.p (Artificial k)) ≡ zero_ℚ
