use Rattle.std.proofs.Common.{◌≡◌}
use Rattle.nf_num.specs.Rational.{◌*ℚ◌}
use Rattle.nf_num.specs.Sum.{sum_ℚ}
use Rattle.nf_model.specs.Certificate.{combined}
use Rattle.nf_model.specs.Farkas.{ColumnIsBounded}
use Rattle.nf_model.specs.Program.{HoldsBelow}
use Rattle.nf_prob.specs.Highest.{highest_at}
use Rattle.nf_prob.proofs.farkas.greatest_value.Given as goal

abbrev pub invariant-loop-j : goal.invariant-loop-j
invariant-loop-j g l = record { bounded : HoldsBelow l.j (ColumnIsBounded l.p (combined l.p l.y)); total : l.total ≡ sum_ℚ l.j (λ k. combined l.p l.y k *ℚ highest_at l.p (combined l.p l.y) k) }
