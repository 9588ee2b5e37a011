use Rattle.std.proofs.Common.{ℕ}
use Rattle.nf_num.specs.Rational.{ℚ}
use Rattle.nf_basis.specs.Kept.{IsStateOf}
use Rattle.nf_stage_two.specs.Starting.{IsMidway}
use Rattle.nf_stage_two.proofs.start.keep_arcs.Given as goal

abbrev pub invariant-loop-j : goal.invariant-loop-j
invariant-loop-j l = IsStateOf l.p l.state × ((x : ℕ → ℚ) → IsMidway l.p l.first.standing x l.j 0 0 l.state.standing)
