use Rattle.std.proofs.Common.{ℕ}
use Rattle.nf_num.specs.Rational.{ℚ}
use Rattle.nf_basis.specs.Kept.{IsStateOf}
use Rattle.nf_stage_two.specs.Starting.{IsMidway}
use Rattle.nf_stage_two.proofs.start.keep_nodes.Given as goal

abbrev pub invariant-loop-i : goal.invariant-loop-i
invariant-loop-i l = IsStateOf l.p l.state × ((x : ℕ → ℚ) → IsMidway l.p l.first.standing x l.p.arcs l.i 0 l.state.standing)
