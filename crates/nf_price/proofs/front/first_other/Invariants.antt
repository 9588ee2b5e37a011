use Rattle.std.proofs.Common.{ℕ, ◌+◌, ◌<◌, ◌≤◌}
use Rattle.nf_price.specs.Cost.{paid_turns}
use Rattle.nf_price.specs.Turns.{in_turn}
use Rattle.nf_price.specs.Wanted.{Wants}
use Rattle.nf_price.proofs.front.first_other.Given as goal

abbrev pub invariant-loop-t : goal.invariant-loop-t
invariant-loop-t g l = record { none : (u : ℕ) → u < l.t → Wants l.p l.state.standing l.phase l.one l.two (in_turn l.from l.count u) → ⊥; cost : l.steps ≤ l.initial.steps + paid_turns l.p l.phase l.members l.from l.t }
