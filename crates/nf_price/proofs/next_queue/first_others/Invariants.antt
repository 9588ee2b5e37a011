use Rattle.std.proofs.Common.{◌+◌, ◌≤◌}
use Rattle.nf_simplex.specs.Queue.{AreFirst}
use Rattle.nf_price.specs.Cost.{paid_turns}
use Rattle.nf_price.specs.Turns.{IsSeen}
use Rattle.nf_price.specs.Wanted.{WantsNumber}
use Rattle.nf_price.proofs.next_queue.first_others.Given as goal

abbrev pub invariant-loop-t : goal.invariant-loop-t
invariant-loop-t g l = record { first : AreFirst l.cursor l.size (λ n. WantsNumber l.p l.state.standing l.phase l.one l.two n × IsSeen l.from l.count l.t n) l.found; cost : l.steps ≤ l.initial.steps + paid_turns l.p l.phase l.members l.from l.t }
