use Rattle.std.proofs.Common.{◌+◌, ◌≤◌, take}
use Rattle.nf_simplex.specs.Queue.{AreKept}
use Rattle.nf_price.specs.Cost.{paid_members}
use Rattle.nf_price.specs.Wanted.{WantsNumber}
use Rattle.nf_price.proofs.next_queue.kept_members.Given as goal

abbrev pub invariant-loop-k : goal.invariant-loop-k
invariant-loop-k g l = record { kept : AreKept (WantsNumber l.p l.state.standing l.phase l.one l.two) (take l.k l.members) l.kept; cost : l.steps ≤ l.initial.steps + paid_members l.p l.phase (take l.k l.members) }
