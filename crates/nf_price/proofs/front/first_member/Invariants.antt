use Rattle.std.proofs.Common.{◌+◌, ◌≤◌, take}
use Rattle.nf_price.specs.Cost.{paid_members}
use Rattle.nf_price.specs.Wanted.{WantsNoMember}
use Rattle.nf_price.proofs.front.first_member.Given as goal

abbrev pub invariant-loop-k : goal.invariant-loop-k
invariant-loop-k g l = record { none : WantsNoMember l.p l.state.standing l.phase l.one l.two (take l.k l.members); cost : l.steps ≤ l.initial.steps + paid_members l.p l.phase (take l.k l.members) }
