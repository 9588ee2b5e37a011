use Rattle.std.proofs.Common.{◌+◌, ◌≤◌}
use Rattle.nf_price.specs.Cost.{paid}
use Rattle.nf_price.specs.Wanted.{WantsNoneIn}
use Rattle.nf_price.proofs.scan.first_wanted.Given as goal

abbrev pub invariant-loop-k : goal.invariant-loop-k
invariant-loop-k g l = record { none : WantsNoneIn l.p l.state.standing l.phase l.one l.two l.from l.k; behind : l.from ≤ l.k; cost : l.steps + paid l.p l.phase l.from ≤ l.initial.steps + paid l.p l.phase l.k }
