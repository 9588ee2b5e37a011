use Rattle.std.proofs.Common.{◌+◌, ◌≤◌}
use Rattle.nf_price.specs.Cost.{paid}
use Rattle.nf_price.specs.Wanted.{IsBestBelow}
use Rattle.nf_price.proofs.scan.greatest_wanted.Given as goal

abbrev pub invariant-loop-k : goal.invariant-loop-k
invariant-loop-k g l = record { best : IsBestBelow l.p l.state.standing l.phase l.one l.two l.k l.best; cost : l.steps ≤ l.initial.steps + paid l.p l.phase l.k }
