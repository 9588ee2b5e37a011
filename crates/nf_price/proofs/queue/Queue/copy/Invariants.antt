use Rattle.std.proofs.Common.{◌≡◌, take}
use Rattle.nf_price.proofs.queue.Queue.copy.Given as goal

abbrev pub invariant-loop-k : goal.invariant-loop-k
invariant-loop-k l = record { copied : l.made ≡ take l.k l.self }
