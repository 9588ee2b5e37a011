use Rattle.std.proofs.Common.{◌≡◌, ◌<◌, ℕ, false, take}
use Rattle.nf_network.specs.Repeats.{repeats}
use Rattle.nf_network.proofs.RepeatFacts.{TellsOf}
use Rattle.nf_network.proofs.repeats.first_repeat_among.Given as goal

abbrev pub invariant-loop-i : goal.invariant-loop-i
invariant-loop-i l = TellsOf l.shared l.places l.seen (take l.i l.keys) × ((k : ℕ) → k < l.i → repeats l.keys k ≡ false)
