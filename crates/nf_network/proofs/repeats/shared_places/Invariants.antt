use Rattle.std.proofs.Common.{◌/◌, ◌<◌, length, take}
use Rattle.nf_network.specs.Repeats.{AreShared, AreTaken}
use Rattle.nf_network.proofs.repeats.shared_places.Given as goal

abbrev pub invariant-loop-i : goal.invariant-loop-i
invariant-loop-i l =
    (l.places / 64 < length l.taken) × (l.places / 64 < length l.shared)
    × AreTaken l.taken l.places (take l.i l.keys) × AreShared l.shared l.places (take l.i l.keys)
