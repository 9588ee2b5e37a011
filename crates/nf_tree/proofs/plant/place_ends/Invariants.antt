use Rattle.std.proofs.Common.{◌≡◌, ℕ, suc, ◌<◌, length, slice_index}
use Rattle.nf_tree.proofs.plant.place_ends.Given as goal

abbrev pub invariant-loop-i : goal.invariant-loop-i
invariant-loop-i l = record {
  long : length l.slots.items ≡ length l.ends;
  ends : (k : ℕ) → k < l.i → slice_index l.slots.items k ≡ slice_index l.ends (slice_index l.key (suc k));
}
