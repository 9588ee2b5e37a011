use Rattle.std.proofs.Common.{◌≡◌, ℕ, ◌<◌, length, slice_index}
use Rattle.nf_view.proofs.parts.each_alone.Given as goal

abbrev pub invariant-loop-v : goal.invariant-loop-v
invariant-loop-v l = record {
  room : length l.above.items ≡ l.v;
  alone : (k : ℕ) → k < l.v → slice_index l.above.items k ≡ k;
}
