use Rattle.std.proofs.Common.{◌≡◌, ℕ, ◌<◌, length, slice_index}
use Rattle.nf_tree.proofs.plant.copy_ends.Given as goal

abbrev pub invariant-loop-q : goal.invariant-loop-q
invariant-loop-q l = record {
  long : length l.spare.items ≡ length l.ends;
  ends : (i : ℕ) → i < l.q → slice_index l.spare.items i ≡ slice_index l.ends i;
}
