use Rattle.std.proofs.Common.{◌≡◌, ℕ, suc, ◌+◌, ◌<◌, ◌≤◌, length, slice_index}
use Rattle.nf_tree.proofs.plant.take_names.Given as goal

abbrev pub invariant-loop-i : goal.invariant-loop-i
invariant-loop-i g l = record {
  cost : l.steps ≤ l.fn.steps + l.i;
  long : length l.names.items ≡ length l.fn.names.items;
  names : (k : ℕ) → k < l.i → slice_index l.names.items k ≡ slice_index l.links.arc (suc k);
}
