use Rattle.std.proofs.Common.{◌≡◌, ◌≤◌, suc, length, slice_index}
use Rattle.nf_view.specs.Sizes.{AreSummed}
use Rattle.nf_view.proofs.subtrees.subtree_sizes.Given as goal

abbrev pub invariant-loop-k : goal.invariant-loop-k
invariant-loop-k l = record {
  within : l.k ≤ l.n;
  room : length l.size.items ≡ suc l.n;
  summed : AreSummed l.n (slice_index l.pred) (slice_index l.order) (slice_index l.size.items) l.k;
}

abbrev pub decreases-loop-k : goal.decreases-loop-k
decreases-loop-k l = l.k
