use Rattle.std.proofs.Common.{◌≡◌, ℕ, suc, ◌-◌, ◌<◌, ◌≤◌, length, slice_index}
use Rattle.nf_view.specs.Order.{IsThreaded}
use Rattle.nf_view.proofs.subtrees.thread.Given as goal

abbrev pub invariant-loop-k : goal.invariant-loop-k
invariant-loop-k l = record {
  some : 0 < l.k;
  within : l.k ≤ suc l.n;
  afters : length l.after.items ≡ suc l.n;
  nexts : length l.next.items ≡ suc l.n;
  threaded : (i : ℕ) → i < l.k → IsThreaded (slice_index l.pred) (slice_index l.children.first.items) (slice_index l.children.sibling.items) (slice_index l.after.items) (slice_index l.next.items) (slice_index l.order i);
}

abbrev pub decreases-loop-k : goal.decreases-loop-k
decreases-loop-k l = suc l.n - l.k
