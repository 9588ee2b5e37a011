use Rattle.std.proofs.Common.{◌≤◌, slice_index}
use Rattle.nf_view.specs.Order.{HasChildren}
use Rattle.nf_view.proofs.subtrees.link_children.Given as goal

abbrev pub invariant-loop-w : goal.invariant-loop-w
invariant-loop-w l = record {
  within : l.w ≤ l.n;
  children : HasChildren l.n (slice_index l.pred) l.first.items l.sibling.items l.w;
}

abbrev pub decreases-loop-w : goal.decreases-loop-w
decreases-loop-w l = l.w
