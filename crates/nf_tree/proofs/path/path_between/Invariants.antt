use Rattle.std.proofs.Common.{◌+◌, ◌*◌, ◌≤◌, slice_index}
use Rattle.nf_tree.specs.Links.{IsMidway}
use Rattle.nf_tree.proofs.path.path_between.Given as goal

abbrev pub invariant-loop-u : goal.invariant-loop-u
invariant-loop-u g l = record {
  cost : l.steps + 3 * (slice_index l.links.depth l.u + slice_index l.links.depth l.v) ≤ l.fn.steps + 3 * (slice_index l.links.depth l.from + slice_index l.links.depth l.to);
  midway : IsMidway l.p l.state.standing l.slots l.links l.from l.to l.u l.v l.out;
}

abbrev pub decreases-loop-u : goal.decreases-loop-u
decreases-loop-u g l = slice_index l.links.depth l.u + slice_index l.links.depth l.v
