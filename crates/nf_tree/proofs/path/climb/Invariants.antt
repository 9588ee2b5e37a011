use Rattle.std.proofs.Common.{◌≡◌, ◌+◌, ◌≤◌, length, slice_index}
use Rattle.nf_tree.specs.Links.{AreSlotsOf, IsMidway, ListsWeights}
use Rattle.nf_tree.proofs.path.climb.Given as goal

abbrev pub invariant-loop-u : goal.invariant-loop-u
invariant-loop-u g l = record {
  cost : l.steps + slice_index l.links.depth l.u ≤ l.fn.steps + slice_index l.links.depth l.from;
  count : l.count + slice_index l.links.depth l.u ≡ slice_index l.links.depth l.from;
  midway : IsMidway l.p l.state.standing l.slots l.links l.from 0 l.u 0 l.out;
  long : length l.trail ≡ l.p.nodes;
  short : l.count ≤ l.p.nodes;
  within : AreSlotsOf l.p.nodes l.trail l.count;
  listed : ListsWeights l.trail 0 l.count l.out;
}

abbrev pub decreases-loop-u : goal.decreases-loop-u
decreases-loop-u g l = slice_index l.links.depth l.u
