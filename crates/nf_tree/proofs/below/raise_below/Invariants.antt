use Rattle.std.proofs.Common.{◌≡◌, ℕ, ◌+◌, ◌*◌, ◌<◌, ◌≤◌, length, slice_index}
use Rattle.nf_tree.proofs.Subtrees.{IsRaised, IsAfter}
use Rattle.nf_tree.proofs.below.raise_below.Given as goal

abbrev pub invariant-loop-k : goal.invariant-loop-k
invariant-loop-k g l = record {
  cost : l.steps ≤ l.fn.steps + 3 * l.k;
  long : length l.out ≡ l.p.nodes;
  some : 0 < l.k;
  node : l.u ≤ l.p.nodes;
  raised : (a : ℕ) → 0 < a → a ≤ l.p.nodes → slice_index l.order a ≡ l.top → IsRaised l.p.nodes (slice_index l.order) (slice_index l.links.depth) a l.k l.number l.fn.out l.out;
  after : (a : ℕ) → 0 < a → a ≤ l.p.nodes → slice_index l.order a ≡ l.top → IsAfter l.p.nodes (slice_index l.order) a l.k l.u;
}
