use Rattle.std.proofs.Common.{◌≡◌, length}
use Rattle.nf_tree.specs.Links.{ListsWeights}
use Rattle.nf_tree.proofs.path.wipe.Given as goal

abbrev pub invariant-loop-k : goal.invariant-loop-k
invariant-loop-k l = record {
  long : length l.out ≡ length l.fn.out;
  listed : ListsWeights l.trail l.k l.count l.out;
}
