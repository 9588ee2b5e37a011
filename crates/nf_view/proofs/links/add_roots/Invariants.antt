use Rattle.std.proofs.Common.{◌≡◌, ◌++◌}
use Rattle.std.specs.List.{All}
use Rattle.nf_view.specs.Keys.{basic_roots}
use Rattle.nf_view.specs.Parts.{IsBetween}
use Rattle.nf_view.proofs.links.add_roots.Given as goal

abbrev pub invariant-loop-i : goal.invariant-loop-i
invariant-loop-i l = record {
  same : l.links.items ≡ l.fn.links.items ++ basic_roots l.p l.state.standing l.i;
  between : All (IsBetween l.p.nodes) l.links.items;
}
