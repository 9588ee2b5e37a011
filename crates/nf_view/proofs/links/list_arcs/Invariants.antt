use Rattle.std.proofs.Common.{◌≡◌}
use Rattle.std.specs.List.{All}
use Rattle.nf_view.specs.Keys.{basic_arcs}
use Rattle.nf_view.specs.Parts.{IsBetween}
use Rattle.nf_view.proofs.links.list_arcs.Given as goal

abbrev pub invariant-loop-k : goal.invariant-loop-k
invariant-loop-k l = record {
  same : l.links.items ≡ basic_arcs l.p l.state.standing l.k;
  between : All (IsBetween l.p.nodes) l.links.items;
}
