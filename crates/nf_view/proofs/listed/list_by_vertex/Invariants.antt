use Rattle.nf_view.specs.Walk.{IsListing}
use Rattle.nf_view.proofs.listed.list_by_vertex.Given as goal

abbrev pub invariant-loop-q : goal.invariant-loop-q
invariant-loop-q l = IsListing l.n l.links l.first.items l.next.items l.q
