use Rattle.std.proofs.Common.{◌≡◌, take}
use Rattle.nf_cons.specs.ArcList.{AreArcs}
use Rattle.nf_cons.proofs.arcs.arc_names.Given as goal

abbrev pub invariant-loop-k : goal.invariant-loop-k
invariant-loop-k l = AreArcs (take l.k l.labels.columns) l.arcs × (l.k-end ≡ l.labels.own_arcs)
