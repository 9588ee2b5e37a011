use Rattle.std.proofs.Common.{◌≡◌, ◌++◌, length, map, take}
use Rattle.nf_cons.specs.Constrained.{side_name}
use Rattle.nf_cons.proofs.making.label_sides.Given as goal

abbrev pub invariant-loop-k : goal.invariant-loop-k
invariant-loop-k l =
    (l.labels ≡ record l.initial.labels { constraints = l.initial.labels.constraints ++ map (side_name l.constraints.names) (take l.k l.constraints.sides.items) })
    × (l.k-end ≡ length l.constraints.sides.items)
