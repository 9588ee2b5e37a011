use Rattle.std.proofs.Common.{◌≡◌, length, map, take}
use Rattle.nf_cons.specs.Constrained.{side_row, with_rows}
use Rattle.nf_cons.specs.Making.{before}
use Rattle.nf_cons.proofs.making.add_sides.Given as goal

abbrev pub invariant-loop-k : goal.invariant-loop-k
invariant-loop-k l =
    (l.builder ≡ with_rows l.initial.builder (map side_row (take l.k l.constraints.sides.items)))
    × (l.before ≡ before l.k 0 (length l.initial.builder.rows))
    × (l.k-end ≡ length l.constraints.sides.items)
