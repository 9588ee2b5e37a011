use Rattle.std.proofs.Common.{◌≡◌, length}
use Rattle.nf_network.specs.Excess.{joined_below}
use Rattle.nf_cons.specs.Bounds.{nonarc_defaults}
use Rattle.nf_cons.specs.Constrained.{nonarc_column_at, with_columns}
use Rattle.nf_cons.specs.Making.{before}
use Rattle.nf_cons.proofs.making.add_nonarcs.Given as goal

abbrev pub invariant-loop-k : goal.invariant-loop-k
invariant-loop-k l =
    (l.builder ≡ with_columns l.initial.builder (joined_below l.k (nonarc_column_at l.options l.constraints.variables.arcs.count l.constraints.terms)))
    × (l.before ≡ before l.k l.constraints.variables.arcs.count (length l.initial.builder.columns))
    × (l.k-end ≡ length l.constraints.variables.nonarcs)
    × (l.defaults ≡ nonarc_defaults l.options)
