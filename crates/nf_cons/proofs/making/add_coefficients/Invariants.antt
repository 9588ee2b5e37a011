use Rattle.std.proofs.Common.{◌≡◌, length, take}
use Rattle.nf_cons.specs.Making.{with_entries_of}
use Rattle.nf_cons.proofs.making.add_coefficients.Given as goal

abbrev pub invariant-loop-k : goal.invariant-loop-k
invariant-loop-k l =
    (l.builder ≡ with_entries_of l.constraints.variables.arcs.count l.columns l.rows l.initial.builder (take l.k l.constraints.terms.coefficients))
    × (l.k-end ≡ length l.constraints.terms.coefficients)
    × (l.arcs ≡ l.constraints.variables.arcs.count)
