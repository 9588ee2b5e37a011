use Rattle.std.proofs.Common.{◌≡◌, None, length, map, take}
use Rattle.nf_roles.specs.First.{first_below}
use Rattle.nf_cons.specs.Dense.{column_fault_at, mentions}
use Rattle.nf_cons.specs.Passing.{AreNamed}
use Rattle.nf_cons.specs.Places.{in_row}
use Rattle.nf_cons.specs.Variables.{arcs_of, names_in, number_in}
use Rattle.nf_cons.proofs.header.read_header.Given as goal

abbrev pub invariant-loop-i : goal.invariant-loop-i
invariant-loop-i l =
    AreNamed (arcs_of l.labels) (take l.i (mentions l.roles l.table.header)) l.header.variables
    × (l.seen ≡ names_in (take l.i (mentions l.roles l.table.header)))
    × (l.header.numbers.items ≡ map (λ m. number_in (arcs_of l.labels) (mentions l.roles l.table.header) m.variable) (take l.i (mentions l.roles l.table.header)))
    × (first_below l.i (λ k. in_row 0 (column_fault_at (arcs_of l.labels) (mentions l.roles l.table.header) k)) ≡ None)
    × (l.i-end ≡ length l.roles.variables)
