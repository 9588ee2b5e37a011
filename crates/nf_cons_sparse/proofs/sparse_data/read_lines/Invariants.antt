use Rattle.std.proofs.Common.{◌≡◌, ◌+◌, None, length}
use Rattle.nf_roles.specs.First.{first_below}
use Rattle.nf_cons.specs.Places.{in_row}
use Rattle.nf_cons.specs.Variables.{arcs_of}
use Rattle.nf_cons_sparse.specs.LineState.{IsAfterLines}
use Rattle.nf_cons_sparse.specs.Sparse.{line_fault_at}
use Rattle.nf_cons_sparse.specs.SparseDue.{sparse_of}
use Rattle.nf_cons_sparse.proofs.sparse_data.read_lines.Given as goal

abbrev pub invariant-loop-i : goal.invariant-loop-i
invariant-loop-i l =
    IsAfterLines (sparse_of l.options (arcs_of l.labels) l.roles l.table) l.i l.lines
    × (first_below l.i (λ k. in_row (k + 1) (line_fault_at (sparse_of l.options (arcs_of l.labels) l.roles l.table) k)) ≡ None)
    × (l.i-end ≡ length l.table.rows)
