use Rattle.std.proofs.Common.{◌≡◌, ◌+◌, None, length}
use Rattle.nf_roles.specs.First.{first_below}
use Rattle.nf_cons.specs.Places.{in_row}
use Rattle.nf_cons_sparse.specs.TypedState.{typed_fault_to, typed_to}
use Rattle.nf_cons_sparse.proofs.sparse_data.type_lines.Given as goal

abbrev pub invariant-loop-i : goal.invariant-loop-i
invariant-loop-i l =
    (l.typed ≡ typed_to l.fn.lines l.i)
    × (first_below l.i (λ k. in_row (k + 1) (typed_fault_to l.fn.lines k)) ≡ None)
    × (l.i-end ≡ length l.fn.lines.taken)
