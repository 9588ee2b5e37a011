use Rattle.std.proofs.Common.{◌≡◌, ◌≤◌, None, length}
use Rattle.nf_roles.specs.First.{first_below}
use Rattle.nf_cons.specs.Dense.{cell_fault_at, given_before, most_coefficients}
use Rattle.nf_cons.specs.Passing.{dense_now, state_before}
use Rattle.nf_cons.proofs.dense_rows.DenseRows.take_cells.Given as goal

abbrev pub invariant-loop-i : goal.invariant-loop-i
invariant-loop-i l =
    (l.self ≡ state_before l.initial.self (dense_now l.roles l.table l.initial.self) l.k l.i)
    × (length (given_before (dense_now l.roles l.table l.initial.self) l.k l.i) ≤ most_coefficients)
    × (first_below l.i (cell_fault_at (dense_now l.roles l.table l.initial.self) l.k) ≡ None)
    × (l.i-end ≡ length l.initial.self.numbers)
