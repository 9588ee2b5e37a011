use Rattle.std.proofs.Common.{◌≡◌, ◌+◌, None, length, map}
use Rattle.nf_roles.specs.First.{first_below}
use Rattle.nf_cons.specs.Dense.{Dense, dense_row, row_fault_at}
use Rattle.nf_cons.specs.Passing.{IsAfterRows}
use Rattle.nf_cons.specs.Places.{in_row}
use Rattle.nf_cons.specs.Types.{default_type}
use Rattle.nf_cons.proofs.dense_data.read_rows.Given as goal

abbrev pub invariant-loop-i : goal.invariant-loop-i
invariant-loop-i l =
    let d : Dense = record {
      columns = l.roles.variables;
      variables = l.fn.header.numbers.items;
      arcs = l.fn.header.variables.arcs.count;
      default = default_type l.options.defcontype;
      rows = map (dense_row l.roles) l.table.rows;
    } in
    IsAfterRows d l.i l.rows
    × (first_below l.i (λ k. in_row (k + 1) (row_fault_at d k)) ≡ None)
    × (l.i-end ≡ length l.table.rows)
    × (l.rows.numbers ≡ l.fn.header.numbers.items) × (l.rows.default ≡ default_type l.options.defcontype) × (l.rows.variables ≡ l.fn.header.variables)
