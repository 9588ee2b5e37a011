use Rattle.std.proofs.Common.{[], length, get_or, sym, arith}
use Rattle.nf_roles.specs.Sets.{is_reserved_for}
use Rattle.nf_roles.specs.First.{number_if}
use Rattle.nf_roles.proofs.Lists.{none-yet, with-found, with-none}
use Rattle.nf_roles.proofs.assigned.reserved_column.Goals as goal

pub loop-column-init : goal.loop-column-init
loop-column-init c = (c.width-column-end.ensures.width, omega arith, none-yet (number_if (λ k. is_reserved_for c.args.role (get_or c.args.table.now.header k []))))

pub returns-then-is_reserved_for-clause-first : goal.returns-then-is_reserved_for-clause-first
returns-then-is_reserved_for-clause-first c =
    let inv = c.loop-column.invariant in
    sym (with-found (length c.args.table.now.header) c.loop-column.column (λ k. is_reserved_for c.args.role (get_or c.args.table.now.header k [])) inv.2 (rw c.cell.ensures at (sym c.if-is_reserved_for.ensures)) (omega (arith, inv.0, c.loop-column-test.true)))

pub loop-column-preserved : goal.loop-column-preserved
loop-column-preserved c =
    let inv = c.loop-column.invariant in
    (inv.0, omega (arith, c.loop-column-test.true), with-none c.loop-column.column (λ k. is_reserved_for c.args.role (get_or c.args.table.now.header k [])) inv.2 (rw c.cell.ensures at (sym c.if-is_reserved_for.ensures)))
