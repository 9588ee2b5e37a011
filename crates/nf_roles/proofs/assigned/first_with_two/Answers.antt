use Rattle.std.proofs.Common.{◌∙◌, length, sym, arith}
use Rattle.nf_roles.specs.Assigned.{has_two}
use Rattle.nf_roles.specs.First.{number_if}
use Rattle.nf_roles.proofs.Lists.{none-yet, with-found, with-none}
use Rattle.nf_roles.proofs.assigned.first_with_two.Goals as goal

pub loop-column-init : goal.loop-column-init
loop-column-init c = (c.width-column-end.ensures.width, omega arith, none-yet (number_if (has_two c.args.set c.args.table.now.header c.args.names.now)))

pub returns-then-branch-clause-first : goal.returns-then-branch-clause-first
returns-then-branch-clause-first c =
    let inv = c.loop-column.invariant in
    sym (with-found (length c.args.table.now.header) c.loop-column.column (has_two c.args.set c.args.table.now.header c.args.names.now) inv.2 (sym c.in_ok-has_two.ensures ∙ c.if-branch.true) (omega (arith, inv.0, c.loop-column-test.true)))

pub loop-column-preserved : goal.loop-column-preserved
loop-column-preserved c =
    let inv = c.loop-column.invariant in
    (inv.0, omega (arith, c.loop-column-test.true), with-none c.loop-column.column (has_two c.args.set c.args.table.now.header c.args.names.now) inv.2 (sym c.in_ok-has_two.ensures ∙ c.if-branch.false))
