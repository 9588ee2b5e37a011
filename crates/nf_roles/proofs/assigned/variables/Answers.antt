use Rattle.std.proofs.Common.{[], get_or, sym, ◌∙◌, arith}
use Rattle.nf_roles.specs.Assigned.{is_variable}
use Rattle.nf_roles.proofs.Lists.{all-none, all-more}
use Rattle.nf_roles.proofs.assigned.variables.Goals as goal

pub loop-column-init : goal.loop-column-init
loop-column-init c = (c.width-column-end.ensures.width, omega arith, c.new-variables.ensures.items ∙ sym (all-none (λ k. is_variable c.args.set c.args.names.now (get_or c.args.table.now.header k []))))

pub loop-column-preserved : goal.loop-column-preserved
loop-column-preserved c =
    let inv = c.loop-column.invariant in
    (inv.0, omega (arith, c.loop-column-test.true), all-more c.loop-column.column (λ k. is_variable c.args.set c.args.names.now (get_or c.args.table.now.header k [])) _ _ _ inv.2 (rw c.cell.ensures at (sym c.in_ok-is_there.ensures)) c.in_ok-push_if.ensures)
