use Rattle.std.proofs.Common.{[], get_or, sym, ap, ◌∙◌, arith}
use Rattle.nf_program.specs.declared.program.Role.TheVariants as role
use Rattle.nf_roles.specs.declared.uses.Uses.{Uses}
use Rattle.nf_roles.specs.Assigned.{is_listed}
use Rattle.nf_roles.proofs.Lists.{all-none, all-more, all-short}
use Rattle.nf_roles.proofs.assigned.ids.Goals as goal

pub loop-column-init : goal.loop-column-init
loop-column-init c = (c.width-column-end.ensures.width, omega arith, c.new-ids.ensures.items ∙ sym (all-none (λ k. is_listed c.args.names.now role.Id (get_or c.args.table.now.header k []))))

pub loop-column-preserved : goal.loop-column-preserved
loop-column-preserved c =
    let inv = c.loop-column.invariant in
    (inv.0, omega (arith, c.loop-column-test.true), all-more c.loop-column.column (λ k. is_listed c.args.names.now role.Id (get_or c.args.table.now.header k [])) _ _ _ inv.2 (sym (ap (λ (u : Uses). u.is_id) (rw c.cell.ensures at c.in_ok-uses.ensures))) c.in_ok-push_if.ensures)

pub returns-clause-few : goal.returns-clause-few
returns-clause-few c =
    let inv = c.loop-column.invariant in
    let short = all-short c.loop-column.column (λ k. is_listed c.args.names.now role.Id (get_or c.args.table.now.header k [])) in
    rw inv.2 (omega (arith, short, inv.1, c.loop-column.auto.column-end))
