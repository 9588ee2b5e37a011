use Rattle.nf_roles.proofs.Below.{due-below}
use Rattle.nf_roles.proofs.assigned.assign_named.Goals as goal

pub returns-clause-columns : goal.returns-clause-columns
returns-clause-columns c =
    rw c.in_ok-roles.ensures.roles (due-below c.args.set c.args.table.now.header c.args.names.now (rw c.in_ok-roles.ensures.roles at c.in_ok-roles.ensures.few))
