use Rattle.std.proofs.Common.{[], length, get_or}
use Rattle.nf_program.specs.declared.program.Role.TheVariants as role
use Rattle.nf_roles.specs.Assigned.{is_listed}
use Rattle.nf_roles.proofs.Lists.{all-from-left}
use Rattle.nf_roles.proofs.assigned.roles_of_columns.Goals as goal

pub from_columns-requires : goal.from_columns-requires
from_columns-requires c =
    record { from_left = rw c.in_ok-ids.ensures.ids (all-from-left (length c.args.table.now.header) (λ k. is_listed c.args.names.now role.Id (get_or c.args.table.now.header k []))) }
