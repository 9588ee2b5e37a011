-- The roles of the columns of both tables.
use Rattle.std.proofs.Common.{◌≡◌, refl, [], Ok}
use Rattle.nf_roles.specs.declared.columns.SetKind.TheVariants.{Arcs, Nodes}
use Rattle.nf_roles.specs.First.{first_below, all_with}
use Rattle.nf_roles.specs.Assigned.{roles_due}
use Rattle.nf_dimacs.specs.Tables.{arcs_header, nodes_header}
use Rattle.nf_dimacs_network.specs.Rows.{arc_roles, node_roles, RolesAreReserved}

pub reserved : RolesAreReserved
unfolding roles_due first_below all_with
reserved = record { arcs = refl; nodes = refl }
