use Rattle.std.proofs.Common.{◌≡◌, None, map, take}
use Rattle.nf_roles.specs.First.{first_row_fault}
use Rattle.nf_network.specs.NodeData.{node_fault_at, node_name}
use Rattle.nf_network.specs.NodePass.{IsRead}
use Rattle.nf_network.specs.Rows.{arc_rows, node_rows}
use Rattle.nf_network.proofs.data_sets.read_both.Given as goal

abbrev pub invariant-loop-i : goal.invariant-loop-i
invariant-loop-i l =
    IsRead l.defaults (arc_rows l.arc_roles l.arc_table.rows) (take l.i (node_rows l.node_roles l.node_table.rows)) l.arcs.nodes l.arcs.keys l.arcs.figures.items
    × (l.seen ≡ map node_name (take l.i (node_rows l.node_roles l.node_table.rows)))
    × (first_row_fault l.i (node_fault_at (arc_rows l.arc_roles l.arc_table.rows) (node_rows l.node_roles l.node_table.rows)) ≡ None)
