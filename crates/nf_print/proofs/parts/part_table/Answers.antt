use Rattle.nf_print.proofs.PartFacts.{part-is}
use Rattle.nf_print.proofs.parts.part_table.Goals as goal

pub returns-in-Arcs : goal.returns-in-Arcs
returns-in-Arcs c = part-is c.args.p.now c.args.labels.now c.args.state.now.standing c.args.arcs.now c.args.rows.now c.arcs_table.result c.args.full c.args.part _ c.in-Arcs.is (c.arcs_table.ensures c.args.rows.now)

pub returns-in-Nonarcs : goal.returns-in-Nonarcs
returns-in-Nonarcs c = part-is c.args.p.now c.args.labels.now c.args.state.now.standing c.args.arcs.now c.args.rows.now c.nonarcs_table.result c.args.full c.args.part _ c.in-Nonarcs.is (c.nonarcs_table.ensures c.args.rows.now)

pub returns-in-Nodes : goal.returns-in-Nodes
returns-in-Nodes c = part-is c.args.p.now c.args.labels.now c.args.state.now.standing c.args.arcs.now c.args.rows.now c.nodes_table.result c.args.full c.args.part _ c.in-Nodes.is (c.nodes_table.ensures c.args.arcs.now)

pub returns-in-Constraints : goal.returns-in-Constraints
returns-in-Constraints c = part-is c.args.p.now c.args.labels.now c.args.state.now.standing c.args.arcs.now c.args.rows.now c.constraints_table.result c.args.full c.args.part _ c.in-Constraints.is (c.constraints_table.ensures c.args.arcs.now)
