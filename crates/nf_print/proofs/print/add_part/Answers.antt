use Rattle.nf_print.proofs.PartFacts.{written-at}
use Rattle.nf_print.proofs.print.add_part.Goals as goal

pub write_table-requires-clause-header : goal.write_table-requires-clause-header
write_table-requires-clause-header c = (written-at c.args.p.now c.args.labels.now c.args.state.now.standing c.args.arcs.now c.args.rows.now c.in_ok-table.table c.args.full c.args.part c.in_ok-table.ensures).header

pub write_table-requires-clause-no_mark : goal.write_table-requires-clause-no_mark
write_table-requires-clause-no_mark c = (written-at c.args.p.now c.args.labels.now c.args.state.now.standing c.args.arcs.now c.args.rows.now c.in_ok-table.table c.args.full c.args.part c.in_ok-table.ensures).no_mark

pub write_table-requires-clause-hand : goal.write_table-requires-clause-hand
write_table-requires-clause-hand c = (written-at c.args.p.now c.args.labels.now c.args.state.now.standing c.args.arcs.now c.args.rows.now c.in_ok-table.table c.args.full c.args.part c.in_ok-table.ensures).hand
