use Rattle.nf_program.specs.declared.program.SetName.TheVariants as set
use Rattle.nf_network.specs.Faults.{first_arc_fault}
use Rattle.nf_network.specs.Rows.{arc_rows}
use Rattle.nf_network.proofs.ReadFacts.{told}
use Rattle.nf_network.proofs.data_sets.read_arc_data.Goals as goal

pub returns-in-Err : goal.returns-in-Err
returns-in-Err c =
    told set.Arcdata c.args.roles.now c.args.table.now.header c.in-Err.e.row c.in-Err.e.fault _ (first_arc_fault c.args.defaults.now (arc_rows c.args.roles.now c.args.table.now.rows)) c.in-Err.ensures c.in_row.ensures.fault c.in_row.ensures.memory
