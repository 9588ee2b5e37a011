use Rattle.nf_cons.specs.Variables.{arcs_of}
use Rattle.nf_cons.proofs.DenseWhole.{table-is, whole}
use Rattle.nf_cons.proofs.dense_data.read_dense.Goals as goal

pub returns-in-Ok-check_bounds : goal.returns-in-Ok-check_bounds
returns-in-Ok-check_bounds c =
    let arcs = arcs_of c.args.labels.now in
    let header = c.in-Ok.ensures in
    let same = table-is c.args.options.now arcs c.args.roles.now c.args.table.now c.in-Ok.header.variables c.in-Ok.header.numbers.items header.1 in
    let rows = rw same at c.in-Ok-read_rows.ensures in
    whole c.args.options.now arcs c.args.roles.now c.args.table.now c.in-Ok.header.variables c.in-Ok.header.numbers.items header.1 header.0 rows.0 c.in-Ok-read_rows.constraints.variables _ _ _ rows.1 rows.2 rows.3 rows.4
    (rw c.nonarc_defaults.ensures at c.in-Ok-check_bounds.ensures)
