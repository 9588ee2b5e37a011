use Rattle.std.proofs.Common.{subst}
use Rattle.nf_network.proofs.PassFacts.{map-length}
use Rattle.nf_cons.specs.Places.{IsRowFaultOf}
use Rattle.nf_cons.specs.Variables.{arcs_of}
use Rattle.nf_cons.proofs.FaultFacts.{left-row, right-row}
use Rattle.nf_cons_sparse.specs.Sparse.{first_line_fault, first_typed_fault, sparse_line}
use Rattle.nf_cons_sparse.specs.SparseDue.{sparse_of}
use Rattle.nf_cons_sparse.proofs.WholeLines.{bounds-told, ranked-of, typed-same, whole}
use Rattle.nf_cons_sparse.proofs.sparse_data.read_sparse.Goals as goal

pub type_lines-requires : goal.type_lines-requires
type_lines-requires c =
    let s = sparse_of c.args.options.now (arcs_of c.args.labels.now) c.args.roles.now c.args.table.now in
    let size = map-length (sparse_line c.args.roles.now) c.args.table.now.rows in
    record { ranked = ranked-of s c.in-Ok.lines (rw size c.in-Ok.ensures.1) (rw size c.in-Ok.ensures.2) }

pub returns-in-Err-type_lines : goal.returns-in-Err-type_lines
returns-in-Err-type_lines c =
    let s = sparse_of c.args.options.now (arcs_of c.args.labels.now) c.args.roles.now c.args.table.now in
    let size = map-length (sparse_line c.args.roles.now) c.args.table.now.rows in
    let fault = subst (λ o. IsRowFaultOf o c.in-Err-type_lines.fault) (typed-same s c.in-Ok.lines (rw size c.in-Ok.ensures.1)) c.in-Err-type_lines.ensures in
    right-row (first_line_fault s) _ c.in-Err-type_lines.fault c.in-Ok.ensures.0 (left-row (first_typed_fault s) _ c.in-Err-type_lines.fault fault)

pub returns-in-Ok-check_bounds : goal.returns-in-Ok-check_bounds
returns-in-Ok-check_bounds c =
    let size = map-length (sparse_line c.args.roles.now) c.args.table.now.rows in
    let t = c.in-Ok-type_lines.ensures in
    whole c.args.options.now (arcs_of c.args.labels.now) c.args.roles.now c.args.table.now c.in-Ok.lines (rw size c.in-Ok.ensures.1) c.in-Ok.ensures.0 t.0
    c.in-Ok-type_lines.constraints.variables _ _ _ t.1 t.2 t.3 t.4 (rw c.nonarc_defaults.ensures at c.in-Ok-check_bounds.ensures)

pub returns-in-Err-check_bounds : goal.returns-in-Err-check_bounds
returns-in-Err-check_bounds c =
    let size = map-length (sparse_line c.args.roles.now) c.args.table.now.rows in
    let t = c.in-Ok-type_lines.ensures in
    bounds-told c.args.options.now (arcs_of c.args.labels.now) c.args.roles.now c.args.table.now c.in-Ok.lines (rw size c.in-Ok.ensures.1) c.in-Ok.ensures.0 t.0
    c.in-Ok-type_lines.constraints.variables _ t.1 t.4 c.in-Err-check_bounds.fault (rw c.nonarc_defaults.ensures at c.in-Err-check_bounds.ensures)
