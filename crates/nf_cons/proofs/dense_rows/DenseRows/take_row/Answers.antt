use Rattle.std.proofs.Common.{◌≡◌, ◌+◌, ◌∙◌, None, sym, ap}
use Rattle.nf_cells.specs.Values.{amount_in, cell_now, name_in}
use Rattle.nf_cons.specs.Dense.{name_faults, names, row_at, type_at}
use Rattle.nf_cons.specs.Passing.{dense_now}
use Rattle.nf_cons.specs.Places.{first_of}
use Rattle.nf_cons.specs.Types.{type_in}
use Rattle.nf_cons.proofs.DenseFacts.{row-cells, row-clear, row-is, row-name, row-next, row-right, row-type}
use Rattle.nf_cons.proofs.dense_rows.DenseRows.take_row.Goals as goal

pub returns-in-Err : goal.returns-in-Err
returns-in-Err c =
    let d = dense_now c.args.roles.now c.args.table.now c.args.self.now in
    let row = row-is c.args.roles.now c.args.table.now c.args.self.now c.args.k c.requires.row in
    let name : cell_now c.name_cell.result ≡ (row_at d c.args.k).name = c.name_cell.ensures.said ∙ ap name_in c.cell.ensures.cell ∙ sym (ap (λ r. r.name) row) in
    row-name d c.args.k c.in-Err.fault (rw (c.requires.after.names_are, name) at c.in-Err.ensures)

pub returns-in-Err-type_row : goal.returns-in-Err-type_row
returns-in-Err-type_row c =
    let d = dense_now c.args.roles.now c.args.table.now c.args.self.now in
    let row = row-is c.args.roles.now c.args.table.now c.args.self.now c.args.k c.requires.row in
    let name : cell_now c.name_cell.result ≡ (row_at d c.args.k).name = c.name_cell.ensures.said ∙ ap name_in c.cell.ensures.cell ∙ sym (ap (λ r. r.name) row) in
    let named : first_of (name_faults (names d c.args.k) (c.args.k + 1) (row_at d c.args.k).name) ≡ None = rw (c.requires.after.names_are, name) at c.in-Ok.ensures.0 in
    let typed : c.type_cell.result ≡ (row_at d c.args.k).row_type = c.type_cell.ensures ∙ ap type_in c.cell-2.ensures.cell ∙ sym (ap (λ r. r.row_type) row) in
    row-type d c.args.k named c.in-Err-type_row.fault (rw (c.in-Ok.ensures.2, c.requires.after.sides_are, typed) at c.in-Err-type_row.ensures)

pub returns-in-Err-right_side : goal.returns-in-Err-right_side
returns-in-Err-right_side c =
    let d = dense_now c.args.roles.now c.args.table.now c.args.self.now in
    let row = row-is c.args.roles.now c.args.table.now c.args.self.now c.args.k c.requires.row in
    let name : cell_now c.name_cell.result ≡ (row_at d c.args.k).name = c.name_cell.ensures.said ∙ ap name_in c.cell.ensures.cell ∙ sym (ap (λ r. r.name) row) in
    let named : first_of (name_faults (names d c.args.k) (c.args.k + 1) (row_at d c.args.k).name) ≡ None = rw (c.requires.after.names_are, name) at c.in-Ok.ensures.0 in
    let typed : c.type_cell.result ≡ (row_at d c.args.k).row_type = c.type_cell.ensures ∙ ap type_in c.cell-2.ensures.cell ∙ sym (ap (λ r. r.row_type) row) in
    let types = rw (c.in-Ok.ensures.2, c.requires.after.sides_are, typed) at c.in-Ok-type_row.ensures.0 in
    let right : c.amount_cell.result ≡ (row_at d c.args.k).right = c.amount_cell.ensures.said ∙ ap amount_in c.cell-3.ensures.cell ∙ sym (ap (λ r. r.right) row) in
    row-right d c.args.k named types c.in-Err-right_side.fault (rw right at c.in-Err-right_side.ensures)

pub take_cells-requires-clause-row_type : goal.take_cells-requires-clause-row_type
take_cells-requires-clause-row_type c =
    let d = dense_now c.args.roles.now c.args.table.now c.args.self.now in
    let row = row-is c.args.roles.now c.args.table.now c.args.self.now c.args.k c.requires.row in
    let typed : c.type_cell.result ≡ (row_at d c.args.k).row_type = c.type_cell.ensures ∙ ap type_in c.cell-2.ensures.cell ∙ sym (ap (λ r. r.row_type) row) in
    rw c.in-Ok.ensures.2 (rw (c.in-Ok.ensures.2, typed) at c.in-Ok-type_row.ensures.1)

pub returns-in-Err-take_cells : goal.returns-in-Err-take_cells
returns-in-Err-take_cells c =
    let d = dense_now c.args.roles.now c.args.table.now c.args.self.now in
    let row = row-is c.args.roles.now c.args.table.now c.args.self.now c.args.k c.requires.row in
    let name : cell_now c.name_cell.result ≡ (row_at d c.args.k).name = c.name_cell.ensures.said ∙ ap name_in c.cell.ensures.cell ∙ sym (ap (λ r. r.name) row) in
    let named : first_of (name_faults (names d c.args.k) (c.args.k + 1) (row_at d c.args.k).name) ≡ None = rw (c.requires.after.names_are, name) at c.in-Ok.ensures.0 in
    let typed : c.type_cell.result ≡ (row_at d c.args.k).row_type = c.type_cell.ensures ∙ ap type_in c.cell-2.ensures.cell ∙ sym (ap (λ r. r.row_type) row) in
    let types = rw (c.in-Ok.ensures.2, c.requires.after.sides_are, typed) at c.in-Ok-type_row.ensures.0 in
    let right : c.amount_cell.result ≡ (row_at d c.args.k).right = c.amount_cell.ensures.said ∙ ap amount_in c.cell-3.ensures.cell ∙ sym (ap (λ r. r.right) row) in
    let rights = rw right at c.in-Ok-right_side.ensures.0 in
    row-cells d c.args.k named types rights c.in-Err-take_cells.fault (rw c.in-Ok.ensures.2 at c.in-Err-take_cells.ensures)

pub returns-in-Ok-add_side : goal.returns-in-Ok-add_side
returns-in-Ok-add_side c =
    let d = dense_now c.args.roles.now c.args.table.now c.args.self.now in
    let row = row-is c.args.roles.now c.args.table.now c.args.self.now c.args.k c.requires.row in
    let name : cell_now c.name_cell.result ≡ (row_at d c.args.k).name = c.name_cell.ensures.said ∙ ap name_in c.cell.ensures.cell ∙ sym (ap (λ r. r.name) row) in
    let named : first_of (name_faults (names d c.args.k) (c.args.k + 1) (row_at d c.args.k).name) ≡ None = rw (c.requires.after.names_are, name) at c.in-Ok.ensures.0 in
    let typed : c.type_cell.result ≡ (row_at d c.args.k).row_type = c.type_cell.ensures ∙ ap type_in c.cell-2.ensures.cell ∙ sym (ap (λ r. r.row_type) row) in
    let types = rw (c.in-Ok.ensures.2, c.requires.after.sides_are, typed) at c.in-Ok-type_row.ensures.0 in
    let type : c.in-Ok-type_row.row_type ≡ type_at d c.args.k = rw (c.in-Ok.ensures.2, typed) at c.in-Ok-type_row.ensures.1 in
    let right : c.amount_cell.result ≡ (row_at d c.args.k).right = c.amount_cell.ensures.said ∙ ap amount_in c.cell-3.ensures.cell ∙ sym (ap (λ r. r.right) row) in
    let rights = rw right at c.in-Ok-right_side.ensures.0 in
    let cells = rw c.in-Ok.ensures.2 at c.in-Ok-take_cells.ensures in
    let new = (rw (cells.1, type, (rw right at c.in-Ok-right_side.ensures.1), c.in-Ok.ensures.1, name) at c.in-Ok-add_side.ensures) in
    let next = row-next c.args.self.now d c.args.k c.requires.after c.add_side.new.self new (rw cells.1 at cells.2) in
    (row-clear d c.args.k named types rights cells.0, next.0, next.1)
