use Rattle.std.proofs.Common.{◌≡◌, ◌∙◌, true, false, nat_lt, refl, sym, arith}
use Rattle.nf_cells.specs.Names.{has_name}
use Rattle.nf_cells.specs.Values.{cell_now}
use Rattle.nf_cons.specs.Dense.{row_name}
use Rattle.nf_cons.proofs.DenseFacts.{name-clear, name-repeated}
use Rattle.nf_cons.proofs.NamingFacts.{absent-place, place-tells-there}
use Rattle.nf_cons.proofs.dense_rows.DenseRows.name_row.Goals as goal

pub returns-then-number-before : goal.returns-then-number-before
returns-then-number-before c =
    let name : c.deref.result.now ≡ row_name c.args.row (cell_now c.args.cell) = c.deref.ensures.value ∙ c.in-Ok.ensures.1 in
    let less : nat_lt c.in-Ok-number.number c.len-before.result ≡ true = grind (arith, c.if-number-before.true) in
    let there : has_name (row_name c.args.row (cell_now c.args.cell)) c.self.inside.constraints.names ≡ true =
    sym (place-tells-there (row_name c.args.row (cell_now c.args.cell)) c.self.inside.constraints.names) ∙ (rw (c.in-Ok-number.ensures.place, c.len-before.ensures.length, name) at less) in
    rw (← c.self.view_is, c.at_role-then-number-before.ensures) (name-repeated c.self.inside.constraints.names c.args.row (cell_now c.args.cell) c.in-Ok.ensures.0 there)

pub returns : goal.returns
returns c =
    let name : c.deref.result.now ≡ row_name c.args.row (cell_now c.args.cell) = c.deref.ensures.value ∙ c.in-Ok.ensures.1 in
    let more : nat_lt c.in-Ok-number.number c.len-before.result ≡ false = grind (arith, c.if-number-before.false) in
    let absent : has_name (row_name c.args.row (cell_now c.args.cell)) c.self.inside.constraints.names ≡ false =
    sym (place-tells-there (row_name c.args.row (cell_now c.args.cell)) c.self.inside.constraints.names) ∙ (rw (c.in-Ok-number.ensures.place, c.len-before.ensures.length, name) at more) in
    let end = absent-place (row_name c.args.row (cell_now c.args.cell)) c.self.inside.constraints.names absent in
    let number = c.in-Ok-number.ensures.place ∙ (rw name end) in
    let names = (rw (name, absent) at c.in-Ok-number.ensures.names) in
    rw (← c.self.view_is, names) (name-clear c.self.inside.constraints.names c.args.row (cell_now c.args.cell) c.in-Ok.ensures.0 absent, number, refl)
