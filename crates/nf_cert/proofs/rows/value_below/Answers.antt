use Rattle.std.proofs.Common.{◌≡◌, ◌<◌, ◌+◌, ◌∷◌, [], length, get_or, true, false, ap, ◌∙◌, arith}
use Rattle.nf_cells.specs.Cells.{value_of}
use Rattle.nf_cert.specs.Items.{CertRow, cert_row, is_of}
use Rattle.nf_cert.proofs.RowFacts.{row-there, other-row, due-row, told}
use Rattle.nf_cert.proofs.rows.value_below.Goals as goal

pub returns-then-not-is_told : goal.returns-then-not-is_told
returns-then-not-is_told c =
    let r : CertRow = cert_row c.args.at (get_or (c.args.table.now.header ∷ c.args.table.now.rows) (c.args.above + 1) []) in
    let below : c.args.above < length c.args.table.now.rows = omega (arith, c.rows.ensures) in
    let test : is_of c.args.due r ≡ false = told c.args.due r _ _ _ (c.trimmed-name.ensures.value ∙ ap value_of c.cell.ensures) (c.trimmed-number.ensures.value ∙ ap value_of c.cell-2.ensures) c.is_told.ensures ∙ c.if-not-is_told.true in
    other-row _ c.args.above c.args.due r (row-there c.args.at c.args.table.now.header c.args.table.now.rows c.args.above below) test

pub returns : goal.returns
returns c =
    let r : CertRow = cert_row c.args.at (get_or (c.args.table.now.header ∷ c.args.table.now.rows) (c.args.above + 1) []) in
    let below : c.args.above < length c.args.table.now.rows = omega (arith, c.rows.ensures) in
    let test : is_of c.args.due r ≡ true = told c.args.due r _ _ _ (c.trimmed-name.ensures.value ∙ ap value_of c.cell.ensures) (c.trimmed-number.ensures.value ∙ ap value_of c.cell-2.ensures) c.is_told.ensures ∙ c.if-not-is_told.false in
    rw (c.trimmed.ensures.value, c.cell-3.ensures) (due-row _ c.args.above c.args.due r (row-there c.args.at c.args.table.now.header c.args.table.now.rows c.args.above below) test)
