use Rattle.std.proofs.Common.{◌∙◌, sym}
use Rattle.nf_table.proofs.CellFacts.{ascii-text}
use Rattle.nf_table.proofs.reading.is_text.Goals as goal

pub returns-then-is_ascii : goal.returns-then-is_ascii
returns-then-is_ascii c =
    let ascii = rw c.if-is_ascii.true at c.is_ascii.ensures.cases in
    c.if-is_ascii.true ∙ sym (ascii-text c.args.row.now (rw c.as_slice.ensures at ascii))
