use Rattle.std.proofs.Common.{◌∙◌}
use Rattle.nf_table.proofs.CellFacts.{text-test}
use Rattle.nf_table.proofs.reading.is_text_cell.Goals as goal

pub returns : goal.returns
returns c = c.is_ok.ensures.value ∙ text-test _ _ _ _ c.from_utf8.ensures.cases
