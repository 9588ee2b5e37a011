use Rattle.std.proofs.Common.{sym}
use Rattle.nf_table.proofs.CutFacts.{length-cut}
use Rattle.nf_table.proofs.table.Table.rows.Goals as goal

pub returns : goal.returns
returns c = rw (← c.self.view_is) (sym (length-cut c.self.inside.rows _ _))
