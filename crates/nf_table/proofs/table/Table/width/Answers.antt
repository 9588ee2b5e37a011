use Rattle.std.proofs.Common.{arith}
use Rattle.nf_table.proofs.CutFacts.{even-rows, text-cells}
use Rattle.nf_table.proofs.NameFacts.{own-names}
use Rattle.nf_table.proofs.table.Table.width.Goals as goal

pub returns-clause-even : goal.returns-clause-even
returns-clause-even c = rw (← c.self.view_is) (even-rows c.self.inside.rows c.self.inside.width _ (omega (arith, c.self.invariant.whole)))

pub returns-clause-text : goal.returns-clause-text
returns-clause-text c = rw (← c.self.view_is) (text-cells c.self.inside.rows c.self.inside.width _ c.self.invariant.text)

pub returns-clause-names : goal.returns-clause-names
returns-clause-names c = rw (← c.self.view_is) (own-names _ c.self.invariant.names)
