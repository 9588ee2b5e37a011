use Rattle.nf_table.proofs.MakeFacts.{cell-kept, cell-seen}
use Rattle.nf_table.proofs.table.Table.push_cell.Goals as goal

pub invariant_of-self : goal.invariant_of-self
invariant_of-self c = cell-kept c.self.inside c.push_field.new.self c.args.cell.now c.self.invariant c.if-self.false c.requires.text c.in-Ok.ensures.fields c.in-Ok.ensures.partial

pub returns-in-Ok-clause-added : goal.returns-in-Ok-clause-added
returns-in-Ok-clause-added c = rw (← c.self.view_is) (cell-seen c.self.inside c.push_field.new.self c.args.cell.now c.self.invariant c.if-self.false c.in-Ok.ensures.fields)
