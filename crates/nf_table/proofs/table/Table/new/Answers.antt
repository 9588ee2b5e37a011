use Rattle.nf_table.proofs.MakeFacts.{none-kept, none-seen}
use Rattle.nf_table.proofs.table.Table.new.Goals as goal

pub invariant_of-result : goal.invariant_of-result
invariant_of-result c = none-kept c.new.result c.new.ensures.fields c.new.ensures.partial

pub returns : goal.returns
returns c = none-seen c.new.result c.new.ensures.fields
