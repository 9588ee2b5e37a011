use Rattle.nf_saved.proofs.ReadFacts.{saved_are_read}
use Rattle.nf_saved.proofs.saved_tables_are_read.Goals as goal

-- src/lib.rt:18:1
pub returns : goal.returns
returns c = record { law = saved_are_read }
