use Rattle.nf_sample.proofs.Ends.{constraints_apart}
use Rattle.nf_sample.proofs.constraints.constraints_table.Goals as goal

pub begin-requires-clause-own : goal.begin-requires-clause-own
begin-requires-clause-own c = constraints_apart
