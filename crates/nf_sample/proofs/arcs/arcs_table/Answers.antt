use Rattle.nf_sample.proofs.Ends.{arcs_apart}
use Rattle.nf_sample.proofs.arcs.arcs_table.Goals as goal

pub begin-requires-clause-own : goal.begin-requires-clause-own
begin-requires-clause-own c = arcs_apart
