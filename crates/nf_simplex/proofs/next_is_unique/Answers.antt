use Rattle.nf_simplex.proofs.Standings.{next_is_unique}
use Rattle.nf_simplex.proofs.next_is_unique.Goals as goal

pub returns : goal.returns
returns c = record { law = next_is_unique }
