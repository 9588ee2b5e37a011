use Rattle.nf_simplex.proofs.Standings.{eligible_would_lower, steps_lower}
use Rattle.nf_simplex.proofs.steps_lower.Goals as goal

pub returns : goal.returns
returns c = record { enters = eligible_would_lower; lowers = steps_lower }
