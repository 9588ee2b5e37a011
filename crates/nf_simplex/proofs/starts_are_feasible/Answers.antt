use Rattle.nf_simplex.proofs.Starting.{first_start, second_start}
use Rattle.nf_simplex.proofs.starts_are_feasible.Goals as goal

pub returns : goal.returns
returns c = record { first = first_start; second = second_start }
