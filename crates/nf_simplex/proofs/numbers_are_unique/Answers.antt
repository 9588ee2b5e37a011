use Rattle.nf_simplex.proofs.Standings.{values_are_unique, weights_are_unique, duals_are_unique}
use Rattle.nf_simplex.proofs.numbers_are_unique.Goals as goal

pub returns : goal.returns
returns c = record { values = values_are_unique; weights = weights_are_unique; duals = duals_are_unique }
