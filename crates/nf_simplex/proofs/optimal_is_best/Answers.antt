use Rattle.nf_simplex.proofs.Verdicts.{optimal_verdict}
use Rattle.nf_simplex.proofs.optimal_is_best.Goals as goal

pub returns : goal.returns
returns c = record { law = optimal_verdict }
