use Rattle.nf_simplex.proofs.Verdicts.{infeasible_verdict}
use Rattle.nf_simplex.proofs.infeasible_has_gap.Goals as goal

pub returns : goal.returns
returns c = record { law = infeasible_verdict }
