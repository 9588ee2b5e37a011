use Rattle.nf_simplex.proofs.Verdicts.{unbounded_verdict}
use Rattle.nf_simplex.proofs.unbounded_has_ray.Goals as goal

pub returns : goal.returns
returns c = record { law = unbounded_verdict }
