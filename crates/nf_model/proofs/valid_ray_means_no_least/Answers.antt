use Rattle.nf_model.proofs.Ray.{ray_unbounded}
use Rattle.nf_model.proofs.valid_ray_means_no_least.Goals as goal

pub returns : goal.returns
returns c = record { law = ray_unbounded }
