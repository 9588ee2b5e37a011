use Rattle.nf_model.proofs.Duality.{best_is_best}
use Rattle.nf_model.proofs.valid_best_is_best.Goals as goal

pub returns : goal.returns
returns c = record { law = best_is_best }
