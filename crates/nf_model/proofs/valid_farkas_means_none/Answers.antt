use Rattle.nf_model.proofs.Farkas.{farkas_none}
use Rattle.nf_model.proofs.valid_farkas_means_none.Goals as goal

pub returns : goal.returns
returns c = record { law = farkas_none }
