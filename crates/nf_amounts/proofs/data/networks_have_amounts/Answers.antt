use Rattle.nf_amounts.proofs.Networks.{networks_have_amounts, networks_have_one_stage}
use Rattle.nf_amounts.proofs.data.networks_have_amounts.Goals as goal

pub returns : goal.returns
returns c = record { law = networks_have_amounts; one_stage = networks_have_one_stage }
