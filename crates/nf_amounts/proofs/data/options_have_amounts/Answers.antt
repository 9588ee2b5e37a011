use Rattle.nf_amounts.proofs.Options.{options_have_amounts}
use Rattle.nf_amounts.proofs.data.options_have_amounts.Goals as goal

pub returns : goal.returns
returns c = record { law = options_have_amounts }
