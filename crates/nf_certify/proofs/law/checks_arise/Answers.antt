use Rattle.nf_certify.proofs.Arises.{checks_arise}
use Rattle.nf_certify.proofs.law.checks_arise.Goals as goal

pub returns : goal.returns
returns c = record { law = checks_arise }
