use Rattle.nf_price.proofs.SignFacts.{not_below}
use Rattle.nf_price.proofs.candidate.Candidate.rising.Goals as goal

pub returns-in-Equal : goal.returns-in-Equal
returns-in-Equal c = record { below = tt; moves = tt; right = not_below c.args.d c.sign.result c.sign.ensures c.in-Equal.is }
