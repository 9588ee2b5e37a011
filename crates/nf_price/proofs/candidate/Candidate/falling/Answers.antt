use Rattle.std.proofs.Common.{refl}
use Rattle.nf_num.specs.Rational.{zero_ℚ}
use Rattle.nf_price.proofs.SignFacts.{not_above, positive_magnitude}
use Rattle.nf_price.proofs.candidate.Candidate.falling.Goals as goal

pub returns-in-Less : goal.returns-in-Less
returns-in-Less c = record { above = tt; moves = tt; right = not_above c.args.d c.sign.result c.sign.ensures c.in-Less.is }

pub returns-in-Greater-clause-moves : goal.returns-in-Greater-clause-moves
returns-in-Greater-clause-moves c = record { number = refl; size = positive_magnitude c.args.d zero_ℚ refl c.in-Greater.ensures; down = c.in-Greater.ensures }
