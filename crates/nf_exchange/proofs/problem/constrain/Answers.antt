use Rattle.std.proofs.Common.{ap, refl}
use Rattle.nf_top.specs.ProblemOf.{in_data}
use Rattle.nf_exchange.proofs.StopFacts.{data-stop}
use Rattle.nf_exchange.proofs.problem.constrain.Goals as goal

pub returns-in-Ok-clause-ok : goal.returns-in-Ok-clause-ok
returns-in-Ok-clause-ok c = (_, ap in_data c.in-Ok.ensures.answer, refl)

pub returns-in-Err-clause-stops : goal.returns-in-Err-clause-stops
returns-in-Err-clause-stops c = rw c.stop_of_data.ensures (data-stop _ c.in-Err.fault c.in-Err.ensures.answer)
