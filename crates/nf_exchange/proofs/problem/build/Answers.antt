use Rattle.nf_exchange.proofs.StopFacts.{memory-or-data-stop}
use Rattle.nf_exchange.proofs.problem.build.Goals as goal

pub returns-in-Err-clause-stops : goal.returns-in-Err-clause-stops
returns-in-Err-clause-stops c = rw c.stop_of_data.ensures (memory-or-data-stop _ c.in-Err.fault c.in-Err.ensures.answer)
