use Rattle.nf_exchange.proofs.StopFacts.{roles-stop}
use Rattle.nf_exchange.proofs.problem.roles_in.Goals as goal

pub returns-in-Err-clause-stops : goal.returns-in-Err-clause-stops
returns-in-Err-clause-stops c = rw c.stop_of_roles.ensures (roles-stop c.args.set c.assign.result _ c.in-Err.fault c.in-Err.is c.assign.ensures.answer)
