use Rattle.nf_dimacs_network.proofs.ProblemFacts.{the-problem}
use Rattle.nf_dimacs_network.proofs.problem.tables_are_the_problem.Goals as goal

pub returns : goal.returns
returns c = record { problem = the-problem }
