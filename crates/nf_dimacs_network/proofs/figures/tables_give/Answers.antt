use Rattle.nf_dimacs_network.proofs.FigureFacts.{give-columns, give-nodes}
use Rattle.nf_dimacs_network.proofs.figures.tables_give.Goals as goal

pub returns-clause-columns : goal.returns-clause-columns
returns-clause-columns c = give-columns

pub returns-clause-nodes : goal.returns-clause-nodes
returns-clause-nodes c = give-nodes
