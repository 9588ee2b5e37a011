use Rattle.nf_dimacs_network.proofs.RoleFacts.{reserved}
use Rattle.nf_dimacs_network.proofs.RowFacts.{arcs-say, nodes-say}
use Rattle.nf_dimacs_network.proofs.rows.tables_say.Goals as goal

pub returns-clause-roles : goal.returns-clause-roles
returns-clause-roles c = reserved

pub returns-clause-arcs : goal.returns-clause-arcs
returns-clause-arcs c = arcs-say

pub returns-clause-nodes : goal.returns-clause-nodes
returns-clause-nodes c = nodes-say
