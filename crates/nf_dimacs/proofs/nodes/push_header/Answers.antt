use Rattle.std.proofs.Common.{arith, rules}
use Rattle.nf_dimacs.specs.Tables.{nodes_header}
use Rattle.nf_dimacs.proofs.TableFacts.{may-end, nodes-apart}
use Rattle.nf_dimacs.proofs.nodes.push_header.Goals as goal

pub end_row-requires : goal.end_row-requires
end_row-requires c = record { may_end = may-end c.push_cell-2.new.self nodes_header (search rules) (omega arith) nodes-apart }
