use Rattle.std.proofs.Common.{arith, rules}
use Rattle.nf_dimacs.specs.Tables.{arcs_header}
use Rattle.nf_dimacs.proofs.TableFacts.{may-end, arcs-apart}
use Rattle.nf_dimacs.proofs.arcs.push_header.Goals as goal

pub end_row-requires : goal.end_row-requires
end_row-requires c = record { may_end = may-end c.push_cell-6.new.self arcs_header (search rules) (omega arith) arcs-apart }
