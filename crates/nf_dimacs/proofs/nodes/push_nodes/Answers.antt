use Rattle.std.proofs.Common.{arith}
use Rattle.nf_dimacs.specs.Tables.{node_row, nodes_header}
use Rattle.nf_dimacs.proofs.TableFacts.{grown-none, grown-more, grown-begun, grown-all}
use Rattle.nf_dimacs.proofs.nodes.push_nodes.Goals as goal

pub loop-i-init : goal.loop-i-init
loop-i-init c = grown-none node_row nodes_header c.args.supplies.now c.args.table.now c.requires.begun

pub push_node-requires-clause-begun : goal.push_node-requires-clause-begun
push_node-requires-clause-begun c = grown-begun node_row nodes_header c.args.supplies.now c.loop-i.i c.loop-i.table c.loop-i.invariant

pub push_node-requires-clause-room : goal.push_node-requires-clause-room
push_node-requires-clause-room c = omega (arith, c.loop-i.invariant.count)

pub loop-i-preserved : goal.loop-i-preserved
loop-i-preserved c = grown-more node_row nodes_header c.args.supplies.now c.loop-i.i _ c.loop-i.table c.push_node.new.table c.loop-i-test.true c.loop-i.invariant c.in_ok-push_node.ensures

pub returns : goal.returns
returns c = grown-all node_row nodes_header c.args.supplies.now c.loop-i.i c.loop-i.table (omega arith) c.loop-i.invariant
