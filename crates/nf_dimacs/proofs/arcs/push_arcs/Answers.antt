use Rattle.std.proofs.Common.{arith}
use Rattle.nf_dimacs.specs.Tables.{arc_row, arcs_header}
use Rattle.nf_dimacs.proofs.TableFacts.{grown-none, grown-more, grown-begun, grown-all}
use Rattle.nf_dimacs.proofs.arcs.push_arcs.Goals as goal

pub loop-i-init : goal.loop-i-init
loop-i-init c = grown-none arc_row arcs_header c.args.arcs.now c.args.table.now c.requires.begun

pub push_arc-requires-clause-begun : goal.push_arc-requires-clause-begun
push_arc-requires-clause-begun c = grown-begun arc_row arcs_header c.args.arcs.now c.loop-i.i c.loop-i.table c.loop-i.invariant

pub push_arc-requires-clause-room : goal.push_arc-requires-clause-room
push_arc-requires-clause-room c = omega (arith, c.loop-i.invariant.count)

pub loop-i-preserved : goal.loop-i-preserved
loop-i-preserved c = grown-more arc_row arcs_header c.args.arcs.now c.loop-i.i _ c.loop-i.table c.push_arc.new.table c.loop-i-test.true c.loop-i.invariant c.in_ok-push_arc.ensures

pub returns : goal.returns
returns c = grown-all arc_row arcs_header c.args.arcs.now c.loop-i.i c.loop-i.table (omega arith) c.loop-i.invariant
