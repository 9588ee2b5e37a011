use Rattle.std.proofs.Common.{◌≡◌, arith}
use Rattle.nf_out.specs.Arcs.{arc_cell, arc_name}
use Rattle.nf_out.proofs.HandFacts.{all-rows, more-rows, next-row, no-rows, rows-begun}
use Rattle.nf_out.proofs.arcs.push_rows.Goals as goal

pub loop-k-init : goal.loop-k-init
loop-k-init c = no-rows (arc_name c.args.labels.now) (arc_cell c.args.p.now c.args.labels.now c.args.state.now.standing c.args.figures.now) c.args.fields.now c.args.first c.args.table.now c.requires.begun

pub push_cells-requires-clause-begun : goal.push_cells-requires-clause-begun
push_cells-requires-clause-begun c = rows-begun (arc_name c.args.labels.now) (arc_cell c.args.p.now c.args.labels.now c.args.state.now.standing c.args.figures.now) c.args.fields.now c.args.first c.loop-k.k c.loop-k.table c.loop-k.invariant

pub end_row-requires : goal.end_row-requires
end_row-requires c = record { may_end = (next-row (arc_name c.args.labels.now) (arc_cell c.args.p.now c.args.labels.now c.args.state.now.standing c.args.figures.now) c.args.fields.now c.args.first c.loop-k.k c.loop-k.table c.push_cells.new.table c.requires.some (omega (arith, c.loop-k-test.true, c.requires.within, c.columns-few.ensures.few)) c.loop-k.invariant c.in_ok-push_cells.ensures).0 }

pub loop-k-preserved : goal.loop-k-preserved
loop-k-preserved c = more-rows (arc_name c.args.labels.now) (arc_cell c.args.p.now c.args.labels.now c.args.state.now.standing c.args.figures.now) c.args.fields.now c.args.first c.loop-k.k c.loop-k.table c.push_cells.new.table c.end_row.new.self c.requires.some (omega (arith, c.loop-k-test.true, c.requires.within, c.columns-few.ensures.few)) c.loop-k.invariant c.in_ok-push_cells.ensures c.in_ok-end_row.ensures.added

pub returns : goal.returns
returns c =
    let all : c.loop-k.k ≡ c.args.last = omega (arith, c.loop-k-test.false, c.loop-k.auto.k-end) in
    all-rows (arc_name c.args.labels.now) (arc_cell c.args.p.now c.args.labels.now c.args.state.now.standing c.args.figures.now) c.args.fields.now c.args.first c.loop-k.k c.args.last c.loop-k.table all c.loop-k.invariant
