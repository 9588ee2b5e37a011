use Rattle.std.proofs.Common.{◌≡◌, arith}
use Rattle.nf_out.specs.Rows.{row_cell, row_name}
use Rattle.nf_out.proofs.HandFacts.{all-rows, more-rows, next-row, no-rows, rows-begun}
use Rattle.nf_out.proofs.rows.push_rows.Goals as goal

pub loop-i-init : goal.loop-i-init
loop-i-init c = no-rows row_name (row_cell c.args.p.now c.args.labels.now c.args.state.now.standing c.args.figures.now c.args.tree.now) c.args.fields.now c.args.first c.args.table.now c.requires.begun

pub push_cells-requires-clause-begun : goal.push_cells-requires-clause-begun
push_cells-requires-clause-begun c = rows-begun row_name (row_cell c.args.p.now c.args.labels.now c.args.state.now.standing c.args.figures.now c.args.tree.now) c.args.fields.now c.args.first c.loop-i.i c.loop-i.table c.loop-i.invariant

pub end_row-requires : goal.end_row-requires
end_row-requires c = record { may_end = (next-row row_name (row_cell c.args.p.now c.args.labels.now c.args.state.now.standing c.args.figures.now c.args.tree.now) c.args.fields.now c.args.first c.loop-i.i c.loop-i.table c.push_cells.new.table c.requires.some (omega (arith, c.loop-i-test.true, c.requires.within, c.rows-few.ensures.few)) c.loop-i.invariant c.in_ok-push_cells.ensures).0 }

pub loop-i-preserved : goal.loop-i-preserved
loop-i-preserved c = more-rows row_name (row_cell c.args.p.now c.args.labels.now c.args.state.now.standing c.args.figures.now c.args.tree.now) c.args.fields.now c.args.first c.loop-i.i c.loop-i.table c.push_cells.new.table c.end_row.new.self c.requires.some (omega (arith, c.loop-i-test.true, c.requires.within, c.rows-few.ensures.few)) c.loop-i.invariant c.in_ok-push_cells.ensures c.in_ok-end_row.ensures.added

pub returns : goal.returns
returns c =
    let all : c.loop-i.i ≡ c.args.last = omega (arith, c.loop-i-test.false, c.loop-i.auto.i-end) in
    all-rows row_name (row_cell c.args.p.now c.args.labels.now c.args.state.now.standing c.args.figures.now c.args.tree.now) c.args.fields.now c.args.first c.loop-i.i c.args.last c.loop-i.table all c.loop-i.invariant
