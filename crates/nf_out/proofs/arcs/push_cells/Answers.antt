use Rattle.nf_out.specs.Arcs.{arc_cell}
use Rattle.nf_out.proofs.HandFacts.{all-in-hand, more-in-hand, none-in-hand, room-in-hand}
use Rattle.nf_out.proofs.arcs.push_cells.Goals as goal

pub loop-field-init : goal.loop-field-init
loop-field-init c = none-in-hand (λ f. arc_cell c.args.p.now c.args.labels.now c.args.state.now.standing c.args.figures.now f c.args.k) c.args.fields.now c.args.table.now

pub push_cell-requires-clause-room : goal.push_cell-requires-clause-room
push_cell-requires-clause-room c = room-in-hand (λ f. arc_cell c.args.p.now c.args.labels.now c.args.state.now.standing c.args.figures.now f c.args.k) c.args.fields.now c.args.table.now c.loop-field.table c.loop-field.field-index c.requires.begun c.requires.few c.loop-field-test.true c.loop-field.invariant

pub loop-field-preserved : goal.loop-field-preserved
loop-field-preserved c = more-in-hand (λ f. arc_cell c.args.p.now c.args.labels.now c.args.state.now.standing c.args.figures.now f c.args.k) c.args.fields.now c.args.table.now c.loop-field.table c.push_cell.new.table c.loop-field.field-index _ c.loop-field-test.true c.loop-field.invariant c.in_ok-push_cell.ensures

pub returns : goal.returns
returns c = all-in-hand (λ f. arc_cell c.args.p.now c.args.labels.now c.args.state.now.standing c.args.figures.now f c.args.k) c.args.fields.now c.args.table.now c.loop-field.table c.loop-field.field-index c.loop-field-test.false c.loop-field.invariant
