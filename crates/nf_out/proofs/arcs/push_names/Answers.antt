use Rattle.nf_out.specs.Arcs.{arc_name}
use Rattle.nf_out.proofs.HandFacts.{all-in-hand, more-in-hand, none-in-hand, room-in-hand}
use Rattle.nf_out.proofs.arcs.push_names.Goals as goal

pub loop-field-init : goal.loop-field-init
loop-field-init c = none-in-hand (arc_name c.args.labels.now) c.args.fields.now c.args.table.now

pub push_name-requires-clause-room : goal.push_name-requires-clause-room
push_name-requires-clause-room c = room-in-hand (arc_name c.args.labels.now) c.args.fields.now c.args.table.now c.loop-field.table c.loop-field.field-index c.requires.begun c.requires.few c.loop-field-test.true c.loop-field.invariant

pub loop-field-preserved : goal.loop-field-preserved
loop-field-preserved c = more-in-hand (arc_name c.args.labels.now) c.args.fields.now c.args.table.now c.loop-field.table c.push_name.new.table c.loop-field.field-index _ c.loop-field-test.true c.loop-field.invariant c.in_ok-push_name.ensures

pub returns : goal.returns
returns c = all-in-hand (arc_name c.args.labels.now) c.args.fields.now c.args.table.now c.loop-field.table c.loop-field.field-index c.loop-field-test.false c.loop-field.invariant
