use Rattle.std.proofs.Common.{◌∙◌, ap}
use Rattle.nf_table.specs.Making.{with_cell}
use Rattle.nf_out.specs.Rows.{row_name}
use Rattle.nf_out.proofs.HandFacts.{all-in-hand, more-in-hand, none-in-hand, room-in-hand}
use Rattle.nf_out.proofs.rows.push_names.Goals as goal

pub loop-field-init : goal.loop-field-init
loop-field-init c = none-in-hand row_name c.args.fields.now c.args.table.now

pub push_word-requires : goal.push_word-requires
push_word-requires c = record { room = room-in-hand row_name c.args.fields.now c.args.table.now c.loop-field.table c.loop-field.field-index c.requires.begun c.requires.few c.loop-field-test.true c.loop-field.invariant }

pub loop-field-preserved : goal.loop-field-preserved
loop-field-preserved c = more-in-hand row_name c.args.fields.now c.args.table.now c.loop-field.table c.push_word.new.table c.loop-field.field-index _ c.loop-field-test.true c.loop-field.invariant (c.in_ok-push_word.ensures ∙ ap (with_cell c.loop-field.table) c.name_of.ensures)

pub returns : goal.returns
returns c = all-in-hand row_name c.args.fields.now c.args.table.now c.loop-field.table c.loop-field.field-index c.loop-field-test.false c.loop-field.invariant
