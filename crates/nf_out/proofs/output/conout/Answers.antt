use Rattle.std.proofs.Common.{◌≡◌, ◌∙◌, ◌<◌, ◌^◌, ◌-◌, None, length, map, ap, sym, subst, arith}
use Rattle.std.specs.List.{All}
use Rattle.nf_table.specs.Reading.{repeated_column}
use Rattle.nf_out.specs.Arcs.{IsFieldOf, arc_cell, arc_fields, arc_name}
use Rattle.nf_out.specs.Tables.{grid_of}
use Rattle.nf_out.proofs.NameFacts.{fields-few, fields-some, fields-there, names-once}
use Rattle.nf_out.proofs.output.conout.Goals as goal

pub arc_table-requires-clause-fields : goal.arc_table-requires-clause-fields
arc_table-requires-clause-fields c = subst (All (IsFieldOf c.args.labels.now)) (sym (c.as_slice.ensures.value ∙ c.in_ok-fields.ensures.fields)) (fields-there c.args.labels.now c.args.future)

pub arc_table-requires-clause-some : goal.arc_table-requires-clause-some
arc_table-requires-clause-some c = subst (λ fs. 0 < length fs) (sym (c.as_slice.ensures.value ∙ c.in_ok-fields.ensures.fields)) (fields-some c.args.labels.now c.args.future)

pub arc_table-requires-clause-few : goal.arc_table-requires-clause-few
arc_table-requires-clause-few c = subst (λ fs. length fs < 2 ^ 31) (sym (c.as_slice.ensures.value ∙ c.in_ok-fields.ensures.fields)) (fields-few c.args.labels.now c.args.future c.in_ok-fields.ensures.few)

pub arc_table-requires-clause-names : goal.arc_table-requires-clause-names
arc_table-requires-clause-names c = subst (λ fs. repeated_column (map (arc_name c.args.labels.now) fs) ≡ None) (sym (c.as_slice.ensures.value ∙ c.in_ok-fields.ensures.fields)) (names-once c.args.labels.now c.requires.labels.own_headers c.args.future)
