use Rattle.std.proofs.Common.{◌≡◌, None, map, subst, sym}
use Rattle.nf_table.specs.Reading.{repeated_column}
use Rattle.nf_out.specs.Arcs.{arc_name}
use Rattle.nf_print.proofs.ColumnFacts.{arcs-once}
use Rattle.nf_print.proofs.parts.arcs_table.Goals as goal

pub arc_table-requires-clause-names : goal.arc_table-requires-clause-names
arc_table-requires-clause-names c = subst (λ fs. repeated_column (map (arc_name c.args.labels.now) fs) ≡ None) (sym c.arc_columns-fields.ensures) (arcs-once c.args.labels.now c.args.full)
