use Rattle.std.proofs.Common.{◌≡◌, None, map, subst, sym}
use Rattle.nf_table.specs.Reading.{repeated_column}
use Rattle.nf_out.specs.Rows.{row_name}
use Rattle.nf_print.proofs.ColumnFacts.{nodes-once}
use Rattle.nf_print.proofs.parts.nodes_table.Goals as goal

pub row_table-requires-clause-names : goal.row_table-requires-clause-names
row_table-requires-clause-names c = subst (λ fs. repeated_column (map row_name fs) ≡ None) (sym c.node_columns-fields.ensures) (nodes-once c.args.full)
