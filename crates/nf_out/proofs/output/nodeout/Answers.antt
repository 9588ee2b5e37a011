use Rattle.std.proofs.Common.{◌≡◌, ◌<◌, ◌^◌, None, length, map, sym, subst}
use Rattle.nf_table.specs.Reading.{repeated_column}
use Rattle.nf_out.specs.Rows.{row_name}
use Rattle.nf_out.proofs.RowNameFacts.{nodes-few, nodes-once}
use Rattle.nf_out.proofs.output.nodeout.Goals as goal

pub row_table-requires-clause-names : goal.row_table-requires-clause-names
row_table-requires-clause-names c = subst (λ fs. repeated_column (map row_name fs) ≡ None) (sym c.node_columns-fields.ensures) (nodes-once c.args.future)

pub row_table-requires-clause-some : goal.row_table-requires-clause-some
row_table-requires-clause-some c = subst (λ fs. 0 < length fs) (sym c.node_columns-fields.ensures) (nodes-few c.args.future).0

pub row_table-requires-clause-few : goal.row_table-requires-clause-few
row_table-requires-clause-few c = subst (λ fs. length fs < 2 ^ 31) (sym c.node_columns-fields.ensures) (nodes-few c.args.future).1
