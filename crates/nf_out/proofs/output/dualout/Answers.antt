use Rattle.std.proofs.Common.{◌≡◌, ◌<◌, ◌^◌, None, length, map, sym, subst}
use Rattle.nf_table.specs.Reading.{repeated_column}
use Rattle.nf_out.specs.Rows.{row_name}
use Rattle.nf_out.proofs.RowNameFacts.{duals-few, duals-once}
use Rattle.nf_out.proofs.output.dualout.Goals as goal

pub row_table-requires-clause-names : goal.row_table-requires-clause-names
row_table-requires-clause-names c = subst (λ fs. repeated_column (map row_name fs) ≡ None) (sym c.dual_columns-fields.ensures) (duals-once c.args.future)

pub row_table-requires-clause-some : goal.row_table-requires-clause-some
row_table-requires-clause-some c = subst (λ fs. 0 < length fs) (sym c.dual_columns-fields.ensures) (duals-few c.args.future).0

pub row_table-requires-clause-few : goal.row_table-requires-clause-few
row_table-requires-clause-few c = subst (λ fs. length fs < 2 ^ 31) (sym c.dual_columns-fields.ensures) (duals-few c.args.future).1
