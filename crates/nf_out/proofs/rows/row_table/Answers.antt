use Rattle.std.proofs.Common.{◌≡◌, ◌∙◌, length, map, ap, arith}
use Rattle.std.proofs.lemmas.List.{length-map}
use Rattle.nf_out.specs.Rows.{row_name}
use Rattle.nf_out.specs.Tables.{with_cells}
use Rattle.nf_out.proofs.HandFacts.{header-ended, header-may-end}
use Rattle.nf_out.proofs.rows.row_table.Goals as goal

pub end_row-requires : goal.end_row-requires
end_row-requires c = record { may_end = header-may-end (map row_name c.args.fields.now) c.push_names.new.table (let n = length-map c.args.fields.now row_name in omega (arith, n, c.requires.some)) c.requires.names (c.in_ok-push_names.ensures ∙ ap (λ g. with_cells g (map row_name c.args.fields.now)) c.new-table.ensures) }

pub push_rows-requires-clause-begun : goal.push_rows-requires-clause-begun
push_rows-requires-clause-begun c =
    c.in_ok-end_row.ensures.added
    ∙ header-ended (map row_name c.args.fields.now) c.push_names.new.table (c.in_ok-push_names.ensures ∙ ap (λ g. with_cells g (map row_name c.args.fields.now)) c.new-table.ensures)
