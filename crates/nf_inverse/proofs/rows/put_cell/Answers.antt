use Rattle.std.proofs.Common.{◌≡◌, ◌<◌, length, set, ◌∙◌, ap, sym, subst, arith}
use Rattle.std.proofs.lemmas.Grind.{common_steps}
use Rattle.std.proofs.lemmas.List.{length-set}
use Rattle.nf_inverse.proofs.Stored.{row_at, row_long, square_at, square_put, cell_put}
use Rattle.nf_inverse.proofs.rows.put_cell.Goals as goal

pub index_mut-requires : goal.index_mut-requires
index_mut-requires c =
    let same : length c.index-rows-s.result.items ≡ length c.args.rows.now = row_long c.args.rows.now c.args.s c.index-rows-s.result c.requires.square c.requires.row c.index-rows-s.is in
    grind (arith, common_steps)

pub returns-clause-square : goal.returns-clause-square
returns-clause-square c =
    square_put c.args.rows.now c.args.s _ c.requires.square c.requires.row
    (length-set _ c.args.i c.args.number ∙ ap length (row_at c.args.rows.now c.args.s c.index-rows-s.result c.requires.row) ∙ square_at c.args.rows.now c.args.s c.requires.square c.requires.row)

pub returns-clause-value : goal.returns-clause-value
returns-clause-value c =
    cell_put c.args.rows.now c.args.s c.args.i c.args.number _ c.requires.row
    (subst (λ n. c.args.i < n) (sym (square_at c.args.rows.now c.args.s c.requires.square c.requires.row)) c.requires.place)
    (ap (λ l. set l c.args.i c.args.number) (row_at c.args.rows.now c.args.s c.index-rows-s.result c.requires.row))
