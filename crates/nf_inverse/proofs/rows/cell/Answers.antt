use Rattle.std.proofs.Common.{◌≡◌, length, arith}
use Rattle.std.proofs.lemmas.Grind.{common_steps}
use Rattle.nf_inverse.proofs.Stored.{cell_read, row_long}
use Rattle.nf_inverse.proofs.rows.cell.Goals as goal

pub index-requires : goal.index-requires
index-requires c =
    let same : length c.index-rows-s.result.items ≡ length c.args.rows.now = row_long c.args.rows.now c.args.s c.index-rows-s.result c.requires.square c.requires.row c.index-rows-s.is in
    grind (arith, common_steps)

pub returns : goal.returns
returns c = cell_read c.args.rows.now c.args.s c.args.i c.index-rows-s.result c.index.result.now c.requires.square c.requires.row c.requires.place c.index-rows-s.is c.index.ensures
