use Rattle.std.proofs.Common.{◌∙◌, ap, sym, arith, ◌<◌}
use Rattle.nf_simplex.specs.Columns.{all_columns, col_at}
use Rattle.nf_simplex.specs.Layout.{layout_of}
use Rattle.nf_simplex.specs.Standing.{place_at}
use Rattle.nf_basis.specs.Kept.{number}
use Rattle.nf_duals.proofs.Places.{place_told}
use Rattle.nf_duals.proofs.priced.priced_place.Goals as goal

pub returns : goal.returns
returns c =
    let col = c.priced_column in
    let within : number c.args.p.now col.result < all_columns (layout_of c.args.p.now) = (let e = col.ensures.number in let b = c.requires.within in omega (arith, e, b)) in
    place_told c.args.p.now c.args.state.now col.result c.place.result c.requires.state col.ensures.named within (ap (col_at (layout_of c.args.p.now)) col.ensures.number ∙ sym col.ensures.column) c.place.ensures.present c.place.ensures.absent
    ∙ ap (place_at c.args.state.now.standing) col.ensures.number
