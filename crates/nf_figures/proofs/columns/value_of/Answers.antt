use Rattle.std.proofs.Common.{◌≡◌, ◌∙◌, ◌<◌, ◌-◌, ap, sym, arith, length}
use Rattle.nf_simplex.specs.Columns.{all_columns}
use Rattle.nf_simplex.specs.Layout.{layout_of}
use Rattle.nf_simplex.specs.Standing.{place_at}
use Rattle.nf_basis.specs.declared.col.Col.TheVariants.{Given}
use Rattle.nf_basis.specs.Names.{place_of}
use Rattle.nf_duals.proofs.Places.{place_told, absent_value}
use Rattle.nf_duals.proofs.PricedFacts.{given_there}
use Rattle.nf_figures.proofs.columns.value_of.Goals as goal

pub returns-in-Absent : goal.returns-in-Absent
returns-in-Absent g c =
    let p = c.args.p.now in
    let j = c.args.j in
    let k = c.state.result.now in
    let below : c.args.j - 1 < length p.columns = omega (arith, c.requires.number.0, c.requires.number.1) in
    let within : c.args.j - 1 < all_columns (layout_of p) = omega (arith, below) in
    let told : place_of c.place.result ≡ place_at c.state.result.now.standing (c.args.j - 1) = place_told p k (Given j) c.place.result (c.state.ensures.state p c.requires.numbers) c.requires.number.0 within (given_there p (j - 1) below) c.place.ensures.present c.place.ensures.absent in
    c.zero.ensures
    ∙ sym (absent_value p (g.B.Basis.standing c.args.basis.now) (g.B.Basis.values p c.args.basis.now) (j - 1) (g.met.B.Basis.sound p c.args.basis.now c.requires.numbers).values within (sym (ap (λ s. place_at s (j - 1)) c.state.ensures.standing) ∙ sym told ∙ ap place_of c.in-Absent.is))
