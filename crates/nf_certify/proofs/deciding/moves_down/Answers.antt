use Rattle.std.proofs.Common.{◌≡◌, ap, subst, sym, ◌∙◌}
use Rattle.nf_basis.specs.Kept.{IsPresent, place_in}
use Rattle.nf_basis.specs.Names.{col_of, place_of}
use Rattle.nf_certify.proofs.Directions.{from_upper, from_elsewhere}
use Rattle.nf_certify.proofs.deciding.moves_down.Goals as goal

pub falls_from_zero-requires-clause-zero : goal.falls_from_zero-requires-clause-zero
falls_from_zero-requires-clause-zero g c =
    let p = c.args.p.now in
    let same : c.state.result.now.standing ≡ g.B.Basis.standing c.args.basis.now = c.state.ensures.standing in
    sym (ap (λ v. place_in p v c.args.column) same)
    ∙ (sym (c.place.ensures.present p (c.state.ensures.state p c.requires.numbers) (subst (λ v. IsPresent p v c.args.column) (sym same) c.requires.present)) ∙ ap place_of c.in-Zero.is)

pub returns-in-Upper-clause-down : goal.returns-in-Upper-clause-down
returns-in-Upper-clause-down g c down w =
    let p = c.args.p.now in
    let same : c.state.result.now.standing ≡ g.B.Basis.standing c.args.basis.now = c.state.ensures.standing in
    from_upper p (g.B.Basis.standing c.args.basis.now) (col_of c.args.column) down w
    (sym (ap (λ v. place_in p v c.args.column) same)
    ∙ (sym (c.place.ensures.present p (c.state.ensures.state p c.requires.numbers) (subst (λ v. IsPresent p v c.args.column) (sym same) c.requires.present)) ∙ ap place_of c.in-Upper.is))

pub returns-in-Lower-clause-down : goal.returns-in-Lower-clause-down
returns-in-Lower-clause-down g c down w =
    let p = c.args.p.now in
    let same : c.state.result.now.standing ≡ g.B.Basis.standing c.args.basis.now = c.state.ensures.standing in
    from_elsewhere p (g.B.Basis.standing c.args.basis.now) (col_of c.args.column) down w c.place.result
    (c.place.ensures.present p (c.state.ensures.state p c.requires.numbers) (subst (λ v. IsPresent p v c.args.column) (sym same) c.requires.present) ∙ ap (λ v. place_in p v c.args.column) same) c.in-Lower.is
