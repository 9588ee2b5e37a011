use Rattle.std.proofs.Common.{◌≡◌, ◌∙◌, length, rules, subst, subst₂, sym}
use Rattle.std.proofs.lemmas.List.{take_at}
use Rattle.nf_simplex.specs.Verdicts.{AreMoves}
use Rattle.nf_basis.specs.Names.{col_of}
use Rattle.nf_basis.specs.Numbers.{AreEntriesBySlot}
use Rattle.nf_certify.proofs.Directions.{ended_lowers}
use Rattle.nf_certify.proofs.certificate.direction.Goals as goal

pub moves-requires-clause-entries : goal.moves-requires-clause-entries
moves-requires-clause-entries g c =
    let p = c.args.p.now in
    let out = c.column.new.out in
    let e = c.in_ok-column.ensures in
    let full : length out ≡ c.in_ok-work.work.len = search rules in
    subst (λ l. AreEntriesBySlot p (g.B.Basis.standing c.column.new.self) (g.B.Basis.slots c.column.new.self) c.args.column l) (sym (c.as_slice.ensures.value ∙ take_at out _ c.in_ok-work.work.len full))
    (subst₂ (λ v w. AreEntriesBySlot p v w c.args.column out) (sym e.standing) (sym e.slots) e.entries)

pub returns-clause-certificate : goal.returns-clause-certificate
returns-clause-certificate g c =
    let p = c.args.p.now in
    let s = g.B.Basis.standing c.args.basis.now in
    let col = c.args.column in
    let ended = c.requires.ended.1 in
    let down : c.in_ok-down.down ≡ ended.0 = c.in_ok-down.ensures.down ended.0 (ended_lowers p s (col_of col) ended.0 ended.1) in
    let same : g.B.Basis.standing c.column.new.self ≡ s = c.in_ok-column.ensures.standing ∙ c.in_ok-down.ensures.standing in (
      (g.B.Basis.values p c.args.basis.now, (g.met.B.Basis.sound p c.args.basis.now c.requires.numbers).values, c.in_ok-values.ensures),
      (ended.0, ended.1, subst₂ (λ v d. AreMoves p v (col_of col) d c.in_ok-ray.ray) same down c.in_ok-ray.ensures),
    )
