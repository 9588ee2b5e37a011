use Rattle.std.proofs.Common.{◌≡◌, ⊎_elim, Some, None, subst}
use Rattle.nf_num.specs.Rational.{zero_ℚ}
use Rattle.nf_simplex.specs.Moves.{WouldLower}
use Rattle.nf_simplex.specs.Standing.{lower_in}
use Rattle.nf_basis.specs.declared.col.Col.TheVariants.{Given}
use Rattle.nf_basis.specs.Names.{col_of}
use Rattle.nf_certify.proofs.Directions.{falls, unbounded_at_zero}
use Rattle.nf_certify.proofs.deciding.falls_from_zero.Goals as goal

bounded : Some zero_ℚ ≡ None → ⊥
bounded e = cc

pub returns-in_ok-d-in-Given-clause-down : goal.returns-in_ok-d-in-Given-clause-down
returns-in_ok-d-in-Given-clause-down g c down w =
    let p = c.args.p.now in
    let s = g.B.Basis.standing c.args.basis.now in
    falls p s (g.met.B.Basis.sound p c.args.basis.now c.requires.numbers).basis (col_of (Given c.in-Given.j)) c.in_ok-d-in-Given.d c.is_below_zero.result down c.in_ok-d-in-Given.ensures.decides c.is_below_zero.ensures
    (subst (λ k. WouldLower p s (col_of k) down) c.in-Given.is w)

pub returns-in-Slack-clause-down : goal.returns-in-Slack-clause-down
returns-in-Slack-clause-down g c down w =
    let p = c.args.p.now in
    let s = g.B.Basis.standing c.args.basis.now in
    let sound = g.met.B.Basis.sound p c.args.basis.now c.requires.numbers in
    let none = unbounded_at_zero p s (col_of c.args.column) sound.problem.arcs_within sound.state c.requires.present.1 c.requires.zero in
    absurd (⊎_elim (λ e. bounded (subst (λ k. lower_in p (col_of k) ≡ None) e.1 none)) (λ e. bounded (subst (λ k. lower_in p (col_of k) ≡ None) e.1 none)) c.in-Slack.is)
