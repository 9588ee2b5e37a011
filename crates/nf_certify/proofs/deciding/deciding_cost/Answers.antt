use Rattle.std.proofs.Common.{◌≡◌, inr, ◌-◌, subst, rules}
use Rattle.nf_num.specs.Rational.{zero_ℚ}
use Rattle.nf_simplex.specs.Standing.{PhaseOne, PhaseTwo}
use Rattle.nf_certify.specs.Deciding.{IsCostIn}
use Rattle.nf_certify.proofs.deciding.deciding_cost.Goals as goal

pub returns-clause-decides : goal.returns-clause-decides
returns-clause-decides g c =
    let p = c.args.p.now in
    let s = g.B.Basis.standing c.args.basis.now in
    let zero : c.in_ok-one.one ≡ zero_ℚ = search rules in
    inr (
      subst (IsCostIn p s PhaseOne (c.args.j - 1)) zero c.in_ok-one.ensures.cost,
      subst (λ t. IsCostIn p t PhaseTwo (c.args.j - 1) c.in_ok-two.two) c.in_ok-one.ensures.standing c.in_ok-two.ensures.cost,
    )
