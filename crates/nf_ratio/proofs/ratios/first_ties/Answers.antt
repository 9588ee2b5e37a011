use Rattle.std.proofs.Common.{length, subst, arith}
use Rattle.nf_sums.proofs.Up.{handed_on}
use Rattle.nf_ratio.specs.Ties.{IsOfferedIf}
use Rattle.nf_ratio.proofs.Causes.{span_passed}
use Rattle.nf_ratio.proofs.First.{with_own}
use Rattle.nf_ratio.proofs.ratios.first_ties.Goals as goal

pub returns-in_err-own-clause-passed : goal.returns-in_err-own-clause-passed
returns-in_err-own-clause-passed g c =
    handed_on c.from_residual-in_err-own.result _ _ c.from_residual-in_err-own.ensures.1
    (span_passed c.args.p.now _ _ _ (g.met.B.Basis.sound c.args.p.now c.args.basis.now c.requires.numbers) c.args.entering c.requires.present _ c.in_err-own.ensures.passed)

pub returns-clause-ties : goal.returns-clause-ties
returns-clause-ties g c =
    let few = c.in_ok-slots.ensures.ties.few in
    let size = c.value_ties.ensures.size in
    let room = c.requires.room in
    with_own c.args.p.now (g.B.Basis.slots c.args.basis.now) (g.B.Basis.values c.args.p.now c.args.basis.now) c.args.entering c.args.down c.args.entries.now c.value_ties.new.ties c.in_ok-slots.slots c.in_ok-slots.ensures.ties (omega (arith, few, size, room))
    c.offer_if.result c.offer_if.new.ties (subst (λ o. IsOfferedIf c.in_ok-slots.slots c.value_ties.new.ties (length c.args.entries.now) o c.offer_if.result c.offer_if.new.ties) c.in_ok-own.ensures.value c.offer_if.ensures.offered)
