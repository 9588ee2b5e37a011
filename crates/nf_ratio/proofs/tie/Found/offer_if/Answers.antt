use Rattle.std.proofs.Common.{refl, sym, subst}
use Rattle.nf_ratio.specs.Ties.{IsOfferedIf}
use Rattle.nf_ratio.proofs.tie.Found.offer_if.Goals as goal

pub returns-in-Some-clause-offered : goal.returns-in-Some-clause-offered
returns-in-Some-clause-offered c = subst (λ o. IsOfferedIf c.args.self c.args.ties.now c.args.place o c.offer.result c.offer.new.ties) (sym c.in-Some.is) c.offer.ensures.offered

pub returns-in-None-clause-offered : goal.returns-in-None-clause-offered
returns-in-None-clause-offered c = subst (λ o. IsOfferedIf c.args.self c.args.ties.now c.args.place o c.args.self c.args.ties.now) (sym c.in-None.is) (refl, refl)
