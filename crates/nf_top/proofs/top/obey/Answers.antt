use Rattle.std.proofs.Common.{inl, inr, refl}
use Rattle.nf_top.specs.declared.refusal.Refusal.TheVariants as refusal
use Rattle.nf_top.proofs.StopFacts.{nothing-fetched}
use Rattle.nf_top.proofs.top.obey.Goals as goal

pub returns-in-None-clause-comes : goal.returns-in-None-clause-comes
returns-in-None-clause-comes g c =
    c.conclude.ensures.comes _ _ _ _ _ c.line.ensures (inr (inl (refusal.Usage, (c.in-None.ensures, nothing-fetched _ _), refl))) refl
    (λ l. ((c.in-None.ensures, nothing-fetched _ _), l, refl))
