use Rattle.std.proofs.Common.{inl, refl, sym, subst, Some}
use Rattle.nf_duals.proofs.PrintedFacts.{not_less_by}
use Rattle.nf_price.specs.Wanted.{IsBetter}
use Rattle.nf_price.proofs.scan.better.Goals as goal

pub returns-in-Equal : goal.returns-in-Equal
returns-in-Equal c =
    let kept = c.in-Some.so_far in
    subst (λ b. IsBetter b c.args.next (Some kept)) (sym c.in-Some.is) (inl (refl, not_less_by kept.size (c.args.next).size c.cmp.result c.cmp.ensures c.in-Equal.is))
