use Rattle.std.proofs.Common.{sym, subst}
use Rattle.std.specs.Prelude.{IfNone}
use Rattle.nf_simplex.specs.Pricing.{HasWrongSign}
use Rattle.nf_basis.specs.Names.{place_of}
use Rattle.nf_price.proofs.candidate.Candidate.of.Goals as goal

pub returns-in-Zero-clause-right : goal.returns-in-Zero-clause-right
returns-in-Zero-clause-right c = subst (λ a. IfNone c.moving.result (HasWrongSign (place_of a) c.args.d → ⊥)) (sym c.in-Zero.is) c.moving.ensures.right
