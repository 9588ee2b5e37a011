use Rattle.std.proofs.Common.{inl, refl}
use Rattle.nf_duals.proofs.PrintedFacts.{not_less_by}
use Rattle.nf_duals.proofs.printed.greater.Goals as goal

pub returns-in-Equal : goal.returns-in-Equal
returns-in-Equal c = inl (refl, not_less_by c.args.m c.args.q c.cmp.result c.cmp.ensures c.in-Equal.is)
