use Rattle.std.proofs.Common.{inl, inr, refl}
use Rattle.nf_ratio.proofs.Offers.{above_of, below_of, same_of}
use Rattle.nf_ratio.proofs.tie.Found.offer.Goals as goal

pub returns-in-Less-clause-offered : goal.returns-in-Less-clause-offered
returns-in-Less-clause-offered c = inl (below_of c.args.ratio c.args.self.least c.compare.result c.compare.ensures c.in-Less.is, refl, refl)

pub returns-in-Equal-clause-offered : goal.returns-in-Equal-clause-offered
returns-in-Equal-clause-offered c = inr (inl (same_of c.args.ratio c.args.self.least c.compare.result c.compare.ensures c.in-Equal.is, refl, refl))

pub returns-in-Greater-clause-offered : goal.returns-in-Greater-clause-offered
returns-in-Greater-clause-offered c = let (v, e, l) = above_of c.args.ratio c.args.self.least c.compare.result c.compare.ensures c.in-Greater.is in inr (inr (v, e, l, refl, refl))
