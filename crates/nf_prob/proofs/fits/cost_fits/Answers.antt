use Rattle.std.proofs.Common.{refl}
use Rattle.nf_prob.proofs.Signs.{by_less, by_equal, by_greater}
use Rattle.nf_prob.proofs.fits.cost_fits.Goals as goal

pub returns-in-Less : goal.returns-in-Less
returns-in-Less c = by_less _ _ _ _ _ refl c.in-Less.ensures c.stands_at.ensures

pub returns-in-Equal : goal.returns-in-Equal
returns-in-Equal c = by_equal _ _ _ _ refl c.in-Equal.ensures

pub returns-in-Greater : goal.returns-in-Greater
returns-in-Greater c = by_greater _ _ _ _ _ refl c.in-Greater.ensures c.stands_at-in-Greater.ensures
