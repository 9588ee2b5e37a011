use Rattle.std.proofs.Common.{refl}
use Rattle.nf_prob.proofs.Highest.{found_above, found_at_zero, found_below}
use Rattle.nf_prob.proofs.fits.place_of_greatest.Goals as goal

pub returns-in-Less : goal.returns-in-Less
returns-in-Less c = found_below _ _ _ _ refl c.in-Less.ensures

pub returns-in-Equal : goal.returns-in-Equal
returns-in-Equal c = found_at_zero _ _ _ _ _ refl c.in-Equal.ensures c.zero.ensures

pub returns-in-Greater : goal.returns-in-Greater
returns-in-Greater c = found_above _ _ _ _ refl c.in-Greater.ensures
