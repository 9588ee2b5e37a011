use Rattle.std.proofs.Common.{subst}
use Rattle.nf_num.specs.Rational.{zero_ℚ}
use Rattle.nf_frac.specs.Compared.{IsOrder}
use Rattle.nf_tree.proofs.Moved.{over_above, over_below, same_not_below, above_not_below}
use Rattle.nf_tree.proofs.duals.over_unit.Goals as goal

pub returns-in-Less : goal.returns-in-Less
returns-in-Less c = rw c.neg.ensures (over_below c.args.number c.args.unit c.requires.unit (subst (λ o. IsOrder o c.args.unit zero_ℚ) c.in-Less.is c.sign.ensures))

pub returns-in-Equal : goal.returns-in-Equal
returns-in-Equal c = over_above c.args.number c.args.unit c.requires.unit (same_not_below c.args.unit (subst (λ o. IsOrder o c.args.unit zero_ℚ) c.in-Equal.is c.sign.ensures))

pub returns-in-Greater : goal.returns-in-Greater
returns-in-Greater c = over_above c.args.number c.args.unit c.requires.unit (above_not_below c.args.unit (subst (λ o. IsOrder o c.args.unit zero_ℚ) c.in-Greater.is c.sign.ensures))
