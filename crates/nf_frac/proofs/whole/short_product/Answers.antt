use Rattle.nf_frac.proofs.Short.{in_range, value}
use Rattle.nf_frac.proofs.whole.short_product.Goals as goal

pub returns-clause-value : goal.returns-clause-value
returns-clause-value c = value c.args.a c.args.b _ _ c.requires.left c.requires.right c.from.ensures c.from-2.ensures

pub returns-clause-range : goal.returns-clause-range
returns-clause-range c = in_range c.args.a c.args.b c.requires.left c.requires.right
