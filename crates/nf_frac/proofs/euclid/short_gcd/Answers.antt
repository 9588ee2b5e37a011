use Rattle.std.proofs.Common.{◌∙◌}
use Rattle.nf_frac.proofs.Binary.{by_rest}
use Rattle.nf_frac.proofs.euclid.short_gcd.Goals as goal

pub returns : goal.returns
returns c = c.from-2.ensures ∙ c.odd_gcd-2.ensures ∙ by_rest c.args.odd c.args.other
