use Rattle.std.proofs.Common.{sym, ◌∙◌}
use Rattle.nf_frac.proofs.Caller.{same_out, same_in}
use Rattle.nf_prob.proofs.fits.is_equal.Goals as goal

pub returns : goal.returns
returns c = (λ t. same_out c.args.a c.args.b (sym c.eq.ensures ∙ t), λ e. c.eq.ensures ∙ same_in c.args.a c.args.b e)
