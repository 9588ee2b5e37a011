use Rattle.std.proofs.Common.{sym, ◌∙◌}
use Rattle.nf_frac.proofs.Caller.{same_out}
use Rattle.nf_sums.proofs.Unit.{minus_one}
use Rattle.nf_sums.proofs.sums.is_minus_one.Goals as goal

pub returns : goal.returns
returns c = λ t. same_out c.args.a _ (sym c.eq.ensures ∙ t) ∙ c.from_whole.ensures ∙ minus_one
