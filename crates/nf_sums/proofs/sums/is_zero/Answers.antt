use Rattle.nf_sums.proofs.Zero.{zero_test}
use Rattle.nf_sums.proofs.sums.is_zero.Goals as goal

pub returns : goal.returns
returns c = zero_test _ _ c.num.ensures.value c.num.ensures.range
