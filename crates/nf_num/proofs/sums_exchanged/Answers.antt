use Rattle.nf_num.proofs.Sums.{sum_swap}
use Rattle.nf_num.proofs.sums_exchanged.Goals as goal

pub returns : goal.returns
returns c = sum_swap
