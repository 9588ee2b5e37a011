use Rattle.nf_sums.proofs.Zero.{zero_left_less, zero_right_less}
use Rattle.nf_sums.proofs.sums.sub_product.Goals.{then-is_zero-via-then-is_zero, then-is_zero-via-else-is_zero+then-is_zero-2}
use Rattle.nf_sums.proofs.sums.sub_product.Goals as goal

pub returns-then-is_zero-clause-value : goal.returns-then-is_zero-clause-value
returns-then-is_zero-clause-value g c =
    elim c.then-is_zero.branch [
      | then-is_zero-via-then-is_zero w ↦ zero_left_less c.args.total c.args.a c.args.b (c.is_zero.ensures.0 w.if-is_zero.true)
      | then-is_zero-via-else-is_zero+then-is_zero-2 w ↦ zero_right_less c.args.total c.args.a c.args.b (w.is_zero-else-is_zero.ensures.0 w.if-is_zero-2.true)
    ]
