use Rattle.nf_sums.proofs.Zero.{zero_left, zero_right}
use Rattle.nf_sums.proofs.sums.add_product.Goals.{then-is_zero-via-then-is_zero, then-is_zero-via-else-is_zero+then-is_zero-2}
use Rattle.nf_sums.proofs.sums.add_product.Goals as goal

pub returns-then-is_zero-clause-value : goal.returns-then-is_zero-clause-value
returns-then-is_zero-clause-value g c =
    elim c.then-is_zero.branch [
      | then-is_zero-via-then-is_zero w ↦ zero_left c.args.total c.args.a c.args.b (c.is_zero.ensures.0 w.if-is_zero.true)
      | then-is_zero-via-else-is_zero+then-is_zero-2 w ↦ zero_right c.args.total c.args.a c.args.b (w.is_zero-else-is_zero.ensures.0 w.if-is_zero-2.true)
    ]
