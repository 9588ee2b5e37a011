use Rattle.std.proofs.Common.{arith}
use Rattle.nf_bits.proofs.bit_set.BitSet.new.Goals as goal

pub returns : goal.returns
returns c =
    let len = c.in_ok-resize.ensures.len in
    omega (arith, len)
