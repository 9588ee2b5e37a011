use Rattle.std.proofs.Common.{◌<◌, ◌^◌, ℕ, sym, subst}
use Rattle.nf_frac.proofs.Reduced.{natural_parts}
use Rattle.nf_frac.proofs.read.read_unsigned.Goals as goal

pub from_parts-requires : goal.from_parts-requires
from_parts-requires c = natural_parts c.in-Some-number.num (subst (λ (n : ℕ). n < 2 ^ 127) (sym c.in-Some-number.ensures.1) c.in-Some-number.ensures.0)
