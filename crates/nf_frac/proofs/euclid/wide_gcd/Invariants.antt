use Rattle.std.proofs.Common.{◌≡◌, ◌+◌, ◌%◌}
use Rattle.nf_num.specs.Gcd.{gcd as gcd_of}
use Rattle.nf_frac.proofs.euclid.wide_gcd.Given as goal

abbrev pub invariant-loop-y : goal.invariant-loop-y
invariant-loop-y l = record { odd : l.x % 2 ≡ 1; kept : gcd_of l.x l.y ≡ gcd_of l.fn.odd l.fn.other }

abbrev pub decreases-loop-y : goal.decreases-loop-y
decreases-loop-y l = l.x + l.y
