use Rattle.std.proofs.Common.{◌≡◌, take}
use Rattle.nf_frac.specs.Digits.{decimal_value}
use Rattle.nf_dimacs.proofs.number.value.Given as goal

abbrev pub invariant-loop-digit : goal.invariant-loop-digit
invariant-loop-digit l = l.value ≡ decimal_value (take l.digit-index l.digits)
