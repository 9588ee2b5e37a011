-- The number that the parts of a stored one stand for, and what these parts keep.
-- That a problem gives each cost and bound back as it was told rests on it.
use Rattle.nf_num.specs.Rational.{ℚ, frac}
use Rattle.nf_frac.specs.Range.{AreParts}
use Rattle.nf_prob.specs.declared.number.Parts.{Parts}
use Rattle.nf_prob.specs.declared.number.Parts.TheVariants.{Small, Wide}

-- A numerator over a denominator, or the number that lies elsewhere.
abbrev pub number_of : Parts → ℚ
number_of (Small den num) = frac num den
number_of (Wide value) = value.value

-- A numerator and a denominator are in lowest terms.
abbrev pub IsReduced : Parts → Type 0
IsReduced (Small den num) = AreParts num den
IsReduced (Wide value) = Unit
