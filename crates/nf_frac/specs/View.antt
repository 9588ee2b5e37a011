-- A fraction's fields and its value: in lowest terms each tells the other. The view of `Frac` as a number rests on it.
use Rattle.std.proofs.Common.{◌≡◌, ℤ, ℕ}
use Rattle.nf_num.specs.Rational.{numer, denom, frac}
use Rattle.nf_num.proofs.Parts.{numer-frac, denom-frac}
use Rattle.nf_frac.specs.Range.{AreParts}
use Rattle.nf_frac.specs.declared.frac.Frac.TheInside.{Inside}

-- The value of two parts in lowest terms has this numerator,
pub numer-view : (n : ℤ) (d : ℕ) → AreParts n d → numer (frac n d) ≡ n
numer-view n d h = numer-frac n d h.positive h.lowest

-- and this denominator,
pub denom-view : (n : ℤ) (d : ℕ) → AreParts n d → denom (frac n d) ≡ d
denom-view n d h = denom-frac n d h.positive h.lowest

-- so the value gives the fields back.
pub parts_back : (a : Inside) → AreParts a.num a.den → ◌≡◌ {A = Inside} (record { num = numer (frac a.num a.den); den = denom (frac a.num a.den) }) a
parts_back a h = λ i. record { num = numer-view a.num a.den h i; den = denom-view a.num a.den h i }
