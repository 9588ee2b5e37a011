-- The text of a fraction, and the fraction that a text writes.
-- What `Frac::text`, `read_frac` and the printing of fractions promise rests on these words.
use Rattle.std.specs.Prelude.{ℕ, ◌-◌, ◌^◌, ◌==◌, ◌&&◌, ◌||◌, not, Bool, false, List, [], ◌∷◌, ◌++◌, length, pos, if◌then◌else◌, codes}
use Rattle.std.specs.Bool.{nat_le}
use Rattle.std.specs.Fmt.{decimal, signed_decimal}
use Rattle.std.specs.List.{before_first, after_first, position_or_len}
use Rattle.std.specs.Char.{is_ascii_digit}
use Rattle.std.specs.declared.result.Result.{Result}
use Rattle.std.specs.declared.result.Result.TheVariants.{Ok, Err}
use Rattle.nf_num.specs.Gcd.{gcd}
use Rattle.nf_num.specs.Rational.{ℚ, numer, denom, frac, neg_ℚ}
use Rattle.nf_frac.specs.Digits.{is_numeral, decimal_value}
use Rattle.nf_frac.specs.declared.read.NumberFault.{NumberFault}
use Rattle.nf_frac.specs.declared.read.NumberFault.TheVariants as fault
use Rattle.nf_frac.specs.declared.passed.Op.{Op}
use Rattle.nf_frac.specs.declared.passed.Op.TheVariants.{Add, Sub, Mul, Div}

-- `p`, or `p/q` where q is above 1.
unfoldable pub frac_text : ℚ → List ℕ
frac_text x = if denom x == 1 then signed_decimal (numer x) else signed_decimal (numer x) ++ (codes "/" ++ decimal (denom x))

-- The sign of an operation.
abbrev pub op_text : Op → List ℕ
op_text Add = codes "+"
op_text Sub = codes "-"
op_text Mul = codes "*"
op_text Div = codes "/"

-- The greatest part of a fraction.
abbrev pub most_part : ℕ
most_part = 2 ^ 127 - 1

-- The slash of a fraction is 47.
abbrev pub is_slash : ℕ → Bool
is_slash b = b == 47

-- The whole number num.
abbrev pub integer_read : ℕ → Result ℚ NumberFault
integer_read num = if nat_le num most_part then Ok (frac (pos num) 1) else Err fault.Wide

-- The fraction num / den.
abbrev pub ratio_read : ℕ → ℕ → Result ℚ NumberFault
ratio_read num den =
    if not (nat_le num most_part && nat_le den most_part) then Err fault.Wide
    else if den == 0 then Err fault.ZeroDenominator
    else if den == 1 || not (gcd num den == 1) then Err fault.NotLowest
    else Ok (frac (pos num) den)

-- A fraction without its sign: digits, or digits on both sides of a slash, each without leading zeros.
abbrev pub unsigned_read : List ℕ → Result ℚ NumberFault
unsigned_read text =
    if position_or_len is_slash text == length text
    then (if is_numeral text then integer_read (decimal_value text) else Err fault.Digit)
    else (if is_numeral (before_first is_slash text) && is_numeral (after_first is_slash text)
    then ratio_read (decimal_value (before_first is_slash text)) (decimal_value (after_first is_slash text))
    else Err fault.Digit)

-- Whether a text begins with a digit.
abbrev pub begins_with_digit : List ℕ → Bool
begins_with_digit [] = false
begins_with_digit (d ∷ ds) = is_ascii_digit d

-- Whether `-` may stand before a text: before a digit, but before `0` only where a digit follows.
abbrev pub may_be_negated : List ℕ → Bool
may_be_negated [] = false
may_be_negated (d ∷ ds) = if d == 48 then begins_with_digit ds else is_ascii_digit d

-- A fraction with `-` before it.
abbrev pub negated : Result ℚ NumberFault → Result ℚ NumberFault
negated (Ok x) = Ok (neg_ℚ x)
negated (Err e) = Err e

-- The fraction that a text writes, or the first thing that is wrong with it: 43 is `+`, 45 is `-`.
unfoldable pub frac_read : List ℕ → Result ℚ NumberFault
frac_read [] = Err fault.Empty
frac_read (b ∷ text) =
    if b == 43 then Err fault.Sign
    else if b == 45 then (if may_be_negated text then negated (unsigned_read text) else Err fault.Sign)
    else unsigned_read (b ∷ text)
