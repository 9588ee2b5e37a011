-- Amounts of the data: the text of an amount, and its value as a number.
-- What `read_amount` and `Frac::from_amount` promise rests on these words.
use Rattle.std.specs.Prelude.{ℕ, ◌+◌, ◌-◌, ◌*◌, ◌^◌, ◌≤◌, ◌==◌, ◌&&◌, Bool, List, [], ◌∷◌, length, ℤ, pos, neg_ℤ, unsigned_abs, if◌then◌else◌}
use Rattle.std.specs.Bool.{nat_le}
use Rattle.std.specs.List.{before_first, after_first, position_or_len}
use Rattle.std.specs.declared.result.Result.{Result}
use Rattle.std.specs.declared.result.Result.TheVariants.{Ok, Err}
use Rattle.nf_num.specs.Rational.{ℚ, frac}
use Rattle.nf_frac.specs.Digits.{are_digits, decimal_value}
use Rattle.nf_frac.specs.declared.amount.Amount.{Amount}
use Rattle.nf_frac.specs.declared.amount.AmountFault.{AmountFault}
use Rattle.nf_frac.specs.declared.amount.AmountFault.TheVariants as fault

-- Nine digits before the point and three behind it write no more.
abbrev pub most_thousandths : ℕ
most_thousandths = 999_999_999_999

-- The thousandths that an amount may have.
abbrev pub IsAmount : Amount → Type 0
IsAmount a = unsigned_abs a.thousandths ≤ most_thousandths

-- The number that an amount stands for.
abbrev pub amount_value : Amount → ℚ
amount_value a = frac a.thousandths 1000

-- The point of an amount is 46.
abbrev pub is_point : ℕ → Bool
is_point b = b == 46

-- The thousandths of at most nine digits.
abbrev pub whole_read : List ℕ → Result ℕ AmountFault
whole_read ds =
    if are_digits ds
    then (if nat_le (length ds) 9 then Ok (decimal_value ds * 1000) else Err fault.Wide)
    else Err fault.Form

-- The thousandths of at most nine digits, a point and at most three digits.
abbrev pub parts_read : List ℕ → List ℕ → Result ℕ AmountFault
parts_read whole rest =
    if are_digits whole && are_digits rest
    then (if nat_le (length whole) 9 && nat_le (length rest) 3 then Ok (decimal_value whole * 1000 + decimal_value rest * 10 ^ (3 - length rest)) else Err fault.Wide)
    else Err fault.Form

-- The thousandths of an amount without its sign, or why it is none.
abbrev pub magnitude_read : List ℕ → Result ℕ AmountFault
magnitude_read text =
    if position_or_len is_point text == length text
    then whole_read text
    else parts_read (before_first is_point text) (after_first is_point text)

-- The amount of so many thousandths, with a sign.
abbrev pub signed_amount : (ℕ → ℤ) → Result ℕ AmountFault → Result Amount AmountFault
signed_amount sign (Ok n) = Ok (record { thousandths = sign n })
signed_amount sign (Err e) = Err e

-- The amount that a text writes, or why it is none: 45 is `-`.
unfoldable pub amount_read : List ℕ → Result Amount AmountFault
amount_read [] = Err fault.Empty
amount_read (b ∷ text) = if b == 45 then signed_amount (λ n. neg_ℤ (pos n)) (magnitude_read text) else signed_amount pos (magnitude_read (b ∷ text))
