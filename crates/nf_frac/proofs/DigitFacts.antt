-- Digits: what `parse` reads of them, and the two sides of a mark.
use Rattle.std.proofs.Common.{◌≡◌, ℕ, ◌+◌, ◌-◌, ◌*◌, ◌^◌, ◌<◌, ◌≤◌, Bool, true, false, cond, nat_lt, List, length, get_or, take, drop, Option, None, Some, Result, Err, refl, sym, ◌∙◌, ap, subst, arith, rules, not}
use Rattle.std.specs.List.{list_all, position_or_len, after_first, before_first}
use Rattle.std.specs.Char.{is_ascii_digit, digit_value}
use Rattle.std.specs.Str.{IsUtf8}
use Rattle.std.specs.Str.Parse.{digits_value, ParsesUnsigned}
use Rattle.std.proofs.lemmas.Int.Digits.{digits_value_more}
use Rattle.std.specs.Result.{OkIff}
use Rattle.std.proofs.lemmas.Str.{IsUtf8-from_ascii}
use Rattle.std.proofs.lemmas.Fmt.{IsAscii-from_digits}
use Rattle.std.proofs.lemmas.Str.Parse.{IsNumeralModel, numerals_by_value, parse_digits, digits_value_short, digits_value-take-le}
use Rattle.std.proofs.lemmas.List.Sums.{prefix_len-le-length}
use Rattle.std.proofs.lemmas.List.{take_rest}
use Rattle.std.proofs.lemmas.Bool.{false≢true}
use Rattle.std.proofs.lemmas.Bool.Decides.{nat_tests}
use Rattle.std.proofs.lemmas.List.Folds.{list_all_at}
use Rattle.nf_frac.specs.Digits.{are_digits, decimal_value}

pub digits_model : IsNumeralModel (λ ds. list_all is_ascii_digit ds ≡ true) (digits_value 10)
digits_model = numerals_by_value (λ ds. list_all is_ascii_digit ds ≡ true) (search rules)

pub digits_all : (ds : List ℕ) → are_digits ds ≡ true → list_all is_ascii_digit ds ≡ true
digits_all ds h = grind (arith, nat_tests)

pub digits_some : (ds : List ℕ) → are_digits ds ≡ true → 0 < length ds
digits_some ds h = grind (arith, nat_tests)

pub digits_text : (ds : List ℕ) → are_digits ds ≡ true → IsUtf8 ds
digits_text ds h = IsUtf8-from_ascii ds (IsAscii-from_digits ds (digits_model.to ds (digits_all ds h)))

-- what `parse` answers of digits
pub parse_small : {E : Type 0} (ds : List ℕ) (r : Result ℕ E) → are_digits ds ≡ true → ParsesUnsigned 128 10 ds r → OkIff r ((0 < length ds) × (decimal_value ds < 2 ^ 128)) (decimal_value ds)
parse_small ds r h p = parse_digits digits_model 128 ds r p (digits_all ds h)

pub split_none : (p n : ℕ) → p ≤ n → None ≡ cond (nat_lt p n) (Some p) None → p ≡ n
split_none p n h e = grind (arith, nat_tests, h, e)

pub split_some : (p n at : ℕ) → Some at ≡ cond (nat_lt p n) (Some p) None → (at ≡ p) × (p < n)
split_some p n at e = grind (arith, nat_tests, e)

pub parse_refused : {E : Type 0} (ds text : List ℕ) (r : Result ℕ E) (e : E) → are_digits ds ≡ true → text ≡ ds → ParsesUnsigned 128 10 text r → r ≡ Err e → decimal_value ds < 2 ^ 127 → ⊥
parse_refused ds text r e h same p is small =
    let all : OkIff r ((0 < length ds) × (decimal_value ds < 2 ^ 128)) (decimal_value ds) = parse_small ds r h (subst (λ (l : List ℕ). ParsesUnsigned 128 10 l r) same p) in
    let refused : (0 < length ds) × (decimal_value ds < 2 ^ 128) → ⊥ = subst (λ q. OkIff q ((0 < length ds) × (decimal_value ds < 2 ^ 128)) (decimal_value ds)) is all in
    refused (digits_some ds h, omega arith)

module _ (test : ℕ → Bool) (xs : List ℕ) where
  pub none_found : (r : Option ℕ) → r ≡ cond (nat_lt (position_or_len test xs) (length xs)) (Some (position_or_len test xs)) None → r ≡ None → position_or_len test xs ≡ length xs
  none_found r e is = split_none (position_or_len test xs) (length xs) (prefix_len-le-length (λ x. not (test x)) xs) (sym is ∙ e)

  pub one_found : (r : Option ℕ) (at : ℕ) → r ≡ cond (nat_lt (position_or_len test xs) (length xs)) (Some (position_or_len test xs)) None → r ≡ Some at
      → (position_or_len test xs < length xs) × (take at xs ≡ before_first test xs) × (take (length xs - (at + 1)) (drop (at + 1) xs) ≡ after_first test xs)
  one_found r at e is =
      let found : (at ≡ position_or_len test xs) × (position_or_len test xs < length xs) = split_some (position_or_len test xs) (length xs) at (sym is ∙ e) in
      (found.1, ap (λ (n : ℕ). take n xs) found.0, take_rest xs (at + 1) ∙ ap (λ (n : ℕ). drop (n + 1) xs) found.0)

-- so many digits write no more
pub digits_short : (ds : List ℕ) (k : ℕ) → are_digits ds ≡ true → length ds ≤ k → decimal_value ds < 10 ^ k
digits_short ds k h short = digits_value_short digits_model ds k (digits_all ds h) short

-- each of some digits is one
pub digit_at : (ds : List ℕ) (i : ℕ) → are_digits ds ≡ true → i < length ds → is_ascii_digit (get_or ds i 0) ≡ true
digit_at ds i h inside = by_cases (is_ascii_digit (get_or ds i 0)) refl
  where
    by_cases : (b : Bool) → is_ascii_digit (get_or ds i 0) ≡ b → is_ascii_digit (get_or ds i 0) ≡ true
    by_cases true e = e
    by_cases false e = absurd (false≢true (sym (list_all_at is_ascii_digit ds i 0 inside e) ∙ digits_all ds h))

-- one digit more
pub next_value : (ds : List ℕ) (i value : ℕ) → are_digits ds ≡ true → i < length ds → value ≡ decimal_value (take i ds)
    → value * 10 + (get_or ds i 0 - 48) ≡ decimal_value (take (i + 1) ds)
next_value ds i value h inside is =
    let digit = digit_at ds i h inside in
    let worth : digit_value (get_or ds i 0) ≡ get_or ds i 0 - 48 = grind (arith, nat_tests) in
    rw (digits_value_more 10 ds i inside, worth, is)

-- nine digits, or the first of them, write no more
pub value_small : (ds : List ℕ) (i : ℕ) → are_digits ds ≡ true → length ds ≤ 9 → decimal_value (take i ds) < 1_000_000_000
value_small ds i h short = omega (arith, digits_value-take-le 10 ds i (omega arith), digits_short ds 9 h short)
