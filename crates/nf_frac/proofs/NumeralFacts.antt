-- Digits without leading zeros are just what `decimal` writes of their number.
use Rattle.std.proofs.Common.{◌≡◌, ℕ, zero, suc, ◌+◌, ◌*◌, ◌/◌, ◌%◌, ◌^◌, ◌<◌, ◌≤◌, true, nat_lt, List, [], ◌∷◌, ◌++◌, length, get_or, refl, sym, ◌∙◌, ap, arith, decimal, length-append, append_assoc, append-nil}
use lib.ListN.{get_or-append}
use Rattle.std.specs.List.{list_all}
use Rattle.std.specs.Char.{is_ascii_digit, digit_value}
use Rattle.std.specs.Str.Parse.{AllDigits, digits_value, digits_value_after}
use Rattle.std.proofs.lemmas.Fmt.{decimal_is_IsNumeral_wide, decimal_by_steps_wide, decimal_step_wide, decimal_digit}
use Rattle.std.proofs.lemmas.Str.{digit_value_digit}
use Rattle.std.proofs.lemmas.Str.Parse.{digit_from_value}
use Rattle.std.proofs.lemmas.Bool.Decides.{nat_tests}
use Rattle.nf_frac.specs.Digits.{is_numeral, decimal_value}
use Rattle.nf_frac.proofs.DigitFacts.{digits_model}

-- a number above 0 begins with a digit above `0`
pub first_decimal : (n : ℕ) → 0 < n → n < 10 ^ 64 → 48 < get_or (decimal n) 0 0
first_decimal n some small = (decimal_by_steps_wide (λ m ds. (0 < length ds) × (0 < m → 48 < get_or ds 0 0)) (λ m l. (omega arith, λ a. omega arith))
    (λ m ds l h. (omega (arith, length-append ds ((48 + m % 10) ∷ [])), λ a. omega (arith, get_or-append ds ((48 + m % 10) ∷ []) 0 0 h.0, h.1 (omega arith)))) n small).1 some

pub decimal_all : (n : ℕ) → n < 10 ^ 64 → list_all is_ascii_digit (decimal n) ≡ true
decimal_all n small = digits_model.from (decimal n) (decimal_is_IsNumeral_wide n small).0.1

pub decimal_some : (n : ℕ) → n < 10 ^ 64 → 0 < length (decimal n)
decimal_some n small = (decimal_is_IsNumeral_wide n small).0.0

numeral_in : (ds : List ℕ) → list_all is_ascii_digit ds ≡ true → 0 < length ds → (2 ≤ length ds → 48 < get_or ds 0 0) → is_numeral ds ≡ true
numeral_in [] all some first = absurd (omega arith)
numeral_in (d ∷ []) all some first = grind (arith, all)
numeral_in (d ∷ e ∷ ds) all some first =
    let above : 48 < d = first (omega arith) in
    let test : nat_lt 48 d ≡ true = grind (arith, nat_tests, above) in
    rw (test, all) refl

long_some : (n : ℕ) → 2 ≤ length (decimal n) → 0 < n
long_some zero two = absurd (omega (arith, two, ap length (decimal_digit 0 (omega arith))))
long_some (suc n) two = omega arith

pub numeral_decimal : (n : ℕ) → n < 10 ^ 64 → is_numeral (decimal n) ≡ true
numeral_decimal n small = numeral_in (decimal n) (decimal_all n small) (decimal_some n small) (λ two. first_decimal n (long_some n two) small)

pub value_decimal : (n : ℕ) → n < 10 ^ 64 → decimal_value (decimal n) ≡ n
value_decimal n small = (decimal_is_IsNumeral_wide n small).1

pub record IsNumeralText (ds : List ℕ) : Type 0 where
  pub all : list_all is_ascii_digit ds ≡ true
  pub some : 0 < length ds
  pub leading : get_or ds 0 0 ≡ 48 → length ds ≡ 1

pub numeral_out : (ds : List ℕ) → is_numeral ds ≡ true → IsNumeralText ds
numeral_out [] h = absurd (grind (arith, h))
numeral_out (d ∷ []) h = record { all = grind (arith, h); some = omega arith; leading = λ _. refl }
numeral_out (d ∷ e ∷ ds) h =
    let parts : (48 < d) × (list_all is_ascii_digit (d ∷ e ∷ ds) ≡ true) = grind (arith, nat_tests, h) in
    record { all = parts.1; some = omega arith; leading = λ z. absurd (omega (arith, z, parts.0)) }

le_value_after : (n : ℕ) (ds : List ℕ) → n ≤ digits_value_after 10 n ds
le_value_after n [] = omega arith
le_value_after n (c ∷ cs) = omega (arith, le_value_after (n * 10 + digit_value c) cs)

decimal_after : (n : ℕ) (ds : List ℕ) → 0 < n → AllDigits 10 ds → digits_value_after 10 n ds < 10 ^ 64 → decimal (digits_value_after 10 n ds) ≡ decimal n ++ ds
decimal_after n [] some d small = sym (append-nil (decimal n))
decimal_after n (c ∷ cs) some d small =
    let m : ℕ = n * 10 + digit_value c in
    let k = digit_value_digit c (digit_from_value c d.0) in
    let front : m / 10 ≡ n = omega (arith, d.0) in
    let end : 48 + m % 10 ≡ c = omega (arith, d.0) in
    decimal_after m cs (omega arith) d.1 small
    ∙ ap (λ x. x ++ cs) (decimal_step_wide m (omega arith) (omega (arith, le_value_after m cs)) ∙ (λ i. decimal (front i) ++ (end i ∷ [])))
    ∙ append_assoc (decimal n) (c ∷ []) cs

decimal_value_in : (ds : List ℕ) → AllDigits 10 ds → 0 < length ds → (get_or ds 0 0 ≡ 48 → length ds ≡ 1) → digits_value 10 ds < 10 ^ 64 → decimal (digits_value 10 ds) ≡ ds
decimal_value_in [] d some lead small = absurd (omega arith)
decimal_value_in (c ∷ []) d some lead small =
    let k = digit_value_digit c (digit_from_value c d.0) in
    decimal_digit (0 * 10 + digit_value c) (omega (arith, d.0)) ∙ ap (λ x. x ∷ []) (omega arith)
decimal_value_in (c ∷ e ∷ cs) d some lead small =
    let k = digit_value_digit c (digit_from_value c d.0) in
    let no : c ≡ 48 → ⊥ = λ z. omega (arith, lead z) in
    let is : 48 + (0 * 10 + digit_value c) ≡ c = omega arith in
    decimal_after (0 * 10 + digit_value c) (e ∷ cs) (omega arith) d.1 small
    ∙ ap (λ x. x ++ (e ∷ cs)) (decimal_digit (0 * 10 + digit_value c) (omega (arith, d.0)) ∙ ap (λ x. x ∷ []) is)

-- a numeral is what `decimal` writes of its number
pub decimal_numeral : (ds : List ℕ) → is_numeral ds ≡ true → decimal_value ds < 10 ^ 64 → decimal (decimal_value ds) ≡ ds
decimal_numeral ds h small = let t = numeral_out ds h in decimal_value_in ds (digits_model.to ds t.all) t.some t.leading small

-- a numeral above 0 does not begin with `0`
pub numeral_pos : (ds : List ℕ) → is_numeral ds ≡ true → decimal_value ds < 10 ^ 64 → 0 < decimal_value ds → 48 < get_or ds 0 0
numeral_pos ds h small some = ap_lt (decimal_numeral ds h small)
  where
    ap_lt : decimal (decimal_value ds) ≡ ds → 48 < get_or ds 0 0
    ap_lt e = omega (arith, first_decimal (decimal_value ds) some small, ap (λ (l : List ℕ). get_or l 0 0) e)
