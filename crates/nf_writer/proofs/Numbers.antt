-- Counts and amounts as they are written are read back.
use Rattle.std.proofs.Common.{◌≡◌, ℕ, zero, suc, ◌+◌, ◌-◌, ◌*◌, ◌/◌, ◌%◌, ◌^◌, ◌<◌, ◌≤◌, ◌==◌, ◌&&◌, ◌||◌, Bool, true, false, cond, nat_le, List, [], ◌∷◌, ◌++◌, length, refl, sym, ◌∙◌, ap, subst, arith, ℤ, pos, negsuc, decimal, append-nil, Result, Ok, Err, length-append, inl, inr, if◌then◌else◌}
use Rattle.std.specs.Prelude.{unsigned_abs, neg_ℤ}
use Rattle.std.proofs.lemmas.Bool.{eqb-true}
use Rattle.std.specs.List.{list_all, position_or_len, before_first, after_first}
use Rattle.std.specs.Char.{is_ascii_digit}
use Rattle.std.proofs.Math.Seq.{take-append_seam, drop-append-add}
use Rattle.std.proofs.lemmas.Bool.Decides.{nat_tests}
use Rattle.std.proofs.lemmas.Fmt.{length-decimal-le}
use Rattle.nf_text.specs.declared.bytes.Class.TheVariants.{Digit}
use Rattle.nf_text.specs.Bytes.{class_of, is_number_byte}
use Rattle.nf_text.specs.Tokens.{AllPass, IsNumber}
use Rattle.nf_frac.specs.declared.amount.Amount.{Amount}
use Rattle.nf_frac.specs.declared.amount.AmountFault.{AmountFault}
use Rattle.nf_frac.specs.Amounts.{amount_read, magnitude_read, whole_read, parts_read, is_point, signed_amount}
use Rattle.nf_frac.specs.Digits.{are_digits, decimal_value}
use Rattle.nf_frac.specs.declared.amount.AmountFault.TheVariants as fault
use Rattle.std.proofs.lemmas.Bool.{leb-true}
use Rattle.nf_program.proofs.Things.{split_and}
use Rattle.nf_frac.proofs.AmountFacts.{whole_small, rest_small}
use Rattle.nf_frac.proofs.NumeralFacts.{decimal_all, decimal_some, value_decimal}
use Rattle.nf_writer.specs.Canonical.{fraction_text, sign_text, size_text, amount_text}

-- ---- digits

digit_class : (d : ℕ) → d < 10 → class_of (48 + d) ≡ Digit
digit_class zero h = refl
digit_class (suc zero) h = refl
digit_class (suc (suc zero)) h = refl
digit_class (suc (suc (suc zero))) h = refl
digit_class (suc (suc (suc (suc zero)))) h = refl
digit_class (suc (suc (suc (suc (suc zero))))) h = refl
digit_class (suc (suc (suc (suc (suc (suc zero)))))) h = refl
digit_class (suc (suc (suc (suc (suc (suc (suc zero))))))) h = refl
digit_class (suc (suc (suc (suc (suc (suc (suc (suc zero)))))))) h = refl
digit_class (suc (suc (suc (suc (suc (suc (suc (suc (suc zero))))))))) h = refl
digit_class (suc (suc (suc (suc (suc (suc (suc (suc (suc (suc d)))))))))) h = absurd (omega arith)

class_digit : (b : ℕ) → is_ascii_digit b ≡ true → class_of b ≡ Digit
class_digit b h =
    let low : 48 ≤ b = grind (arith, nat_tests, h) in
    let high : b ≤ 57 = grind (arith, nat_tests, h) in
    let same : 48 + (b - 48) ≡ b = omega arith in
    ap class_of (sym same) ∙ digit_class (b - 48) (omega arith)

digits_pass : (ds : List ℕ) → list_all is_ascii_digit ds ≡ true → AllPass is_number_byte ds
digits_pass [] h = tt
digits_pass (d ∷ ds) h =
    let parts : (is_ascii_digit d ≡ true) × (list_all is_ascii_digit ds ≡ true) = grind (arith, h) in
    (ap (λ (b : Bool). b || (d == 46)) parts.0, digits_pass ds parts.1)

pass_append : (a b : List ℕ) → AllPass is_number_byte a → AllPass is_number_byte b → AllPass is_number_byte (a ++ b)
pass_append [] b h k = k
pass_append (x ∷ a) b h k = (h.0, pass_append a b h.1 k)

one_pass : (d : ℕ) → d < 10 → is_ascii_digit (48 + d) ≡ true
one_pass d h = grind (arith, nat_tests)

-- digits and what a number goes on with
number_by : (ds more : List ℕ) → 0 < length ds → list_all is_ascii_digit ds ≡ true → AllPass is_number_byte more → IsNumber (ds ++ more)
number_by [] more some h k = absurd (omega arith)
number_by (d ∷ ds) more some h k =
    let parts : (is_ascii_digit d ≡ true) × (list_all is_ascii_digit ds ≡ true) = grind (arith, h) in
    (d, ds ++ more, inl refl, class_digit d parts.0, pass_append ds more (digits_pass ds parts.1) k)

minus_by : (bs : List ℕ) (h : IsNumber bs) → bs ≡ h.0 ∷ h.1 → IsNumber (45 ∷ bs)
minus_by bs h e = (h.0, h.1, inr (ap (λ (x : List ℕ). 45 ∷ x) e), h.3, h.4)

-- ---- counts

module _ (n : ℕ) (small : n < 1_000_000_000) where
  wide : n < 10 ^ 64
  wide = omega (arith, small)

  pub count_number : IsNumber (decimal n)
  count_number = subst IsNumber (append-nil (decimal n)) (number_by (decimal n) [] (decimal_some n wide) (decimal_all n wide) tt)

  pub count_digits : are_digits (decimal n) ≡ true
  count_digits = grind (arith, nat_tests, decimal_some n wide, decimal_all n wide)

  pub count_short : length (decimal n) ≤ 9
  count_short = length-decimal-le 9 n (omega arith) (omega (arith, small)) (omega (arith, small))

  pub count_value : n ≡ decimal_value (decimal n)
  count_value = sym (value_decimal n wide)

-- ---- amounts

no_point : (d : ℕ) → is_ascii_digit d ≡ true → is_point d ≡ false
no_point d h = grind (arith, nat_tests, h)

point_none : (ds : List ℕ) → list_all is_ascii_digit ds ≡ true → position_or_len is_point ds ≡ length ds
point_none [] h = refl
point_none (d ∷ ds) h =
    let parts : (is_ascii_digit d ≡ true) × (list_all is_ascii_digit ds ≡ true) = grind (arith, h) in
    rw (no_point d parts.0, point_none ds parts.1) (omega arith)

point_at : (ds es : List ℕ) → list_all is_ascii_digit ds ≡ true → position_or_len is_point (ds ++ 46 ∷ es) ≡ length ds
point_at [] es h = refl
point_at (d ∷ ds) es h =
    let parts : (is_ascii_digit d ≡ true) × (list_all is_ascii_digit ds ≡ true) = grind (arith, h) in
    rw (no_point d parts.0, point_at ds es parts.1) (omega arith)

module _ (w : ℕ) (small : w < 1_000_000_000) where
  read_whole : magnitude_read (decimal w) ≡ Ok (w * 1000)
  read_whole =
      let same : (length (decimal w) == length (decimal w)) ≡ true = grind (arith) in
      let digits : are_digits (decimal w) ≡ true = count_digits w small in
      let short : nat_le (length (decimal w)) 9 ≡ true = grind (arith, nat_tests, count_short w small) in
      rw (point_none (decimal w) (decimal_all w (wide w small)), same, digits, short, value_decimal w (wide w small)) refl

  read_parts : (rest : List ℕ) → are_digits rest ≡ true → nat_le (length rest) 3 ≡ true → magnitude_read (decimal w ++ 46 ∷ rest) ≡ Ok (w * 1000 + decimal_value rest * 10 ^ (3 - length rest))
  read_parts rest good few =
      let digits : are_digits (decimal w) ≡ true = count_digits w small in
      let short : nat_le (length (decimal w)) 9 ≡ true = grind (arith, nat_tests, count_short w small) in
      let longer : (length (decimal w) == length (decimal w ++ 46 ∷ rest)) ≡ false = grind (arith, length-append (decimal w) (46 ∷ rest)) in
      rw (
        point_at (decimal w) rest (decimal_all w (wide w small)),
        longer,
        take-append_seam (decimal w) (46 ∷ rest),
        drop-append-add (decimal w) (46 ∷ rest) 1,
        digits,
        good,
        short,
        few,
        value_decimal w (wide w small),
      ) refl

digit_worth : (d : ℕ) → d < 10 → decimal_value ((48 + d) ∷ []) ≡ d
digit_worth zero h = refl
digit_worth (suc zero) h = refl
digit_worth (suc (suc zero)) h = refl
digit_worth (suc (suc (suc zero))) h = refl
digit_worth (suc (suc (suc (suc zero)))) h = refl
digit_worth (suc (suc (suc (suc (suc zero))))) h = refl
digit_worth (suc (suc (suc (suc (suc (suc zero)))))) h = refl
digit_worth (suc (suc (suc (suc (suc (suc (suc zero))))))) h = refl
digit_worth (suc (suc (suc (suc (suc (suc (suc (suc zero)))))))) h = refl
digit_worth (suc (suc (suc (suc (suc (suc (suc (suc (suc zero))))))))) h = refl
digit_worth (suc (suc (suc (suc (suc (suc (suc (suc (suc (suc d)))))))))) h = absurd (omega arith)

two_worth : (a b : ℕ) → a < 10 → b < 10 → decimal_value ((48 + a) ∷ (48 + b) ∷ []) ≡ a * 10 + b
two_worth a b small_a small_b = let va = digit_worth a small_a in let vb = digit_worth b small_b in omega (arith, va, vb)

three_worth : (a b c : ℕ) → a < 10 → b < 10 → c < 10 → decimal_value ((48 + a) ∷ (48 + b) ∷ (48 + c) ∷ []) ≡ (a * 10 + b) * 10 + c
three_worth a b c small_a small_b small_c = let va = digit_worth a small_a in let vb = digit_worth b small_b in let vc = digit_worth c small_c in omega (arith, va, vb, vc)

-- what stands behind the point is read as the rest, and a number may hold it
record IsRest (f : ℕ) (bs : List ℕ) : Type 0 where
  passes : AllPass is_number_byte bs
  reads : (w : ℕ) → w < 1_000_000_000 → magnitude_read (decimal w ++ bs) ≡ Ok (w * 1000 + f)

rest_by : (f : ℕ) (rest : List ℕ) → are_digits rest ≡ true → nat_le (length rest) 3 ≡ true → decimal_value rest * 10 ^ (3 - length rest) ≡ f → IsRest f (46 ∷ rest)
rest_by f rest good few worth =
    let all : list_all is_ascii_digit rest ≡ true = grind (arith, nat_tests, good) in
    record { passes = (refl, digits_pass rest all); reads = λ w small. read_parts w small rest good few ∙ ap (λ (k : ℕ). Ok (w * 1000 + k)) worth }

one_digit : (a : ℕ) → a < 10 → are_digits ((48 + a) ∷ []) ≡ true
one_digit a h = let d = one_pass a h in grind (arith, nat_tests, d)

two_digits : (a b : ℕ) → a < 10 → b < 10 → are_digits ((48 + a) ∷ (48 + b) ∷ []) ≡ true
two_digits a b h k = let d = one_pass a h in let e = one_pass b k in grind (arith, nat_tests, d, e)

three_digits : (a b c : ℕ) → a < 10 → b < 10 → c < 10 → are_digits ((48 + a) ∷ (48 + b) ∷ (48 + c) ∷ []) ≡ true
three_digits a b c h k l = let d = one_pass a h in let e = one_pass b k in let f = one_pass c l in grind (arith, nat_tests, d, e, f)

module _ (f : ℕ) (small : f < 1000) where
  hundreds : f / 100 < 10
  hundreds = omega arith

  rest_one : f % 100 ≡ 0 → IsRest f (46 ∷ (48 + f / 100) ∷ [])
  rest_one e =
      let v = digit_worth (f / 100) hundreds in
      rest_by f ((48 + f / 100) ∷ []) (one_digit (f / 100) hundreds) refl (let two : decimal_value ((48 + f / 100) ∷ []) * 100 ≡ f = omega (arith, v) in two)

  rest_two : f % 10 ≡ 0 → IsRest f (46 ∷ (48 + f / 100) ∷ (48 + f / 10 % 10) ∷ [])
  rest_two e =
      let tens : f / 10 % 10 < 10 = omega arith in
      let v = two_worth (f / 100) (f / 10 % 10) hundreds tens in
      rest_by f ((48 + f / 100) ∷ (48 + f / 10 % 10) ∷ []) (two_digits (f / 100) (f / 10 % 10) hundreds tens) refl
      (let two : decimal_value ((48 + f / 100) ∷ (48 + f / 10 % 10) ∷ []) * 10 ≡ f = omega (arith, v) in two)

  rest_three : IsRest f (46 ∷ (48 + f / 100) ∷ (48 + f / 10 % 10) ∷ (48 + f % 10) ∷ [])
  rest_three =
      let tens : f / 10 % 10 < 10 = omega arith in
      let ones : f % 10 < 10 = omega arith in
      let v = three_worth (f / 100) (f / 10 % 10) (f % 10) hundreds tens ones in
      rest_by f ((48 + f / 100) ∷ (48 + f / 10 % 10) ∷ (48 + f % 10) ∷ []) (three_digits (f / 100) (f / 10 % 10) (f % 10) hundreds tens ones) refl
      (let two : decimal_value ((48 + f / 100) ∷ (48 + f / 10 % 10) ∷ (48 + f % 10) ∷ []) * 1 ≡ f = omega (arith, v) in two)

rest_none : IsRest 0 []
rest_none = record { passes = tt; reads = λ w small. ap magnitude_read (append-nil (decimal w)) ∙ read_whole w small ∙ ap (λ (k : ℕ). Ok k) (omega arith) }

rest_is : (f : ℕ) → f < 1000 → IsRest f (fraction_text f)
rest_is f small = by (f == 0) (f % 100 == 0) (f % 10 == 0) refl refl refl where
  by : (a b c : Bool) → (f == 0) ≡ a → (f % 100 == 0) ≡ b → (f % 10 == 0) ≡ c
      → IsRest f (if a then [] else (if b then 46 ∷ (48 + f / 100) ∷ [] else (if c then 46 ∷ (48 + f / 100) ∷ (48 + f / 10 % 10) ∷ [] else 46 ∷ (48 + f / 100) ∷ (48 + f / 10 % 10) ∷ (48 + f % 10) ∷ [])))
  by true b c e g h = subst (λ (k : ℕ). IsRest k []) (sym (eqb-true f 0 e)) rest_none
  by false true c e g h = rest_one f small (eqb-true (f % 100) 0 g)
  by false false true e g h = rest_two f small (eqb-true (f % 10) 0 h)
  by false false false e g h = rest_three f small

module _ (n : ℕ) (most : n ≤ 999_999_999_999) where
  whole_part : n / 1000 < 1_000_000_000
  whole_part = omega arith

  rest_part : n % 1000 < 1000
  rest_part = omega arith

  size_number : IsNumber (size_text n)
  size_number = number_by (decimal (n / 1000)) (fraction_text (n % 1000)) (decimal_some (n / 1000) (wide (n / 1000) whole_part)) (decimal_all (n / 1000) (wide (n / 1000) whole_part)) (rest_is (n % 1000) rest_part).passes

  size_back : magnitude_read (size_text n) ≡ Ok n
  size_back = (rest_is (n % 1000) rest_part).reads (n / 1000) whole_part ∙ ap (λ (k : ℕ). Ok k) (omega arith)

not_minus : (b : ℕ) → is_ascii_digit b ≡ true → (b == 45) ≡ false
not_minus b h = grind (arith, nat_tests, h)

plain_amount : (ds more : List ℕ) → 0 < length ds → list_all is_ascii_digit ds ≡ true → amount_read (ds ++ more) ≡ signed_amount pos (magnitude_read (ds ++ more))
unfolding amount_read
plain_amount [] more some h = absurd (omega arith)
plain_amount (d ∷ ds) more some h =
    let parts : (is_ascii_digit d ≡ true) × (list_all is_ascii_digit ds ≡ true) = grind (arith, h) in
    rw (not_minus d parts.0) refl

-- an amount is written as a number that is read as it
pub amount_number : (a : Amount) → unsigned_abs a.thousandths ≤ 999_999_999_999 → IsNumber (amount_text a)
unfolding amount_text
amount_number a most = by a.thousandths most where
  headed : (ds more : List ℕ) → 0 < length ds → list_all is_ascii_digit ds ≡ true → AllPass is_number_byte more → IsNumber (45 ∷ (ds ++ more))
  headed [] more some h k = absurd (omega arith)
  headed (d ∷ ds) more some h k =
      let parts : (is_ascii_digit d ≡ true) × (list_all is_ascii_digit ds ≡ true) = grind (arith, h) in
      (d, ds ++ more, inr refl, class_digit d parts.0, pass_append ds more (digits_pass ds parts.1) k)

  by : (z : ℤ) → unsigned_abs z ≤ 999_999_999_999 → IsNumber (sign_text z ++ size_text (unsigned_abs z))
  by (pos n) le = size_number n le
  by (negsuc n) le =
      let w = suc n / 1000 in
      let small : w < 1_000_000_000 = whole_part (suc n) le in
      headed (decimal w) (fraction_text (suc n % 1000)) (decimal_some w (wide w small)) (decimal_all w (wide w small)) (rest_is (suc n % 1000) (rest_part (suc n) le)).passes

pub amount_back : (a : Amount) → unsigned_abs a.thousandths ≤ 999_999_999_999 → amount_read (amount_text a) ≡ Ok a
unfolding amount_text amount_read
amount_back a most = by a.thousandths most where
  by : (z : ℤ) → unsigned_abs z ≤ 999_999_999_999 → amount_read (sign_text z ++ size_text (unsigned_abs z)) ≡ Ok (record { thousandths = z })
  by (pos n) le =
      let w = n / 1000 in
      let small : w < 1_000_000_000 = whole_part n le in
      plain_amount (decimal w) (fraction_text (n % 1000)) (decimal_some w (wide w small)) (decimal_all w (wide w small)) ∙ ap (signed_amount pos) (size_back n le)
  by (negsuc n) le = ap (signed_amount (λ k. neg_ℤ (pos k))) (size_back (suc n) le)

-- ---- an amount that is read is in range

passed_ok : {A : Type 0} (b : Bool) (r : Result A AmountFault) (e : AmountFault) (y : A) → cond b r (Err e) ≡ Ok y → (b ≡ true) × (r ≡ Ok y)
passed_ok true r e y h = (refl, h)
passed_ok false r e y h = absurd cc

whole_ok : ℕ → Result ℕ AmountFault
whole_ok n = Ok n

ok_same : (x y : ℕ) → whole_ok x ≡ whole_ok y → x ≡ y
unfolding whole_ok
ok_same x y e = cc

whole_most : (ds : List ℕ) (n : ℕ) → whole_read ds ≡ Ok n → n ≤ 999_999_999_999
unfolding whole_ok
whole_most ds n h =
    let a = passed_ok (are_digits ds) (cond (nat_le (length ds) 9) (Ok (decimal_value ds * 1000)) (Err fault.Wide)) fault.Form n h in
    let b = passed_ok (nat_le (length ds) 9) (Ok (decimal_value ds * 1000)) fault.Wide n a.1 in
    let short : length ds ≤ 9 = grind (arith, nat_tests, b.0) in
    let small = whole_small ds a.0 short in
    let same = ok_same (decimal_value ds * 1000) n b.1 in
    omega (arith, small, same)

parts_most : (whole rest : List ℕ) (n : ℕ) → parts_read whole rest ≡ Ok n → n ≤ 999_999_999_999
unfolding whole_ok
parts_most whole rest n h =
    let a = passed_ok (are_digits whole && are_digits rest) (cond (nat_le (length whole) 9 && nat_le (length rest) 3) (Ok (decimal_value whole * 1000 + decimal_value rest * 10 ^ (3 - length rest))) (Err fault.Wide)) fault.Form n h in
    let b = passed_ok (nat_le (length whole) 9 && nat_le (length rest) 3) (Ok (decimal_value whole * 1000 + decimal_value rest * 10 ^ (3 - length rest))) fault.Wide n a.1 in
    let digits = split_and (are_digits whole) (are_digits rest) a.0 in
    let lens = split_and (nat_le (length whole) 9) (nat_le (length rest) 3) b.0 in
    let short : length whole ≤ 9 = leb-true (length whole) 9 lens.0 in
    let few : length rest ≤ 3 = leb-true (length rest) 3 lens.1 in
    let small = whole_small whole digits.0 short in
    let less = rest_small rest digits.1 few in
    let same = ok_same (decimal_value whole * 1000 + decimal_value rest * 10 ^ (3 - length rest)) n b.1 in
    omega (arith, small, less, same)

magnitude_most : (text : List ℕ) (n : ℕ) → magnitude_read text ≡ Ok n → n ≤ 999_999_999_999
magnitude_most text n h = by (position_or_len is_point text == length text) h where
  by : (b : Bool) → cond b (whole_read text) (parts_read (before_first is_point text) (after_first is_point text)) ≡ Ok n → n ≤ 999_999_999_999
  by true e = whole_most text n e
  by false e = parts_most (before_first is_point text) (after_first is_point text) n e

amount_ok : Amount → Result Amount AmountFault
amount_ok a = Ok a

same_amount : (a b : Amount) → amount_ok a ≡ amount_ok b → a ≡ b
unfolding amount_ok
same_amount a b e = cc

signed_most : (sign : ℕ → ℤ) (r : Result ℕ AmountFault) (a : Amount) → ((n : ℕ) → unsigned_abs (sign n) ≡ n) → ((n : ℕ) → r ≡ Ok n → n ≤ 999_999_999_999) → signed_amount sign r ≡ Ok a → unsigned_abs a.thousandths ≤ 999_999_999_999
unfolding amount_ok
signed_most sign (Err f) a h most e = absurd cc
signed_most sign (Ok n) a h most e =
    let same = same_amount (record { thousandths = sign n }) a e in
    subst (λ (x : Amount). unsigned_abs x.thousandths ≤ 999_999_999_999) same (subst (λ (k : ℕ). k ≤ 999_999_999_999) (sym (h n)) (most n refl))

minus_abs : (n : ℕ) → unsigned_abs (neg_ℤ (pos n)) ≡ n
minus_abs zero = refl
minus_abs (suc n) = refl

pub amount_small : (text : List ℕ) (a : Amount) → amount_read text ≡ Ok a → unsigned_abs a.thousandths ≤ 999_999_999_999
unfolding amount_read
amount_small [] a e = absurd cc
amount_small (b ∷ text) a e = by (b == 45) e where
  by : (t : Bool) → cond t (signed_amount (λ n. neg_ℤ (pos n)) (magnitude_read text)) (signed_amount pos (magnitude_read (b ∷ text))) ≡ Ok a → unsigned_abs a.thousandths ≤ 999_999_999_999
  by true h = signed_most (λ n. neg_ℤ (pos n)) (magnitude_read text) a minus_abs (magnitude_most text) h
  by false h = signed_most pos (magnitude_read (b ∷ text)) a (λ n. refl) (magnitude_most (b ∷ text)) h
