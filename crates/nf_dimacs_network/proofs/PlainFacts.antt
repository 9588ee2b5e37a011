-- Cells of letters, digits and `-`: they say a name, and whole numbers of at most nine digits say an amount.
use Rattle.std.proofs.Common.{◌≡◌, ℕ, zero, suc, ◌+◌, ◌*◌, ◌<◌, ◌≤◌, ◌^◌, ◌==◌, ◌&&◌, ◌||◌, Bool, true, false, cond, not, nat_le, map, List, [], ◌∷◌, ◌++◌, length, Option, None, Some, ℤ, pos, negsuc, ◌*ℤ◌, unsigned_abs, refl, sym, ◌∙◌, ap, ap₂, subst, arith, decimal, codes}
use Rattle.std.specs.List.{list_all, position_or_len, before_first, after_first}
use Rattle.std.specs.Prelude.{neg_ℤ, nat_eq}
use Rattle.std.specs.Char.{is_ascii_digit, is_ascii_alphanumeric, to_ascii_lowercase}
use Rattle.std.specs.Fmt.{signed_decimal}
use Rattle.std.specs.Str.{bytes_eq, str_eq_ignore_ascii_case}
use Rattle.std.specs.Result.{result_ok}
use Rattle.std.specs.Option.{option_map}
use Rattle.std.specs.declared.result.Result.{Result}
use Rattle.std.specs.declared.result.Result.TheVariants.{Ok, Err}
use Rattle.std.proofs.lemmas.Bool.Decides.{nat_tests}
use Rattle.std.proofs.lemmas.Fmt.{length-decimal-le_wide}
use Rattle.nf_frac.specs.declared.amount.Amount.{Amount}
use Rattle.nf_frac.specs.declared.amount.AmountFault.{AmountFault}
use Rattle.nf_frac.specs.declared.amount.AmountFault.TheVariants as fault
use Rattle.nf_frac.specs.Amounts.{amount_read, magnitude_read, whole_read, parts_read, is_point, signed_amount}
use Rattle.nf_frac.specs.Digits.{are_digits, decimal_value}
use Rattle.nf_frac.proofs.NumeralFacts.{decimal_all, decimal_some, value_decimal}
use Rattle.nf_cells.specs.Cells.{is_space, trim_start, trim_end, value_of, is_blank, is_name, is_name_byte}
use Rattle.nf_cells.specs.Values.{name_in, name_of, amount_in, amount_of, bound_in, bound_of, supply_in, supply_of, as_supply, cell_by, value_or_bad}
use Rattle.nf_cells.specs.declared.values.Cell.{Cell}
use Rattle.nf_cells.specs.declared.values.Cell.TheVariants.{Missing, Bad, Is}
use Rattle.nf_cells.specs.declared.values.Bound.TheVariants.{Finite, Infinite}
use Rattle.nf_cells.specs.declared.values.Supply.TheVariants as supply
use Rattle.nf_cells.specs.declared.values.Gives.TheVariants as gives
use Rattle.nf_dimacs_network.specs.Rows.{whole}
use Rattle.nf_dimacs_network.proofs.ListFacts.{both}

-- ---- plain texts
abbrev pub is_plain : ℕ → Bool
is_plain b = is_ascii_alphanumeric b || b == 45

abbrev pub is_figure : ℕ → Bool
is_figure b = is_ascii_digit b || b == 45

no-space : (b : ℕ) → is_plain b ≡ true → is_space b ≡ false
no-space b h = grind (arith, nat_tests)

trim_end-plain : (xs : List ℕ) → list_all is_plain xs ≡ true → trim_end xs ≡ xs
trim_end-plain [] h = refl
trim_end-plain (x ∷ xs) h =
    let parts = both (is_plain x) (list_all is_plain xs) h in
    ap (λ (b : Bool). cond (b && list_all is_space xs) [] (x ∷ trim_end xs)) (no-space x parts.0) ∙ ap (λ (ys : List ℕ). x ∷ ys) (trim_end-plain xs parts.1)

value-plain : (xs : List ℕ) → list_all is_plain xs ≡ true → value_of xs ≡ xs
value-plain [] h = refl
value-plain (x ∷ xs) h =
    let parts = both (is_plain x) (list_all is_plain xs) h in
    ap (λ (b : Bool). trim_end (cond b (trim_start xs) (x ∷ xs))) (no-space x parts.0) ∙ trim_end-plain (x ∷ xs) h

-- the first byte settles that two texts differ
pub first-differs : (x y : ℕ) (xs ys : List ℕ) → nat_eq x y ≡ false → bytes_eq (x ∷ xs) (y ∷ ys) ≡ false
first-differs x y xs ys e = ap (λ (b : Bool). b && bytes_eq xs ys) e

pub plain-not : (x y : ℕ) → is_plain x ≡ true → is_plain y ≡ false → nat_eq x y ≡ false
plain-not x y h k = grind (arith, nat_tests)

some-value : (xs : List ℕ) → list_all is_plain xs ≡ true → 0 < length xs → is_blank xs ≡ false
some-value [] h some = absurd (omega arith)
some-value (x ∷ xs) h some =
    let parts = both (is_plain x) (list_all is_plain xs) h in
    first-differs x 46 xs [] (plain-not x 46 parts.0 refl)

-- a cell of such a text says what is read of it
pub cell-plain : {A : Type 0} (read : List ℕ → Option A) (xs : List ℕ) (x : A) → list_all is_plain xs ≡ true → 0 < length xs → read xs ≡ Some x → cell_by read xs ≡ Is x
cell-plain {A = A} read xs x h some e =
    ap (λ (ys : List ℕ). cond (is_blank ys) Missing (value_or_bad (read ys))) (value-plain xs h)
    ∙ ap₂ (λ (b : Bool) (o : Option A). cond b Missing (value_or_bad o)) (some-value xs h some) e

-- ---- names
name-byte : (b : ℕ) → is_plain b ≡ true → is_name_byte b ≡ true
name-byte b h = grind (arith, nat_tests)

name-bytes : (xs : List ℕ) → list_all is_plain xs ≡ true → list_all is_name_byte xs ≡ true
name-bytes [] h = refl
name-bytes (x ∷ xs) h =
    let parts = both (is_plain x) (list_all is_plain xs) h in
    ap₂ (λ (a b : Bool). a && b) (name-byte x parts.0) (name-bytes xs parts.1)

pub name-plain : (xs : List ℕ) → list_all is_plain xs ≡ true → 0 < length xs → length xs ≤ 32 → name_in xs ≡ Is xs
name-plain xs h some few =
    let low : nat_le 1 (length xs) ≡ true = grind (arith, nat_tests) in
    let high : nat_le (length xs) 32 ≡ true = grind (arith, nat_tests) in
    let named : is_name xs ≡ true = ap₂ (λ (a b : Bool). a && b) (ap₂ (λ (a b : Bool). a && b) low high) (name-bytes xs h) in
    cell-plain name_of xs xs h some (ap (λ (b : Bool). cond b (Some xs) None) named)

-- ---- whole numbers
figure-plain : (b : ℕ) → is_figure b ≡ true → is_plain b ≡ true
figure-plain b h = grind (arith, nat_tests)

digit-figure : (b : ℕ) → is_ascii_digit b ≡ true → is_figure b ≡ true
digit-figure b h = ap (λ (c : Bool). c || b == 45) h

every : (p q : ℕ → Bool) → ((b : ℕ) → p b ≡ true → q b ≡ true) → (xs : List ℕ) → list_all p xs ≡ true → list_all q xs ≡ true
every p q f [] h = refl
every p q f (x ∷ xs) h =
    let parts = both (p x) (list_all p xs) h in
    ap₂ (λ (a b : Bool). a && b) (f x parts.0) (every p q f xs parts.1)

module _ (n : ℕ) (small : n < 1_000_000_000) where
  wide : n < 10 ^ 64
  wide = omega (arith, small)

  pub digits-figures : list_all is_figure (decimal n) ≡ true
  digits-figures = every is_ascii_digit is_figure digit-figure (decimal n) (decimal_all n wide)

  pub digits-plain : list_all is_plain (decimal n) ≡ true
  digits-plain = every is_figure is_plain figure-plain (decimal n) digits-figures

  pub digits-some : 0 < length (decimal n)
  digits-some = decimal_some n wide

  pub digits-few : length (decimal n) ≤ 9
  digits-few = length-decimal-le_wide 9 n (omega arith) (omega (arith, small)) wide

-- A whole number of at most nine digits.
pub record IsShort (z : ℤ) : Type 0 where
  pub few : unsigned_abs z < 1_000_000_000

pub figures : (z : ℤ) → IsShort z → list_all is_figure (signed_decimal z) ≡ true
figures (pos n) s = digits-figures n s.few
figures (negsuc n) s = digits-figures (suc n) s.few

pub number-plain : (z : ℤ) → IsShort z → list_all is_plain (signed_decimal z) ≡ true
number-plain z s = every is_figure is_plain figure-plain (signed_decimal z) (figures z s)

pub number-some : (z : ℤ) → IsShort z → 0 < length (signed_decimal z)
number-some (pos n) s = digits-some n s.few
number-some (negsuc n) s = omega arith

pub number-few : (z : ℤ) → IsShort z → length (signed_decimal z) ≤ 10
number-few (pos n) s = omega (arith, digits-few n s.few)
number-few (negsuc n) s = omega (arith, digits-few (suc n) s.few)

-- ---- amounts
no-point : (xs : List ℕ) → list_all is_ascii_digit xs ≡ true → position_or_len is_point xs ≡ length xs
no-point [] h = refl
no-point (x ∷ xs) h =
    let parts = both (is_ascii_digit x) (list_all is_ascii_digit xs) h in
    let other : is_point x ≡ false = grind (arith, nat_tests, parts.0) in
    ap (λ (b : Bool). cond (not b) (1 + position_or_len is_point xs) 0) other ∙ (let e : 1 + position_or_len is_point xs ≡ suc (length xs) = omega (arith, no-point xs parts.1) in e)

same-number : (n : ℕ) → (n == n) ≡ true
same-number n = grind (arith, nat_tests)

abbrev thousands : ℕ → Result ℕ AmountFault
thousands m = Ok (m * 1000)

magnitude-decimal : (n : ℕ) → n < 1_000_000_000 → magnitude_read (decimal n) ≡ Ok (n * 1000)
magnitude-decimal n small =
    let wide : n < 10 ^ 64 = omega (arith, small) in
    let few : nat_le (length (decimal n)) 9 ≡ true = grind (arith, nat_tests, digits-few n small) in
    let digits : are_digits (decimal n) ≡ true = grind (arith, nat_tests, decimal_some n wide, decimal_all n wide) in
    let whole_text : (position_or_len is_point (decimal n) == length (decimal n)) ≡ true = ap (λ (m : ℕ). m == length (decimal n)) (no-point (decimal n) (decimal_all n wide)) ∙ same-number (length (decimal n)) in
    ap (λ (b : Bool). cond b (whole_read (decimal n)) (parts_read (before_first is_point (decimal n)) (after_first is_point (decimal n)))) whole_text
    ∙ ap₂ (λ (b c : Bool). cond b (cond c (Ok (decimal_value (decimal n) * 1000)) (Err fault.Wide)) (Err fault.Form)) digits few
    ∙ ap (λ (m : ℕ). thousands m) (value_decimal n wide)

no-minus : (xs : List ℕ) → 0 < length xs → list_all is_ascii_digit xs ≡ true → amount_read xs ≡ signed_amount pos (magnitude_read xs)
unfolding amount_read
no-minus [] some h = absurd (omega arith)
no-minus (x ∷ xs) some h =
    let parts = both (is_ascii_digit x) (list_all is_ascii_digit xs) h in
    let other : (x == 45) ≡ false = grind (arith, nat_tests, parts.0) in
    ap (λ (b : Bool). cond b (signed_amount (λ n. neg_ℤ (pos n)) (magnitude_read xs)) (signed_amount pos (magnitude_read (x ∷ xs)))) other

with-minus : (xs : List ℕ) → amount_read (45 ∷ xs) ≡ signed_amount (λ n. neg_ℤ (pos n)) (magnitude_read xs)
unfolding amount_read
with-minus xs = refl

pub amount-number : (z : ℤ) → IsShort z → amount_of (signed_decimal z) ≡ Some (whole z)
amount-number (pos n) s =
    let wide : n < 10 ^ 64 = omega (arith, s.few) in
    ap result_ok (no-minus (decimal n) (decimal_some n wide) (decimal_all n wide) ∙ ap (signed_amount pos) (magnitude-decimal n s.few))
amount-number (negsuc n) s = ap result_ok (with-minus (decimal (suc n)) ∙ ap (signed_amount (λ m. neg_ℤ (pos m))) (magnitude-decimal (suc n) s.few))

pub amount-cell : (z : ℤ) → IsShort z → amount_in (signed_decimal z) ≡ Is (whole z)
amount-cell z s = cell-plain amount_of (signed_decimal z) (whole z) (number-plain z s) (number-some z s) (amount-number z s)

-- ---- bounds and supplies, which might be words
not-inf : (xs : List ℕ) → list_all is_figure xs ≡ true → 0 < length xs → str_eq_ignore_ascii_case xs (codes "INF") ≡ false
not-inf [] h some = absurd (omega arith)
not-inf (x ∷ xs) h some =
    let parts = both (is_figure x) (list_all is_figure xs) h in
    let other : nat_eq (to_ascii_lowercase x) 105 ≡ false = grind (arith, nat_tests, parts.0) in
    ap (λ (b : Bool). b && bytes_eq (map to_ascii_lowercase xs) (110 ∷ 102 ∷ [])) other

pub bound-cell : (z : ℤ) → IsShort z → bound_in (signed_decimal z) ≡ Is (Finite (whole z))
bound-cell z s =
    cell-plain bound_of (signed_decimal z) (Finite (whole z)) (number-plain z s) (number-some z s)
    (ap₂ (λ (b : Bool) (o : Option Amount). cond b (Some Infinite) (option_map Finite o)) (not-inf (signed_decimal z) (figures z s) (number-some z s)) (amount-number z s))

neither : {A : Type 0} (p q r s t u : Bool) (x y z : A) → p ≡ false → q ≡ false → r ≡ false → cond (p && s || q && t) x (cond (p && u || r && t) y z) ≡ z
neither false false false s t u x y z a b c = refl
neither true q r s t u x y z a b c = absurd cc
neither false true r s t u x y z a b c = absurd cc
neither false false true s t u x y z a b c = absurd cc

no-word : (xs : List ℕ) → list_all is_figure xs ≡ true → 0 < length xs → supply_of gives.Either xs ≡ option_map (λ a. supply.Amount a) (amount_of xs)
no-word [] h some = absurd (omega arith)
no-word (x ∷ xs) h some =
    let parts = both (is_figure x) (list_all is_figure xs) h in
    let point : nat_eq x 46 ≡ false = grind (arith, nat_tests, parts.0) in
    let supplied : nat_eq x 83 ≡ false = grind (arith, nat_tests, parts.0) in
    let demand : nat_eq x 68 ≡ false = grind (arith, nat_tests, parts.0) in
    neither (nat_eq x 46) (nat_eq x 83) (nat_eq x 68) (bytes_eq xs (83 ∷ [])) (bytes_eq xs []) (bytes_eq xs (68 ∷ [])) (Some supply.OpenSupply) (Some supply.OpenDemand)
    (option_map (λ a. supply.Amount (as_supply gives.Either a)) (amount_of (x ∷ xs))) point supplied demand

pub supply-cell : (z : ℤ) → IsShort z → supply_in gives.Either (signed_decimal z) ≡ Is (supply.Amount (whole z))
supply-cell z s =
    cell-plain (supply_of gives.Either) (signed_decimal z) (supply.Amount (whole z)) (number-plain z s) (number-some z s)
    (no-word (signed_decimal z) (figures z s) (number-some z s) ∙ ap (option_map (λ a. supply.Amount a)) (amount-number z s))
