-- The text of a fraction is read as that fraction, and no other text is.
use Rattle.std.proofs.Common.{◌≡◌, ℕ, zero, suc, ◌^◌, ◌<◌, ◌==◌, ◌&&◌, ◌||◌, not, Bool, true, false, nat_le, List, [], ◌∷◌, ◌++◌, length, get_or, refl, sym, ◌∙◌, ap, ap₂, subst, arith, ℤ, pos, negsuc, decimal, append-nil, lit<, Result, Ok, Err, IfOk, length-append, if◌then◌else◌}
use Rattle.std.specs.List.{list_all, position_or_len, before_first, after_first}
use Rattle.std.specs.Char.{is_ascii_digit}
use Rattle.std.proofs.Math.Seq.{take-append_seam, drop-append-add}
use Rattle.std.proofs.lemmas.List.Sums.{split_at_first, passes_at_first, prefix_len-le-length}
use Rattle.std.proofs.lemmas.Bool.Decides.{nat_tests}
use Rattle.nf_num.specs.Gcd.{gcd}
use Rattle.nf_num.specs.Rational.{ℚ, numer, denom, frac, neg_ℚ}
use Rattle.nf_num.proofs.Gcd.{gcd-zero, gcd_comm}
use Rattle.std.proofs.lemmas.Fmt.{decimal_digit}
use Rattle.nf_num.proofs.Parts.{frac-numer-denom}
use Rattle.nf_num.proofs.Laws.{frac_neg}
use Rattle.nf_frac.specs.Digits.{is_numeral, decimal_value}
use Rattle.nf_frac.specs.Range.{AreParts}
use Rattle.nf_frac.specs.View.{numer-view, denom-view}
use Rattle.nf_frac.specs.Texts.{frac_text, frac_read, unsigned_read, integer_read, ratio_read, is_slash, may_be_negated, negated, most_part}
use Rattle.nf_frac.specs.declared.read.NumberFault.{NumberFault}
use Rattle.nf_frac.specs.declared.read.NumberFault.TheVariants as fault
use Rattle.nf_frac.proofs.Reduced.{prime}
use Rattle.nf_frac.proofs.NumeralFacts.{first_decimal, decimal_all, decimal_some, numeral_decimal, value_decimal, decimal_numeral}

-- ---- where the slash stands

no_slash : (d : ℕ) → is_ascii_digit d ≡ true → is_slash d ≡ false
no_slash d h = grind (arith, nat_tests, h)

slash_none : (ds : List ℕ) → list_all is_ascii_digit ds ≡ true → position_or_len is_slash ds ≡ length ds
slash_none [] h = refl
slash_none (d ∷ ds) h =
    let parts : (is_ascii_digit d ≡ true) × (list_all is_ascii_digit ds ≡ true) = grind (arith, h) in
    rw (no_slash d parts.0, slash_none ds parts.1) (omega arith)

slash_at : (ds es : List ℕ) → list_all is_ascii_digit ds ≡ true → position_or_len is_slash (ds ++ 47 ∷ es) ≡ length ds
slash_at [] es h = refl
slash_at (d ∷ ds) es h =
    let parts : (is_ascii_digit d ≡ true) × (list_all is_ascii_digit ds ≡ true) = grind (arith, h) in
    rw (no_slash d parts.0, slash_at ds es parts.1) (omega arith)

-- ---- texts without a sign

abbrev unsigned_text : ℕ → ℕ → List ℕ
unsigned_text n d = if d == 1 then decimal n else decimal n ++ (47 ∷ decimal d)

wide : (n : ℕ) → n < 2 ^ 127 → n < 10 ^ 64
wide n h = omega (arith, h)

module _ (n : ℕ) (small : n < 2 ^ 127) where
  read_integer : unsigned_read (decimal n) ≡ Ok (frac (pos n) 1)
  read_integer =
      let most : nat_le n most_part ≡ true = grind (arith, nat_tests, small) in
      let same : (length (decimal n) == length (decimal n)) ≡ true = grind (arith) in
      rw (slash_none (decimal n) (decimal_all n (wide n small)), same, numeral_decimal n (wide n small), value_decimal n (wide n small), most) refl

  read_ratio : (d : ℕ) → d < 2 ^ 127 → 1 < d → gcd n d ≡ 1 → unsigned_read (decimal n ++ (47 ∷ decimal d)) ≡ Ok (frac (pos n) d)
  read_ratio d low more lowest =
      let most : nat_le n most_part ≡ true = grind (arith, nat_tests, small) in
      let most_d : nat_le d most_part ≡ true = grind (arith, nat_tests, low) in
      let longer : (length (decimal n) == length (decimal n ++ (47 ∷ decimal d))) ≡ false = grind (arith, length-append (decimal n) (47 ∷ decimal d)) in
      let some : (d == 0) ≡ false = grind (arith, more) in
      let above : (d == 1) ≡ false = grind (arith, more) in
      let one : (gcd n d == 1) ≡ true = rw lowest refl in
      rw (
        slash_at (decimal n) (decimal d) (decimal_all n (wide n small)),
        longer,
        take-append_seam (decimal n) (47 ∷ decimal d),
        drop-append-add (decimal n) (47 ∷ decimal d) 1,
        numeral_decimal n (wide n small),
        numeral_decimal d (wide d low),
        value_decimal n (wide n small),
        value_decimal d (wide d low),
        most,
        most_d,
        some,
        above,
        one,
      ) refl

  -- a text without a sign begins with a digit, and with one above `0` where the number is above 0
  record Headed (text : List ℕ) : Type 0 where
    first : ℕ
    rest : List ℕ
    whole : text ≡ first ∷ rest
    digit : is_ascii_digit first ≡ true
    above : 0 < n → 48 < first

  headed : (ds text more : List ℕ) → ds ≡ decimal n → text ≡ ds ++ more → Headed text
  headed [] text more e t = absurd (omega (arith, decimal_some n (wide n small), ap length e))
  headed (d ∷ ds) text more e t =
      let all : list_all is_ascii_digit (d ∷ ds) ≡ true = ap (list_all is_ascii_digit) e ∙ decimal_all n (wide n small) in
      record { first = d; rest = ds ++ more; whole = t; digit = grind (arith, all); above = λ some. omega (arith, first_decimal n some (wide n small), ap (λ (l : List ℕ). get_or l 0 0) e) }

  text_headed : (d : ℕ) → Headed (unsigned_text n d)
  text_headed d = by (d == 1)
    where
      by : (b : Bool) → Headed (if b then decimal n else decimal n ++ (47 ∷ decimal d))
      by true = headed (decimal n) (decimal n) [] refl (sym (append-nil (decimal n)))
      by false = headed (decimal n) (decimal n ++ (47 ∷ decimal d)) (47 ∷ decimal d) refl refl

-- ---- the number of a text

read_text : (n d : ℕ) → AreParts (pos n) d → unsigned_read (unsigned_text n d) ≡ Ok (frac (pos n) d)
read_text n d h = by (d == 1) refl
  where
    by : (b : Bool) → (d == 1) ≡ b → unsigned_read (if b then decimal n else decimal n ++ (47 ∷ decimal d)) ≡ Ok (frac (pos n) d)
    by true e = let one : d ≡ 1 = grind (arith, nat_tests, e) in read_integer n h.num_in_range ∙ ap (λ (k : ℕ). Ok (frac (pos n) k)) (sym one)
    by false e = let more : 1 < d = grind (arith, nat_tests, e, h.positive) in read_ratio n h.num_in_range d h.den_in_range more h.lowest

plain : (text : List ℕ) (d : ℕ) (ds : List ℕ) → text ≡ d ∷ ds → is_ascii_digit d ≡ true → frac_read text ≡ unsigned_read text
unfolding frac_read
plain text d ds e h =
    let plus : (d == 43) ≡ false = grind (arith, nat_tests, h) in
    let minus : (d == 45) ≡ false = grind (arith, nat_tests, h) in
    rw (e, plus, minus) refl

minus : (text : List ℕ) → may_be_negated text ≡ true → frac_read (45 ∷ text) ≡ negated (unsigned_read text)
unfolding frac_read
minus text h = rw h refl

negatable : (text : List ℕ) (d : ℕ) (ds : List ℕ) → text ≡ d ∷ ds → is_ascii_digit d ≡ true → 48 < d → may_be_negated text ≡ true
negatable text d ds e h above = let other : (d == 48) ≡ false = grind (arith, nat_tests, above) in rw (e, other, h) refl

-- ---- the text of a number

text_above : (n d : ℕ) → AreParts (pos n) d → frac_text (frac (pos n) d) ≡ unsigned_text n d
unfolding frac_text
text_above n d h = rw (numer-view (pos n) d h, denom-view (pos n) d h) refl

text_below : (n d : ℕ) → AreParts (negsuc n) d → frac_text (frac (negsuc n) d) ≡ 45 ∷ unsigned_text (suc n) d
unfolding frac_text
text_below n d h = rw (numer-view (negsuc n) d h, denom-view (negsuc n) d h) (by (d == 1))
  where
    by : (b : Bool) → (if b then 45 ∷ decimal (suc n) else (45 ∷ decimal (suc n)) ++ (47 ∷ decimal d)) ≡ 45 ∷ (if b then decimal (suc n) else decimal (suc n) ++ (47 ∷ decimal d))
    by true = refl
    by false = refl

turned : (n d : ℕ) → AreParts (negsuc n) d → AreParts (pos (suc n)) d
turned n d h = record { num_in_range = h.num_in_range; den_in_range = h.den_in_range; positive = h.positive; lowest = h.lowest }

turned_back : (n d : ℕ) → AreParts (pos (suc n)) d → AreParts (negsuc n) d
turned_back n d h = record { num_in_range = h.num_in_range; den_in_range = h.den_in_range; positive = h.positive; lowest = h.lowest }

in_parts : (z : ℤ) (d : ℕ) → AreParts z d → frac_read (frac_text (frac z d)) ≡ Ok (frac z d)
in_parts (pos n) d h =
    let t = text_headed n h.num_in_range d in
    ap frac_read (text_above n d h) ∙ plain (unsigned_text n d) t.first t.rest t.whole t.digit ∙ read_text n d h
in_parts (negsuc n) d h =
    let k : AreParts (pos (suc n)) d = turned n d h in
    let t = text_headed (suc n) k.num_in_range d in
    ap frac_read (text_below n d h) ∙ minus (unsigned_text (suc n) d) (negatable (unsigned_text (suc n) d) t.first t.rest t.whole t.digit (t.above (omega arith)))
    ∙ ap negated (read_text (suc n) d k) ∙ ap Ok (frac_neg (pos (suc n)) d h.positive)

-- every number in range is read from its text
pub frac_read-text : (x : ℚ) → AreParts (numer x) (denom x) → frac_read (frac_text x) ≡ Ok x
frac_read-text x h = subst (λ y. frac_read (frac_text y) ≡ Ok y) (frac-numer-denom x) (in_parts (numer x) (denom x) h)

-- ---- whatever is read is written back

record IsUnsigned (text : List ℕ) (x : ℚ) : Type 0 where
  num : ℕ
  den : ℕ
  parts : AreParts (pos num) den
  value : x ≡ frac (pos num) den
  text_is : unsigned_text num den ≡ text

integer_good : (text : List ℕ) → is_numeral text ≡ true → (b : Bool) → nat_le (decimal_value text) most_part ≡ b → IfOk (integer_read (decimal_value text)) (IsUnsigned text)
integer_good text k false e = rw e tt
integer_good text k true e =
    let small : decimal_value text < 2 ^ 127 = grind (arith, nat_tests, e) in
    rw e (record {
      num = decimal_value text;
      den = 1;
      parts = record { num_in_range = small; den_in_range = lit< tt; positive = lit< tt; lowest = prime (decimal_value text) };
      value = refl;
      text_is = decimal_numeral text k (wide (decimal_value text) small);
    })

ratio_good : (text num den : List ℕ) → text ≡ num ++ (47 ∷ den) → is_numeral num ≡ true → is_numeral den ≡ true
    → (b c d : Bool) → (nat_le (decimal_value num) most_part && nat_le (decimal_value den) most_part) ≡ b → (decimal_value den == 0) ≡ c → (decimal_value den == 1 || not (gcd (decimal_value num) (decimal_value den) == 1)) ≡ d
    → IfOk (ratio_read (decimal_value num) (decimal_value den)) (IsUnsigned text)
ratio_good text num den t k l false c d e f g = rw e tt
ratio_good text num den t k l true true d e f g = rw (e, f) tt
ratio_good text num den t k l true false true e f g = rw (e, f, g) tt
ratio_good text num den t k l true false false e f g =
    let num_small : decimal_value num < 2 ^ 127 = grind (arith, nat_tests, e) in
    let den_small : decimal_value den < 2 ^ 127 = grind (arith, nat_tests, e) in
    let some : 0 < decimal_value den = grind (arith, nat_tests, f) in
    let other : (decimal_value den == 1) ≡ false = grind (arith, nat_tests, g) in
    let lowest : gcd (decimal_value num) (decimal_value den) ≡ 1 = grind (arith, nat_tests, g) in
    rw (e, f, g) (record {
      num = decimal_value num;
      den = decimal_value den;
      parts = record { num_in_range = num_small; den_in_range = den_small; positive = some; lowest = lowest };
      value = refl;
      text_is = rw other (ap₂ (λ (u v : List ℕ). u ++ (47 ∷ v)) (decimal_numeral num k (wide (decimal_value num) num_small)) (decimal_numeral den l (wide (decimal_value den) den_small))) ∙ sym t;
    })

-- the two sides of the slash
sides : (text : List ℕ) → (position_or_len is_slash text == length text) ≡ false → text ≡ before_first is_slash text ++ (47 ∷ after_first is_slash text)
sides text e =
    let within : position_or_len is_slash text < length text = grind (arith, nat_tests, e, prefix_len-le-length (λ b. not (is_slash b)) text) in
    let mark : get_or text (position_or_len is_slash text) 0 ≡ 47 = grind (arith, nat_tests, passes_at_first is_slash text 0 within) in
    split_at_first is_slash text 0 within ∙ ap (λ (m : ℕ). before_first is_slash text ++ (m ∷ after_first is_slash text)) mark

unsigned_good : (text : List ℕ) → IfOk (unsigned_read text) (IsUnsigned text)
unsigned_good text = by (position_or_len is_slash text == length text) refl
  where
    integer : (b : Bool) → is_numeral text ≡ b → IfOk (if b then integer_read (decimal_value text) else Err fault.Digit) (IsUnsigned text)
    integer true k = integer_good text k (nat_le (decimal_value text) most_part) refl
    integer false k = tt

    num : List ℕ
    num = before_first is_slash text

    den : List ℕ
    den = after_first is_slash text

    ratio : text ≡ num ++ (47 ∷ den) → (b c : Bool) → is_numeral num ≡ b → is_numeral den ≡ c → IfOk (if b && c then ratio_read (decimal_value num) (decimal_value den) else Err fault.Digit) (IsUnsigned text)
    ratio t true true k l = ratio_good text num den t k l (nat_le (decimal_value num) most_part && nat_le (decimal_value den) most_part) (decimal_value den == 0) (decimal_value den == 1 || not (gcd (decimal_value num) (decimal_value den) == 1)) refl refl refl
    ratio t false c k l = tt
    ratio t true false k l = tt

    by : (b : Bool) → (position_or_len is_slash text == length text) ≡ b → IfOk (unsigned_read text) (IsUnsigned text)
    by true e = rw e (integer (is_numeral text) refl)
    by false e = rw e (ratio (sides text e) (is_numeral num) (is_numeral den) refl refl)

back_above : (text : List ℕ) (x : ℚ) → IsUnsigned text x → frac_text x ≡ text
back_above text x u = ap frac_text u.value ∙ text_above u.num u.den u.parts ∙ u.text_is

back_below : (text : List ℕ) (n d : ℕ) → AreParts (pos n) d → unsigned_text n d ≡ text → may_be_negated text ≡ true → frac_text (neg_ℚ (frac (pos n) d)) ≡ 45 ∷ text
back_below text zero d h t k =
    let one : d ≡ 1 = sym (gcd-zero d 0 refl) ∙ gcd_comm d 0 ∙ h.lowest in
    let zero_text : text ≡ 48 ∷ [] = sym t ∙ ap (unsigned_text 0) one ∙ decimal_digit 0 (omega arith) in
    absurd (grind (arith, ap may_be_negated zero_text, k))
back_below text (suc n) d h t k = ap frac_text (frac_neg (pos (suc n)) d h.positive) ∙ text_below n d (turned_back n d h) ∙ ap (λ (l : List ℕ). 45 ∷ l) t

negated_good : (text : List ℕ) → may_be_negated text ≡ true → (r : Result ℚ NumberFault) → IfOk r (IsUnsigned text) → IfOk (negated r) (λ x. frac_text x ≡ 45 ∷ text)
negated_good text k (Ok x) u = ap (λ (y : ℚ). frac_text (neg_ℚ y)) u.value ∙ back_below text u.num u.den u.parts u.text_is k
negated_good text k (Err e) u = tt

plain_good : (text : List ℕ) (r : Result ℚ NumberFault) → IfOk r (IsUnsigned text) → IfOk r (λ x. frac_text x ≡ text)
plain_good text (Ok x) u = back_above text x u
plain_good text (Err e) u = tt

good : (text : List ℕ) → IfOk (frac_read text) (λ x. frac_text x ≡ text)
unfolding frac_read
good [] = tt
good (b ∷ text) = by (b == 43) (b == 45) (may_be_negated text) refl refl
  where
    by : (p m n : Bool) → (b == 45) ≡ m → may_be_negated text ≡ n → IfOk (if p then Err fault.Sign else if m then (if n then negated (unsigned_read text) else Err fault.Sign) else unsigned_read (b ∷ text)) (λ x. frac_text x ≡ b ∷ text)
    by true m n e k = tt
    by false true false e k = tt
    by false true true e k =
        let is : b ≡ 45 = grind (arith, nat_tests, e) in
        subst (λ (c : ℕ). IfOk (negated (unsigned_read text)) (λ x. frac_text x ≡ c ∷ text)) (sym is) (negated_good text k (unsigned_read text) (unsigned_good text))
    by false false n e k = plain_good (b ∷ text) (unsigned_read (b ∷ text)) (unsigned_good (b ∷ text))

-- whatever is read is written back
pub text-frac_read : (text : List ℕ) (r : Result ℚ NumberFault) → r ≡ frac_read text → IfOk r (λ x. frac_text x ≡ text)
text-frac_read text r e = subst (λ (q : Result ℚ NumberFault). IfOk q (λ x. frac_text x ≡ text)) (sym e) (good text)
