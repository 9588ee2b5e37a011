-- Names and the texts of numbers are ASCII, and so UTF-8.
use Rattle.std.proofs.Common.{◌≡◌, ◌<◌, ◌/◌, ◌%◌, ◌==◌, ◌++◌, ◌∷◌, ◌&&◌, ◌⊎◌, ℕ, zero, suc, ℤ, pos, negsuc, Bool, true, false, cond, List, [], length, get_or, inl, inr, arith, decimal, filter, nat_le, not}
use Rattle.std.specs.Fmt.{digit_glyph, digits, digits_onto, signed_decimal}
use Rattle.std.specs.List.{All, flat_map, list_all}
use Rattle.std.specs.Str.{IsUtf8, bytes_eq}
use Rattle.std.proofs.lemmas.Bool.{cases_Bool}
use Rattle.std.proofs.lemmas.Bool.Decides.{nat_tests}
use Rattle.std.proofs.lemmas.List.Sums.{AllPass-from_list_all}
use Rattle.std.proofs.lemmas.List.Elements.{All-append, All-cons, All-filter, All-head, All-nil, All-tail, All-weaker}
use Rattle.std.proofs.lemmas.Str.{IsUtf8-from_ascii}
use Rattle.std.proofs.lemmas.Str.Ascii.{IsAscii-from_all}
use Rattle.nf_num.specs.Rational.{ℚ, numer, denom}
use Rattle.nf_frac.specs.Texts.{frac_text}
use Rattle.nf_cells.specs.Cells.{is_blank, is_name, is_name_byte, value_of}
use Rattle.nf_cells.specs.Names.{Name, first_seen}
use Rattle.nf_cells.specs.Values.{name_in, name_of, value_or_bad}
use Rattle.nf_cells.specs.declared.values.Cell.TheVariants.{Missing}
use Rattle.nf_network.specs.Arcs.{said}
use Rattle.nf_network.specs.Excess.{joined_below}

-- Each byte is ASCII.
abbrev pub IsPlain : List ℕ → Type 0
IsPlain text = All (λ b. b < 128) text

pub plain-nil : IsPlain []
plain-nil = All-nil (λ b. b < 128)

pub plain-cons : (b : ℕ) (text : List ℕ) → b < 128 → IsPlain text → IsPlain (b ∷ text)
plain-cons b text = All-cons (λ c. c < 128) b text

pub plain-append : (text more : List ℕ) → IsPlain text → IsPlain more → IsPlain (text ++ more)
plain-append = All-append (λ b. b < 128)

pub plain-utf8 : (text : List ℕ) → IsPlain text → IsUtf8 text
plain-utf8 text h = IsUtf8-from_ascii text (IsAscii-from_all text h)

-- ---- numbers
glyph : (d : ℕ) → d < 10 → digit_glyph false d < 128
glyph d h = grind (arith, nat_tests)

plain-onto : (k n : ℕ) (text : List ℕ) → IsPlain text → IsPlain (digits_onto k 10 false n text)
plain-onto zero n text h = h
plain-onto (suc k) n text h =
    let more = plain-cons (digit_glyph false (n % 10)) text (glyph (n % 10) (omega arith)) h in
    by_test (n / 10 == 0) more (plain-onto k (n / 10) (digit_glyph false (n % 10) ∷ text) more)
  where
    by_test : (t : Bool) → IsPlain (digit_glyph false (n % 10) ∷ text) → IsPlain (digits_onto k 10 false (n / 10) (digit_glyph false (n % 10) ∷ text))
        → IsPlain (cond t (digit_glyph false (n % 10) ∷ text) (digits_onto k 10 false (n / 10) (digit_glyph false (n % 10) ∷ text)))
    by_test true last more = last
    by_test false last more = more

pub plain-decimal : (n : ℕ) → IsPlain (decimal n)
unfolding digits
plain-decimal n = plain-onto 64 n [] plain-nil

plain-signed : (z : ℤ) → IsPlain (signed_decimal z)
plain-signed (pos n) = plain-decimal n
plain-signed (negsuc n) = plain-cons 45 (decimal (suc n)) (omega arith) (plain-decimal (suc n))

pub plain-frac : (x : ℚ) → IsPlain (frac_text x)
unfolding frac_text
plain-frac x = by_test (denom x == 1)
  where
    by_test : (t : Bool) → IsPlain (cond t (signed_decimal (numer x)) (signed_decimal (numer x) ++ (47 ∷ decimal (denom x))))
    by_test true = plain-signed (numer x)
    by_test false = plain-append (signed_decimal (numer x)) (47 ∷ decimal (denom x)) (plain-signed (numer x)) (plain-cons 47 (decimal (denom x)) (omega arith) (plain-decimal (denom x)))

-- ---- names
name-byte : (b : ℕ) → is_name_byte b ≡ true → b < 128
name-byte b h = grind (arith, nat_tests)

third : (a b c : Bool) → (a && b && c) ≡ true → c ≡ true
third true true c h = h
third true false c h = absurd (cc)
third false b c h = absurd (cc)

pub plain-name : (text : Name) → is_name text ≡ true → IsPlain text
plain-name text h =
    let all : list_all is_name_byte text ≡ true = third (nat_le 1 (length text)) (nat_le (length text) 32) (list_all is_name_byte text) h in
    All-weaker (λ b. is_name_byte b ≡ true) (λ b. b < 128) name-byte text (AllPass-from_list_all is_name_byte text all)

-- The name that a cell says, or else other text.
pub plain-said : (default cell : List ℕ) → IsPlain default → IsPlain (said default (name_in cell))
plain-said default cell h = by_tests (is_blank (value_of cell)) (cases_Bool (is_name (value_of cell)))
  where
    by_tests : (blank : Bool) → (is_name (value_of cell) ≡ true) ⊎ (is_name (value_of cell) ≡ false) → IsPlain (said default (cond blank Missing (value_or_bad (name_of (value_of cell)))))
    by_tests true t = h
    by_tests false (inl e) = rw e (plain-name (value_of cell) e)
    by_tests false (inr e) = rw e h

-- ---- lists
pub all-flat : {A B : Type 0} (P : B → Type 0) (f : A → List B) (xs : List A) → All (λ x. All P (f x)) xs → All P (flat_map f xs)
all-flat P f [] h = All-nil P
all-flat P f (x ∷ xs) h = All-append P (f x) (flat_map f xs) (All-head (λ y. All P (f y)) x xs h) (all-flat P f xs (All-tail (λ y. All P (f y)) x xs h))

pub all-joined : {A : Type 0} (P : A → Type 0) (n : ℕ) (f : ℕ → List A) → ((k : ℕ) → k < n → All P (f k)) → All P (joined_below n f)
unfolding joined_below
all-joined P zero f h = All-nil P
all-joined P (suc n) f h = All-append P (joined_below n f) (f n) (all-joined P n f (λ k below. h k (omega (arith, below)))) (h n (omega arith))

pub all-seen : (P : Name → Type 0) (names : List Name) → All P names → All P (first_seen names)
unfolding first_seen
all-seen P [] h = All-nil P
all-seen P (n ∷ ns) h =
    All-cons P n (filter (λ m. not (bytes_eq n m)) (first_seen ns)) (All-head P n ns h)
    (All-filter (λ m. not (bytes_eq n m)) P (first_seen ns) (all-seen P ns (All-tail P n ns h)))

pub plain-at : (names : List Name) (k : ℕ) → All IsPlain names → IsPlain (get_or names k [])
plain-at [] k h = plain-nil
plain-at (n ∷ ns) zero h = All-head IsPlain n ns h
plain-at (n ∷ ns) (suc k) h = plain-at ns k (All-tail IsPlain n ns h)

pub two-all : {A : Type 0} (P : A → Type 0) (s t : Bool) (x y : A) → P x → P y → All P (cond s (x ∷ []) [] ++ cond t (y ∷ []) [])
two-all P true true x y h k = All-cons P x (y ∷ []) h (All-cons P y [] k (All-nil P))
two-all P true false x y h k = All-cons P x [] h (All-nil P)
two-all P false true x y h k = All-cons P y [] k (All-nil P)
two-all P false false x y h k = All-nil P
