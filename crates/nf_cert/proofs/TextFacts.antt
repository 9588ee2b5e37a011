-- What is written into the cells of a certificate: text without spaces, which is read as it stands.
use Rattle.std.proofs.Common.{◌≡◌, ◌∙◌, ◌<◌, ◌+◌, ◌%◌, ◌^◌, ◌==◌, ◌∷◌, ℕ, suc, List, [], false, inl, inr, length, refl, ap, arith, ℤ, pos, negsuc, decimal}
use Rattle.std.specs.Fmt.{signed_decimal}
use Rattle.std.specs.List.{All}
use Rattle.std.specs.Str.{IsAscii, IsUtf8}
use Rattle.std.proofs.lemmas.Bool.{cases_Bool, cases_lt, ne_eqb}
use Rattle.std.proofs.lemmas.Fmt.{decimal_by_steps_wide}
use Rattle.std.proofs.lemmas.List.{get_or_past}
use Rattle.std.proofs.lemmas.List.Elements.{All-append, All-cons, All-head, All-nil, All-push, All-tail}
use Rattle.std.proofs.lemmas.Str.{IsUtf8-from_ascii}
use Rattle.nf_num.specs.Rational.{ℚ, numer, denom}
use Rattle.nf_frac.specs.Range.{InRange}
use Rattle.nf_frac.specs.Texts.{frac_text}
use Rattle.nf_cells.specs.Cells.{is_space, trim_end, trim_start, value_of}
use Rattle.nf_cert.specs.declared.item.Kind.{Kind}
use Rattle.nf_cert.specs.declared.item.Kind.TheVariants as kind
use Rattle.nf_cert.specs.declared.verdict.Verdict.{Verdict}
use Rattle.nf_cert.specs.declared.verdict.Verdict.TheVariants as verdict
use Rattle.nf_cert.specs.Items.{word}
use Rattle.nf_cert.specs.Verdicts.{verdict_word}
use Rattle.nf_cert.specs.Written.{HasParts}

-- a byte of ASCII that is no space
abbrev pub IsPlain : ℕ → Type 0
IsPlain b = (32 < b) × (b < 128)

-- ---- such texts
pub plain-decimal : (n : ℕ) → n < 10 ^ 64 → All IsPlain (decimal n)
plain-decimal n h =
    decimal_by_steps_wide (λ m ds. All IsPlain ds)
    (λ m l. All-cons IsPlain (48 + m) [] (omega (arith, l), omega (arith, l)) (All-nil IsPlain))
    (λ m ds l k. All-push IsPlain ds (48 + m % 10) k (omega arith, omega arith))
    n h

plain-signed : (z : ℤ) → InRange z → All IsPlain (signed_decimal z)
plain-signed (pos n) h = let small : n < 2 ^ 127 = h in plain-decimal n (omega (arith, small))
plain-signed (negsuc n) h = let small : suc n < 2 ^ 127 = h in All-cons IsPlain 45 (decimal (suc n)) (omega arith, omega arith) (plain-decimal (suc n) (omega (arith, small)))

pub plain-frac : (x : ℚ) → HasParts x → All IsPlain (frac_text x)
unfolding frac_text
plain-frac x h = elim (cases_Bool (denom x == 1)) [
  | inl whole ↦ rw whole (plain-signed (numer x) h.num_in_range)
  | inr other ↦ rw other (All-append IsPlain (signed_decimal (numer x)) (47 ∷ decimal (denom x)) (plain-signed (numer x) h.num_in_range)
      (All-cons IsPlain 47 (decimal (denom x)) (omega arith, omega arith) (plain-decimal (denom x) (omega (arith, h.den_in_range)))))
]

-- ---- are UTF-8
plain-ascii : (text : List ℕ) → All IsPlain text → IsAscii text
plain-ascii text h i = elim (cases_lt i (length text)) [
  | inl b ↦ (h i 0 b).1
  | inr k ↦ rw (get_or_past text i 0 k) (omega arith)
]

pub plain-utf8 : (text : List ℕ) → All IsPlain text → IsUtf8 text
plain-utf8 text h = IsUtf8-from_ascii text (plain-ascii text h)

-- ---- and are their own value
not-space : (b : ℕ) → 32 < b → is_space b ≡ false
not-space b h = ne_eqb b 32 (omega (arith, h))

end-kept : (text : List ℕ) → All IsPlain text → trim_end text ≡ text
end-kept [] h = refl
end-kept (b ∷ text) h = rw (not-space b (All-head IsPlain b text h).0) (ap (λ (t : List ℕ). b ∷ t) (end-kept text (All-tail IsPlain b text h)))

start-kept : (text : List ℕ) → All IsPlain text → trim_start text ≡ text
start-kept [] h = refl
start-kept (b ∷ text) h = rw (not-space b (All-head IsPlain b text h).0) refl

pub plain-value : (text : List ℕ) → All IsPlain text → value_of text ≡ text
plain-value text h = ap trim_end (start-kept text h) ∙ end-kept text h

pub word-value : (k : Kind) → value_of (word k) ≡ word k
word-value kind.Verdict = refl
word-value kind.Column = refl
word-value kind.Row = refl
word-value kind.Ray = refl

pub verdict-value : (v : Verdict) → value_of (verdict_word v) ≡ verdict_word v
verdict-value verdict.Optimal = refl
verdict-value verdict.Infeasible = refl
verdict-value verdict.Unbounded = refl
