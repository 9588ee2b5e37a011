-- What stands at the front of a text is what `next` says, so that a text is cut in one way.
use Rattle.std.proofs.Common.{◌≡◌, ℕ, zero, suc, ◌+◌, Bool, true, false, cond, not, ◌&&◌, ◌||◌, nat_eq, List, [], ◌∷◌, ◌++◌, length, drop, Option, Some, None, Result, Ok, Err, refl, sym, ap, ◌∙◌, arith, inl, inr, append_assoc, length-append}
use Rattle.std.specs.Prelude.{option_map}
use Rattle.std.specs.List.{prefix_len}
use Rattle.std.proofs.Math.Bool.{or-true}
use Rattle.std.proofs.lemmas.Bool.{eqb-true, false_from_ne_true, eq-eqb}
use Rattle.std.proofs.lemmas.List.{drop_at}
use Rattle.nf_text.specs.declared.bytes.Class.{Class}
use Rattle.nf_text.specs.declared.bytes.Class.TheVariants.{Space, Letter, Digit, Minus, Mark, Slash, EqualsSign, Semicolon as SemicolonSign, Other}
use Rattle.nf_text.specs.declared.token.TokenKind.{TokenKind}
use Rattle.nf_text.specs.declared.token.TokenKind.TheVariants.{Word, Number, Quoted, Equals, Semicolon}
use Rattle.nf_text.specs.declared.token.TextFault.{TextFault}
use Rattle.nf_text.specs.declared.token.TextFault.TheVariants.{BadByte, OpenComment, OpenQuote, NoMemory}
use Rattle.nf_text.specs.Bytes.{class_of, is_word_byte, is_number_byte, may_stand, differs}
use Rattle.nf_text.specs.Tokens.{AllPass, ComesIn, HasNoEnd, IsPiece, Ends, Stops, BeginsNothing, IsStuck}
use Rattle.nf_text.specs.Next.{next, next_by, comment_len, close_comment, close_quote, comes, after_minus}
use Rattle.nf_text.proofs.Pieces.{run_is, split_and}

abbrev Answer : Type 0
Answer = Result (Option TokenKind × ℕ) TextFault

abbrev found : Option TokenKind → ℕ → Answer
found k n = Ok (k, n)

not_true : (a : Bool) → not a ≡ true → a ≡ false
not_true true h = absurd cc
not_true false h = refl

not_tested : (b c : ℕ) → ((b ≡ 42) × (c ≡ 47) → ⊥) → (nat_eq b 42 && nat_eq c 47) ≡ false
not_tested b c h = false_from_ne_true _ (λ t. let two = split_and (nat_eq b 42) (nat_eq c 47) t in h (eqb-true b 42 two.0, eqb-true c 47 two.1))

none_again : (bs : List ℕ) → HasNoEnd bs → comment_len bs ≡ None
none_again [] h = refl
none_again (b ∷ []) h = refl
none_again (b ∷ c ∷ bs) h =
    ap (λ (t : Bool). cond t (Some 2) (option_map (λ n. 1 + n) (comment_len (c ∷ bs)))) (not_tested b c h.0) ∙ ap (option_map (λ n. 1 + n)) (none_again (c ∷ bs) h.1)

comment_again : (inside after : List ℕ) → HasNoEnd (inside ++ 42 ∷ []) → comment_len (inside ++ 42 ∷ 47 ∷ after) ≡ Some (2 + length inside)
comment_again [] after h = refl
comment_again (b ∷ []) after h = ap (λ (t : Bool). cond t (Some 2) (Some 3)) (not_tested b 42 h.0)
comment_again (b ∷ c ∷ inside) after h =
    ap (λ (t : Bool). cond t (Some 2) (option_map (λ n. 1 + n) (comment_len (c ∷ (inside ++ 42 ∷ 47 ∷ after))))) (not_tested b c h.0)
    ∙ ap (option_map (λ n. 1 + n)) (comment_again (c ∷ inside) after h.1)
    ∙ ap (λ (k : ℕ). Some k) (omega arith)

word_again : (at b : ℕ) (more after : List ℕ) → class_of b ≡ Letter → AllPass is_word_byte more → Stops is_word_byte after → next at b (more ++ after) ≡ Ok (Some Word, suc (length more))
word_again at b more after class pass stop =
    ap (λ (x : Class). next_by x at b (more ++ after)) class ∙ ap (found (Some Word)) (let e = run_is is_word_byte more after pass stop in omega (arith, e))

number_again : (at b : ℕ) (more after : List ℕ) → class_of b ≡ Digit → AllPass is_number_byte more → Stops is_number_byte after → next at b (more ++ after) ≡ Ok (Some Number, suc (length more))
number_again at b more after class pass stop =
    ap (λ (x : Class). next_by x at b (more ++ after)) class ∙ ap (found (Some Number)) (let e = run_is is_number_byte more after pass stop in omega (arith, e))

minus_again : (at b : ℕ) (more after : List ℕ) → class_of b ≡ Digit → AllPass is_number_byte more → Stops is_number_byte after → next at 45 (b ∷ (more ++ after)) ≡ Ok (Some Number, suc (suc (length more)))
minus_again at b more after class pass stop =
    ap (λ (x : Class). after_minus x at (more ++ after)) class ∙ ap (found (Some Number)) (let e = run_is is_number_byte more after pass stop in omega (arith, e))

same_mark : (mark : ℕ) → nat_eq mark mark ≡ true
same_mark mark = eq-eqb mark mark refl

mark_stops : (mark : ℕ) → may_stand mark mark ≡ false
mark_stops mark = false_from_ne_true _ (λ t. let two = split_and _ (not (nat_eq mark mark)) t in let s = same_mark mark in let n : nat_eq mark mark ≡ false = not_true (nat_eq mark mark) two.1 in absurd cc)

quote_again : (at mark : ℕ) (inside rest : List ℕ) → class_of mark ≡ Mark → AllPass (may_stand mark) inside → Stops (may_stand mark) rest → next at mark (inside ++ rest) ≡ close_quote at mark (length inside) rest
quote_again at mark inside rest class pass stop =
    let n : prefix_len (may_stand mark) (inside ++ rest) ≡ length inside = run_is (may_stand mark) inside rest pass stop in
    ap (λ (x : Class). next_by x at mark (inside ++ rest)) class
    ∙ ap (λ (k : ℕ). close_quote at mark k (drop k (inside ++ rest))) n
    ∙ ap (close_quote at mark (length inside)) (drop_at inside rest (length inside) refl)

-- a piece at the front is the next one
pub next_again : (at b : ℕ) (bs : List ℕ) (k : Option TokenKind) (piece after : List ℕ) → b ∷ bs ≡ piece ++ after → IsPiece k piece → Ends k after → next at b bs ≡ Ok (k, length piece)
next_again at b bs None piece after e (inl p) ends =
    let whole : b ∷ bs ≡ p.0 ∷ after = e ∙ ap (λ (t : List ℕ). t ++ after) p.1 in
    let eb : b ≡ p.0 = cc in
    ap (λ (x : Class). next_by x at b bs) (ap class_of eb ∙ p.2) ∙ ap (found None) (ap length (sym p.1))
next_again at b bs None piece after e (inr p) ends =
    let whole : b ∷ bs ≡ 47 ∷ 42 ∷ (p.0 ++ 42 ∷ 47 ∷ after) = e ∙ ap (λ (t : List ℕ). t ++ after) p.1 ∙ ap (λ (t : List ℕ). 47 ∷ 42 ∷ t) (append_assoc p.0 (42 ∷ 47 ∷ []) after) in
    let eb : b ≡ 47 = cc in
    let ebs : bs ≡ 42 ∷ (p.0 ++ 42 ∷ 47 ∷ after) = cc in
    (λ i. next at (eb i) (ebs i)) ∙ ap (close_comment at) (comment_again p.0 after p.2) ∙ ap (found None) (omega (arith, ap length p.1, length-append p.0 (42 ∷ 47 ∷ [])))
next_again at b bs (Some Word) piece after e p ends =
    let whole : b ∷ bs ≡ p.0 ∷ (p.1 ++ after) = e ∙ ap (λ (t : List ℕ). t ++ after) p.2 in
    let eb : b ≡ p.0 = cc in
    let ebs : bs ≡ p.1 ++ after = cc in
    (λ i. next at (eb i) (ebs i)) ∙ word_again at p.0 p.1 after p.3 p.4 ends ∙ ap (found (Some Word)) (ap length (sym p.2))
next_again at b bs (Some Number) piece after e p ends =
    elim p.2 [
      | inl plain ↦ let whole : b ∷ bs ≡ p.0 ∷ (p.1 ++ after) = e ∙ ap (λ (t : List ℕ). t ++ after) plain in
          let eb : b ≡ p.0 = cc in
          let ebs : bs ≡ p.1 ++ after = cc in
          (λ i. next at (eb i) (ebs i)) ∙ number_again at p.0 p.1 after p.3 p.4 ends ∙ ap (found (Some Number)) (ap length (sym plain))
      | inr minus ↦ let whole : b ∷ bs ≡ 45 ∷ p.0 ∷ (p.1 ++ after) = e ∙ ap (λ (t : List ℕ). t ++ after) minus in
          let eb : b ≡ 45 = cc in
          let ebs : bs ≡ p.0 ∷ (p.1 ++ after) = cc in
          (λ i. next at (eb i) (ebs i)) ∙ minus_again at p.0 p.1 after p.3 p.4 ends ∙ ap (found (Some Number)) (ap length (sym minus))
    ]
next_again at b bs (Some Quoted) piece after e p ends =
    let whole : b ∷ bs ≡ p.0 ∷ (p.1 ++ p.0 ∷ after) = e ∙ ap (λ (t : List ℕ). t ++ after) p.2 ∙ ap (λ (t : List ℕ). p.0 ∷ t) (append_assoc p.1 (p.0 ∷ []) after) in
    let eb : b ≡ p.0 = cc in
    let ebs : bs ≡ p.1 ++ p.0 ∷ after = cc in
    (λ i. next at (eb i) (ebs i)) ∙ quote_again at p.0 p.1 (p.0 ∷ after) p.3 p.4 (mark_stops p.0)
    ∙ ap (λ (t : Bool). cond t (Ok (Some Quoted, 2 + length p.1)) (cond (comes p.0 after) (Err (BadByte (at + 1 + length p.1))) (Err (OpenQuote at)))) (same_mark p.0)
    ∙ ap (found (Some Quoted)) (omega (arith, ap length p.2, length-append p.1 (p.0 ∷ [])))
next_again at b bs (Some Equals) piece after e p ends =
    let whole : b ∷ bs ≡ 61 ∷ after = e ∙ ap (λ (t : List ℕ). t ++ after) p in
    let eb : b ≡ 61 = cc in
    ap (λ (c : ℕ). next at c bs) eb ∙ ap (found (Some Equals)) (ap length (sym p))
next_again at b bs (Some Semicolon) piece after e p ends =
    let whole : b ∷ bs ≡ 59 ∷ after = e ∙ ap (λ (t : List ℕ). t ++ after) p in
    let eb : b ≡ 59 = cc in
    ap (λ (c : ℕ). next at c bs) eb ∙ ap (found (Some Semicolon)) (ap length (sym p))

minus_not : (at : ℕ) (c : ℕ) (bs : List ℕ) (x : Class) → class_of c ≡ x → (x ≡ Digit → ⊥) → after_minus x at bs ≡ Err (BadByte at)
minus_not at c bs Digit e h = absurd (h refl)
minus_not at c bs Space e h = refl
minus_not at c bs Letter e h = refl
minus_not at c bs Mark e h = refl
minus_not at c bs Minus e h = refl
minus_not at c bs Slash e h = refl
minus_not at c bs EqualsSign e h = refl
minus_not at c bs SemicolonSign e h = refl
minus_not at c bs Other e h = refl

nothing_again : (at b : ℕ) (bs : List ℕ) → BeginsNothing b bs → next at b bs ≡ Err (BadByte at)
nothing_again at b bs (inl class) = ap (λ (x : Class). next_by x at b bs) class
nothing_again at b [] (inr (inl p)) = ap (λ (x : Class). next_by x at b []) p.0
nothing_again at b (c ∷ bs) (inr (inl p)) = ap (λ (x : Class). next_by x at b (c ∷ bs)) p.0 ∙ minus_not at c bs (class_of c) refl (p.1 c bs refl)
nothing_again at b [] (inr (inr p)) = ap (λ (x : Class). next_by x at b []) p.0
nothing_again at b (c ∷ bs) (inr (inr p)) = ap (λ (x : Class). next_by x at b (c ∷ bs)) p.0
    ∙ ap (λ (t : Bool). cond t (close_comment at (comment_len bs)) (Err (BadByte at))) (false_from_ne_true _ (λ t. p.1 bs (ap (λ (d : ℕ). d ∷ bs) (eqb-true c 42 t))))

-- ---- quotes

comes_again : (mark : ℕ) (bs : List ℕ) → ComesIn mark bs → comes mark bs ≡ true
comes_again mark bs h = ap (comes mark) h.2 ∙ comes_in h.0 where
  comes_in : (before : List ℕ) → comes mark (before ++ mark ∷ h.1) ≡ true
  comes_in [] = ap (λ (t : Bool). t || comes mark h.1) (same_mark mark)
  comes_in (c ∷ before) = ap (λ (t : Bool). nat_eq c mark || t) (comes_in before) ∙ or-true (nat_eq c mark)

none_comes : (mark : ℕ) (bs : List ℕ) → AllPass (differs mark) bs → comes mark bs ≡ false
none_comes mark [] h = refl
none_comes mark (c ∷ cs) h = (λ i. not_true (nat_eq c mark) h.0 i || none_comes mark cs h.1 i)

all_behind : (p : ℕ → Bool) (n : ℕ) (bs : List ℕ) → AllPass p bs → AllPass p (drop n bs)
all_behind p zero bs h = h
all_behind p (suc n) [] h = h
all_behind p (suc n) (b ∷ bs) h = all_behind p n bs h.1

open_by : (at mark n : ℕ) (rest : List ℕ) → AllPass (differs mark) rest → close_quote at mark n rest ≡ Err (OpenQuote at)
open_by at mark n [] h = refl
open_by at mark n (c ∷ cs) h =
    ap (λ (t : Bool). cond t (Ok (Some Quoted, 2 + n)) (cond (comes mark cs) (Err (BadByte (at + 1 + n))) (Err (OpenQuote at)))) (not_true (nat_eq c mark) h.0)
    ∙ ap (λ (t : Bool). cond t (Err (BadByte (at + 1 + n))) (Err (OpenQuote at))) (none_comes mark cs h.1)

open_again : (at mark : ℕ) (bs : List ℕ) → class_of mark ≡ Mark → AllPass (differs mark) bs → next at mark bs ≡ Err (OpenQuote at)
open_again at mark bs class h =
    ap (λ (x : Class). next_by x at mark bs) class ∙ open_by at mark (prefix_len (may_stand mark) bs) (drop (prefix_len (may_stand mark) bs) bs) (all_behind (differs mark) (prefix_len (may_stand mark) bs) bs h)

-- a fault at the front is what `next` answers
pub stuck_again : (at b : ℕ) (bs : List ℕ) (f : TextFault) → IsStuck at (b ∷ bs) f → next at b bs ≡ Err f
stuck_again at b bs (BadByte n) (inl p) =
    let eb : b ≡ p.0 = cc (p.2) in
    let ebs : bs ≡ p.1 = cc (p.2) in
    (λ i. next at (eb i) (ebs i)) ∙ nothing_again at p.0 p.1 p.3 ∙ ap (λ (m : ℕ). Err (BadByte m)) (sym p.4)
stuck_again at b bs (BadByte n) (inr p) =
    let eb : b ≡ p.0 = cc (p.4) in
    let ebs : bs ≡ p.1 ++ p.2 ∷ p.3 = cc (p.4) in
    (λ i. next at (eb i) (ebs i)) ∙ quote_again at p.0 p.1 (p.2 ∷ p.3) p.5 p.6 p.7
    ∙ ap (λ (t : Bool). cond t (Ok (Some Quoted, 2 + length p.1)) (cond (comes p.0 p.3) (Err (BadByte (at + 1 + length p.1))) (Err (OpenQuote at)))) (false_from_ne_true _ (λ t. p.8 (eqb-true p.2 p.0 t)))
    ∙ ap (λ (t : Bool). cond t (Err (BadByte (at + 1 + length p.1))) (Err (OpenQuote at))) (comes_again p.0 p.3 p.9)
    ∙ ap (λ (m : ℕ). Err (BadByte m)) (sym p.10)
stuck_again at b bs (OpenComment n) p =
    let eb : b ≡ 47 = cc (p.1) in
    let ebs : bs ≡ 42 ∷ p.0 = cc (p.1) in
    (λ i. next at (eb i) (ebs i)) ∙ ap (close_comment at) (none_again p.0 p.2) ∙ ap (λ (m : ℕ). Err (OpenComment m)) (sym p.3)
stuck_again at b bs (OpenQuote n) p =
    let eb : b ≡ p.0 = cc (p.2) in
    let ebs : bs ≡ p.1 = cc (p.2) in
    (λ i. next at (eb i) (ebs i)) ∙ open_again at p.0 p.1 p.3 p.4 ∙ ap (λ (m : ℕ). Err (OpenQuote m)) (sym p.5)
stuck_again at b bs NoMemory p = absurd p
