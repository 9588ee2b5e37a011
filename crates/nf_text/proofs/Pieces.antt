-- The next piece, as a function gives it, is a piece of the text, and no other is.
use Rattle.std.proofs.Common.{◌≡◌, ◌≢◌, ℕ, suc, ◌≤◌, ◌+◌, Bool, true, false, cond, not, ◌&&◌, ◌||◌, nat_eq, List, [], ◌∷◌, ◌++◌, length, drop, take, Option, Some, None, Result, Ok, Err, refl, sym, ap, ◌∙◌, subst, arith, inl, inr, take-append-drop, append_assoc, length-take-le, length-append}
use Rattle.std.proofs.lemmas.List.{append-nil}
use Rattle.std.specs.Prelude.{option_map}
use Rattle.std.specs.List.{prefix_len}
use Rattle.std.proofs.lemmas.Bool.{eqb-true, eqb-false}
use Rattle.std.specs.Char.{is_ascii_digit}
use Rattle.nf_text.specs.declared.bytes.Class.{Class}
use Rattle.nf_text.specs.declared.bytes.Class.TheVariants.{Space, Letter, Digit, Minus, Mark, Slash, EqualsSign, Semicolon as SemicolonSign, Other}
use Rattle.nf_text.specs.declared.token.TokenKind.{TokenKind}
use Rattle.nf_text.specs.declared.token.TokenKind.TheVariants.{Quoted}
use Rattle.nf_text.specs.declared.token.TextFault.{TextFault}
use Rattle.nf_text.specs.declared.token.TextFault.TheVariants.{BadByte, OpenQuote}
use Rattle.nf_text.specs.Bytes.{class_of, is_space, is_letter, is_mark, is_word_byte, is_number_byte, may_stand, differs}
use Rattle.nf_text.specs.Tokens.{AllPass, ComesIn, HasNoEnd, Stops, Taken, IsStuck}
use Rattle.nf_text.specs.Next.{next, next_by, comment_len, close_comment, close_quote, ends_quote, comes, after_minus}

-- ---- the bytes with a class of their own

Is : Class → ℕ → Type 0
Is Minus b = b ≡ 45
Is Slash b = b ≡ 47
Is EqualsSign b = b ≡ 61
Is SemicolonSign b = b ≡ 59
Is _ b = Unit {0}

by_test : (t : Bool) (x y : Class) (b : ℕ) → (t ≡ true → Is x b) → Is y b → Is (cond t x y) b
by_test true x y b h g = h refl
by_test false x y b h g = g

class_is : (b : ℕ) → Is (class_of b) b
unfolding Is
class_is b =
    by_test (is_space b) Space _ b (λ _. tt)
    (by_test (is_letter b) Letter _ b (λ _. tt)
    (by_test (is_ascii_digit b) Digit _ b (λ _. tt)
    (by_test (is_mark b) Mark _ b (λ _. tt)
    (by_test (nat_eq b 45) Minus _ b (eqb-true b 45)
    (by_test (nat_eq b 47) Slash _ b (eqb-true b 47)
    (by_test (nat_eq b 61) EqualsSign _ b (eqb-true b 61)
    (by_test (nat_eq b 59) SemicolonSign Other b (eqb-true b 59) tt)))))))

-- ---- runs

-- what a run is: as many bytes as pass, and then none or one that does not
pub record IsRun (p : ℕ → Bool) (n : ℕ) (bs : List ℕ) : Type 0 where
  len : n ≤ length bs
  passes : AllPass p (take n bs)
  stops : Stops p (drop n bs)

run_by : (p : ℕ → Bool) (b : ℕ) (bs : List ℕ) (t : Bool) → p b ≡ t → IsRun p (prefix_len p bs) bs → IsRun p (cond t (1 + prefix_len p bs) 0) (b ∷ bs)
run_by p b bs true e h =
    let one : 1 + prefix_len p bs ≡ suc (prefix_len p bs) = omega arith in
    subst (λ (n : ℕ). IsRun p n (b ∷ bs)) (sym one) (record { len = omega (arith, h.len); passes = (e, h.passes); stops = h.stops })
run_by p b bs false e h = record { len = omega arith; passes = tt; stops = e }

run : (p : ℕ → Bool) (bs : List ℕ) → IsRun p (prefix_len p bs) bs
run p [] = record { len = omega arith; passes = tt; stops = tt }
run p (b ∷ bs) = run_by p b bs (p b) refl (run p bs)

run_none : (p : ℕ → Bool) (bs : List ℕ) → Stops p bs → prefix_len p bs ≡ 0
run_none p [] h = refl
run_none p (b ∷ bs) h = rw h refl

pub run_is : (p : ℕ → Bool) (front after : List ℕ) → AllPass p front → Stops p after → prefix_len p (front ++ after) ≡ length front
run_is p [] after pass stop = run_none p after stop
run_is p (b ∷ front) after pass stop =
    let h = run_is p front after pass.1 stop in
    rw (pass.0, h) (omega arith)

module _ {p : ℕ → Bool} {n : ℕ} {bs : List ℕ} (r : IsRun p n bs) where
  parts : bs ≡ take n bs ++ drop n bs
  parts = sym (take-append-drop n bs)

  run_length : length (take n bs) ≡ n
  run_length = length-take-le n bs r.len

-- ---- comments

CommentSays : List ℕ → Option ℕ → Type 0
CommentSays bs None = HasNoEnd bs
CommentSays bs (Some n) = (inside : List ℕ) × (after : List ℕ) × (bs ≡ inside ++ 42 ∷ 47 ∷ after) × (2 + length inside ≡ n) × HasNoEnd (inside ++ 42 ∷ [])

pub split_and : (a b : Bool) → (a && b) ≡ true → (a ≡ true) × (b ≡ true)
split_and true b h = (refl, h)
split_and false b h = absurd cc

not_both : (b c : ℕ) → (nat_eq b 42 && nat_eq c 47) ≡ false → (b ≡ 42) × (c ≡ 47) → ⊥
not_both b c h e =
    let t : (nat_eq b 42 && nat_eq c 47) ≡ true = rw (e.0, e.1) refl in
    absurd cc

more_comment : (b c : ℕ) (inside bs after : List ℕ) → c ∷ bs ≡ inside ++ 42 ∷ 47 ∷ after → ((b ≡ 42) × (c ≡ 47) → ⊥) → HasNoEnd (inside ++ 42 ∷ []) → HasNoEnd (b ∷ (inside ++ 42 ∷ []))
more_comment b c [] bs after e h ends = (λ two. absurd (omega (arith, two.1)), tt)
more_comment b c (x ∷ inside) bs after e h ends = (λ two. let same : c ≡ x = cc in h (two.0, same ∙ two.1), ends)

comment_by : (b c : ℕ) (bs : List ℕ) (t : Bool) (o : Option ℕ) → (nat_eq b 42 && nat_eq c 47) ≡ t → CommentSays (c ∷ bs) o → CommentSays (b ∷ c ∷ bs) (cond t (Some 2) (option_map (λ n. 1 + n) o))
unfolding CommentSays
comment_by b c bs true o e h =
    let two = split_and (nat_eq b 42) (nat_eq c 47) e in
    let eb : b ≡ 42 = eqb-true b 42 two.0 in
    let ec : c ≡ 47 = eqb-true c 47 two.1 in
    ([], bs, λ i. eb i ∷ ec i ∷ bs, refl, tt)
comment_by b c bs false None e h = (not_both b c e, h)
comment_by b c bs false (Some n) e h =
    (b ∷ h.0, h.1, ap (λ (t : List ℕ). b ∷ t) h.2, omega (arith, h.3), more_comment b c h.0 bs h.1 h.2 (not_both b c e) h.4)

comment_says : (bs : List ℕ) → CommentSays bs (comment_len bs)
unfolding CommentSays
comment_says [] = tt
comment_says (b ∷ []) = tt
comment_says (b ∷ c ∷ bs) = comment_by b c bs (nat_eq b 42 && nat_eq c 47) (comment_len (c ∷ bs)) refl (comment_says (c ∷ bs))

-- ---- what `next` says is so

unfoldable pub Says : ℕ → List ℕ → Result (Option TokenKind × ℕ) TextFault → Type 0
Says at text (Ok r) = Taken text r.0 r.1
Says at text (Err f) = IsStuck at text f

pub all_stand : (mark : ℕ) (bs : List ℕ) → AllPass (may_stand mark) bs → AllPass (differs mark) bs
all_stand mark [] h = tt
all_stand mark (b ∷ bs) h = ((split_and _ (differs mark b) h.0).1, all_stand mark bs h.1)

all_append : (p : ℕ → Bool) (a b : List ℕ) → AllPass p a → AllPass p b → AllPass p (a ++ b)
all_append p [] b h k = k
all_append p (x ∷ a) b h k = (h.0, all_append p a b h.1 k)

differs_by : (mark c : ℕ) → nat_eq c mark ≡ false → differs mark c ≡ true
differs_by mark c e = ap not e

Comes : ℕ → List ℕ → Bool → Type 0
Comes mark bs true = ComesIn mark bs
Comes mark bs false = AllPass (differs mark) bs

comes_by : (mark c : ℕ) (cs : List ℕ) (t u : Bool) → nat_eq c mark ≡ t → Comes mark cs u → Comes mark (c ∷ cs) (t || u)
unfolding Comes
comes_by mark c cs true u e h = ([], cs, ap (λ (d : ℕ). d ∷ cs) (eqb-true c mark e))
comes_by mark c cs false true e h = (c ∷ h.0, h.1, ap (λ (t : List ℕ). c ∷ t) h.2)
comes_by mark c cs false false e h = (differs_by mark c e, h)

comes_says : (mark : ℕ) (bs : List ℕ) → Comes mark bs (comes mark bs)
unfolding Comes
comes_says mark [] = tt
comes_says mark (c ∷ cs) = comes_by mark c cs (nat_eq c mark) (comes mark cs) refl (comes_says mark cs)

quote_by : (at mark : ℕ) (inside : List ℕ) (c : ℕ) (cs : List ℕ) (t u : Bool) → class_of mark ≡ Mark → AllPass (may_stand mark) inside → may_stand mark c ≡ false → nat_eq c mark ≡ t → Comes mark cs u
    → Says at (mark ∷ (inside ++ c ∷ cs)) (cond t (Ok (Some Quoted, 2 + length inside)) (cond u (Err (BadByte (at + 1 + length inside))) (Err (OpenQuote at))))
unfolding Says Comes
quote_by at mark inside c cs true u class pass stop e h =
    let same : c ≡ mark = eqb-true c mark e in
    (mark ∷ (inside ++ mark ∷ []), cs, ap (λ (d : ℕ). mark ∷ (inside ++ d ∷ cs)) same ∙ ap (λ (t : List ℕ). mark ∷ t) (sym (append_assoc inside (mark ∷ []) cs)), omega (arith, length-append inside (mark ∷ [])), (mark, inside, refl, class, pass), tt)
quote_by at mark inside c cs false true class pass stop e h =
    inr (mark, inside, c, cs, refl, class, pass, stop, eqb-false c mark e, h, refl)
quote_by at mark inside c cs false false class pass stop e h =
    (mark, inside ++ c ∷ cs, refl, class, all_append (differs mark) inside (c ∷ cs) (all_stand mark inside pass) (differs_by mark c e, h), refl)

quote_says : (at mark n : ℕ) (bs rest : List ℕ) → class_of mark ≡ Mark → IsRun (may_stand mark) n bs → drop n bs ≡ rest → Says at (mark ∷ bs) (close_quote at mark n rest)
unfolding Says
quote_says at mark n bs [] class r e =
    let whole : bs ≡ take n bs = parts r ∙ ap (λ (t : List ℕ). take n bs ++ t) e ∙ append-nil (take n bs) in
    (mark, take n bs, ap (λ (t : List ℕ). mark ∷ t) whole, class, all_stand mark (take n bs) r.passes, refl)
quote_says at mark n bs (c ∷ cs) class r e =
    let whole : take n bs ++ c ∷ cs ≡ bs = ap (λ (t : List ℕ). take n bs ++ t) (sym e) ∙ sym (parts r) in
    let stop : may_stand mark c ≡ false = subst (Stops (may_stand mark)) e r.stops in
    let P : List ℕ → ℕ → Type 0 = λ t m. Says at (mark ∷ t) (ends_quote at mark m c cs) in
    let made : P (take n bs ++ c ∷ cs) (length (take n bs)) = quote_by at mark (take n bs) c cs (nat_eq c mark) (comes mark cs) class r.passes stop refl (comes_says mark cs) in
    subst (λ (m : ℕ). P bs m) (run_length r) (subst (λ (t : List ℕ). P t (length (take n bs))) whole made)

comment_closes : (at slash star : ℕ) (bs : List ℕ) (o : Option ℕ) → slash ≡ 47 → star ≡ 42 → CommentSays bs o → Says at (slash ∷ star ∷ bs) (close_comment at o)
unfolding Says CommentSays
comment_closes at slash star bs None e f h = (bs, λ i. e i ∷ f i ∷ bs, h, refl)
comment_closes at slash star bs (Some n) e f h =
    let regrouped : h.0 ++ 42 ∷ 47 ∷ h.1 ≡ (h.0 ++ 42 ∷ 47 ∷ []) ++ h.1 = sym (append_assoc h.0 (42 ∷ 47 ∷ []) h.1) in
    (47 ∷ 42 ∷ (h.0 ++ 42 ∷ 47 ∷ []), h.1, λ i. e i ∷ f i ∷ (h.2 ∙ regrouped) i, omega (arith, length-append h.0 (42 ∷ 47 ∷ []), h.3), inr (h.0, refl, h.4), tt)

slash_by : (at b c : ℕ) (bs : List ℕ) (t : Bool) → class_of b ≡ Slash → nat_eq c 42 ≡ t → Says at (b ∷ c ∷ bs) (cond t (close_comment at (comment_len bs)) (Err (BadByte at)))
unfolding Says Is
slash_by at b c bs true class e = comment_closes at b c bs (comment_len bs) (subst (λ (x : Class). Is x b) class (class_is b)) (eqb-true c 42 e) (comment_says bs)
slash_by at b c bs false class e = inl (b, c ∷ bs, refl, inr (inr (class, λ more same. let is : c ≡ 42 = cc in eqb-false c 42 e is)), refl)

minus_other : (at b c : ℕ) (bs : List ℕ) → class_of b ≡ Minus → class_of c ≢ Digit → IsStuck at (b ∷ c ∷ bs) (BadByte at)
minus_other at b c bs class other = inl (b, c ∷ bs, refl, inr (inl (class, λ d more same digit. let is : c ≡ d = cc in other (ap class_of is ∙ digit))), refl)

minus_by : (at b c : ℕ) (bs : List ℕ) (x : Class) → class_of b ≡ Minus → class_of c ≡ x → Says at (b ∷ c ∷ bs) (after_minus x at bs)
unfolding Says Is
minus_by at b c bs Digit class e =
    let r = run is_number_byte bs in
    let minus : b ≡ 45 = subst (λ (x : Class). Is x b) class (class_is b) in
    (45 ∷ c ∷ take (prefix_len is_number_byte bs) bs, drop (prefix_len is_number_byte bs) bs, λ i. minus i ∷ c ∷ parts r i, omega (arith, run_length r), (c, take (prefix_len is_number_byte bs) bs, inr refl, e, r.passes), r.stops)
minus_by at b c bs Space class e = minus_other at b c bs class (λ d. absurd cc)
minus_by at b c bs Letter class e = minus_other at b c bs class (λ d. absurd cc)
minus_by at b c bs Mark class e = minus_other at b c bs class (λ d. absurd cc)
minus_by at b c bs Minus class e = minus_other at b c bs class (λ d. absurd cc)
minus_by at b c bs Slash class e = minus_other at b c bs class (λ d. absurd cc)
minus_by at b c bs EqualsSign class e = minus_other at b c bs class (λ d. absurd cc)
minus_by at b c bs SemicolonSign class e = minus_other at b c bs class (λ d. absurd cc)
minus_by at b c bs Other class e = minus_other at b c bs class (λ d. absurd cc)

says_by : (at b : ℕ) (bs : List ℕ) (x : Class) → class_of b ≡ x → Says at (b ∷ bs) (next_by x at b bs)
unfolding Says Is
says_by at b bs Space e = (b ∷ [], bs, refl, refl, inl (b, refl, e), tt)
says_by at b bs Letter e =
    let r = run is_word_byte bs in
    (b ∷ take (prefix_len is_word_byte bs) bs, drop (prefix_len is_word_byte bs) bs, ap (λ (t : List ℕ). b ∷ t) (parts r), omega (arith, run_length r), (b, take (prefix_len is_word_byte bs) bs, refl, e, r.passes), r.stops)
says_by at b bs Digit e =
    let r = run is_number_byte bs in
    (b ∷ take (prefix_len is_number_byte bs) bs, drop (prefix_len is_number_byte bs) bs, ap (λ (t : List ℕ). b ∷ t) (parts r), omega (arith, run_length r), (b, take (prefix_len is_number_byte bs) bs, inl refl, e, r.passes), r.stops)
says_by at b bs Mark e = quote_says at b (prefix_len (may_stand b) bs) bs (drop (prefix_len (may_stand b) bs) bs) e (run (may_stand b) bs) refl
says_by at b [] Minus e = inl (b, [], refl, inr (inl (e, λ d more same. absurd cc)), refl)
says_by at b (c ∷ bs) Minus e = minus_by at b c bs (class_of c) e refl
says_by at b [] Slash e = inl (b, [], refl, inr (inr (e, λ more same. absurd cc)), refl)
says_by at b (c ∷ bs) Slash e = slash_by at b c bs (nat_eq c 42) e refl
says_by at b bs EqualsSign e = (b ∷ [], bs, refl, refl, (let is : b ≡ 61 = subst (λ (x : Class). Is x b) e (class_is b) in λ i. is i ∷ []), tt)
says_by at b bs SemicolonSign e = (b ∷ [], bs, refl, refl, (let is : b ≡ 59 = subst (λ (x : Class). Is x b) e (class_is b) in λ i. is i ∷ []), tt)
says_by at b bs Other e = inl (b, bs, refl, inl e, refl)

-- what `next` says stands there
pub next_says : (at b : ℕ) (bs : List ℕ) → Says at (b ∷ bs) (next at b bs)
next_says at b bs = says_by at b bs (class_of b) refl
